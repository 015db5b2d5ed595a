-- `seeds::grids::push_row` meets its contract. Assumes nothing.
use Rattle.std.proofs.Common.{◌≡◌, refl, ◌∙◌, [], ◌∷◌, map, suc, ◌+◌, ◌≤◌, add-one, arith, mul-le-mul_left, rules, length, get_or, take, take_all}
use Rattle.std.proofs.Math.Nat.{mul-suc}
use Rattle.std.specs.Float.{nan}
use Rattle.seeds.specs.Layout.{read_from}
use Rattle.seeds.specs.LayoutLaws.{read_length}
use Rattle.seeds.specs.Merge.{keep}
use Rattle.seeds.proofs.MergeLaws.{merged_into_length_le_sum}
use Rattle.seeds.specs.Rules.{tilts, items_within}
use Rattle.seeds.proofs.RulesLaws.{entries_within_length_le, row_entries_take_suc}
use Rattle.seeds.proofs.Steps.{merge_under_way_at_start, merge_under_way_after_more}
use Rattle.seeds.proofs.grids.push_row.Goals as goal

pub loop-number-init : goal.loop-number-init
unfolding keep
loop-number-init g c =
    let a = c.args in
    let h : a.list.now.count ≤ a.list.now.count + length a.y_numbers.now = omega arith in
    (search rules, refl, omega arith, refl, λ f is. (merge_under_way_at_start g.met.E.Item.lies g.E.Item.near a.list.now.numbers.now a.list.now.count (omega (arith, mul-le-mul_left g.E.Item.width h, c.requires.room))).leaves)

pub push_in_bound-requires : goal.push_in_bound-requires
push_in_bound-requires g c =
    let w = g.E.Item.width in
    let n = c.loop-number.list.count in
    let k = c.loop-number.invariant in
    let h : suc n ≤ c.args.list.now.count + length c.args.y_numbers.now = omega (arith, k.2, c.loop-number-test.true) in
    omega (arith, mul-le-mul_left w h, mul-suc w n, c.requires.room, k.3)

pub loop-number-preserved : goal.loop-number-preserved
loop-number-preserved g c =
    let e = g.E.Item in
    let a = c.args in
    let j = c.loop-number.number-index in
    let l = a.list.now.numbers.now in
    let n = c.loop-number.list.count in
    let ds = a.y_numbers.now in
    let of = e.tilted a.beside in
    let max = a.max_abs_tilt in
    let k = c.loop-number.invariant in
    let p = c.push_in_bound.ensures in
    let one = tilts a.tilt_x c.along_y.result ∷ [] in
    let few : c.push_in_bound.new.self.count ≤ a.list.now.count + (j + 1) =
    rw p.pushed.count_is (omega (arith, k.2, merged_into_length_le_sum e.near (read_from e.first e.width n c.loop-number.list.numbers.now) (items_within of max one), read_length e.first e.width n c.loop-number.list.numbers.now, entries_within_length_le of max one)) in (
      omega (arith, c.loop-number-test.true),
      p.same_reference ∙ k.1,
      few,
      p.same_length ∙ k.3,
      λ f is.
          let q : c.along_y.result ≡ f (get_or ds j nan) = is _ _ c.along_y.ensures in
          rw (add-one j)
          (merge_under_way_after_more g.met.E.Item.lies e.near (read_from e.first e.width a.list.now.count l) (items_within of max (map (tilts a.tilt_x) (map f (take j ds)))) (items_within of max one)
          (items_within of max (map (tilts a.tilt_x) (map f (take (suc j) ds))))
          l c.loop-number.list.numbers.now c.push_in_bound.new.self.numbers.now n c.push_in_bound.new.self.count (a.list.now.count + j) (a.list.now.count + suc j)
          (record { leaves = k.4 f is; few = k.2; same = k.3 }) p.pushed p.same_length (omega (arith, entries_within_length_le of max one)) (rw q (row_entries_take_suc of max f a.tilt_x ds j c.loop-number-test.true))).leaves,
    )

pub returns-clause-few : goal.returns-clause-few
returns-clause-few g c = omega (arith, c.loop-number.invariant.2, c.loop-number.invariant.0)

pub returns-clause-pushed : goal.returns-clause-pushed
returns-clause-pushed g c f is =
    let ds = c.args.y_numbers.now in
    let e : take c.loop-number.number-index ds ≡ ds = take_all c.loop-number.number-index ds (search rules) in
    rw e at (c.loop-number.invariant.4 f is)
