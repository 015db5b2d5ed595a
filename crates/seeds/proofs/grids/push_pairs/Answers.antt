-- `seeds::grids::push_pairs` meets its contract. Assumes nothing.
use Rattle.std.proofs.Common.{◌≡◌, refl, ap, ◌∙◌, [], map, suc, ◌+◌, ◌*◌, ◌≤◌, mul-le-mul_left, mul-le-mul_right, suc-mul, zero-mul, mul-zero, add-one, arith, rules, length, get_or, take, take_all}
use Rattle.std.proofs.lemmas.List.{length-map}
use Rattle.std.specs.Float.{nan}
use Rattle.seeds.specs.Layout.{read_from}
use Rattle.seeds.specs.Merge.{keep}
use Rattle.seeds.specs.Rules.{tilts, pairs, items_within}
use Rattle.seeds.proofs.RulesLaws.{entries_within_length_le, grid_entries_take_suc}
use Rattle.seeds.proofs.Steps.{merge_under_way_at_start, merge_under_way_after_more}
use Rattle.seeds.proofs.grids.push_pairs.Goals as goal

pub loop-number-init : goal.loop-number-init
unfolding read_from pairs keep
loop-number-init g c =
    let l = c.new-list.result.numbers.now in
    let none = c.new-list.ensures.none_kept in
    (search rules, refl, rw (zero-mul, none) (search rules), refl, λ f h is also. rw none (merge_under_way_at_start g.met.E.Item.lies g.E.Item.near l 0 (rw mul-zero (search rules))).leaves)

pub push_row-requires : goal.push_row-requires
push_row-requires g c =
    let a = c.args in
    let w = g.E.Item.width in
    let i = c.loop-number.number-index in
    let x = length a.x_numbers.now in
    let y = length a.y_numbers.now in
    let k = c.loop-number.invariant in
    let h : suc i ≤ x = search rules in
    let r : c.loop-number.list.count + y ≤ x * y = omega (arith, k.2, mul-le-mul_right y h, suc-mul i y) in
    record { callable = c.requires.y_callable; room = omega (arith, mul-le-mul_left w r, ap length c.new-list.ensures.same_numbers, k.3, c.requires.room) }

pub loop-number-preserved : goal.loop-number-preserved
loop-number-preserved g c =
    let e = g.E.Item in
    let a = c.args in
    let i = c.loop-number.number-index in
    let ds = a.x_numbers.now in
    let y = length a.y_numbers.now in
    let of = e.tilted a.beside in
    let max = a.max_abs_tilt in
    let k = c.loop-number.invariant in
    let p = c.push_row.ensures in (
      search rules,
      p.same_reference ∙ k.1,
      omega (arith, p.few, k.2, suc-mul i y),
      p.same_length ∙ k.3,
      λ f h is also.
          let ys = map h a.y_numbers.now in
          let q : c.along_x.result ≡ f (get_or ds i nan) = is _ _ c.along_x.ensures in
          let row = map (tilts (f (get_or ds i nan))) ys in
          let len : length row ≡ y = length-map ys (tilts (f (get_or ds i nan))) ∙ length-map a.y_numbers.now h in
          rw (add-one i)
          (merge_under_way_after_more g.met.E.Item.lies e.near [] (items_within of max (pairs (map f (take i ds)) ys)) (items_within of max row) (items_within of max (pairs (map f (take (suc i) ds)) ys))
          c.new-list.result.numbers.now c.loop-number.list.numbers.now c.push_row.new.list.numbers.now c.loop-number.list.count c.push_row.new.list.count (i * y) (suc i * y)
          (record { leaves = k.4 f h is also; few = k.2; same = k.3 }) (rw q at (p.pushed h also)) p.same_length (omega (arith, entries_within_length_le of max row, suc-mul i y)) (grid_entries_take_suc of max f ds ys i (search rules))).leaves,
    )

pub returns : goal.returns
returns g c f h is also =
    let ds = c.args.x_numbers.now in
    let e : take c.loop-number.number-index ds ≡ ds = take_all c.loop-number.number-index ds (search rules) in
    let whole = rw (e, c.new-list.ensures.same_numbers) at (c.loop-number.invariant.4 f h is also) in
    let name = c.loop-number.invariant.1 ∙ c.new-list.ensures.same_reference in
    search rules
