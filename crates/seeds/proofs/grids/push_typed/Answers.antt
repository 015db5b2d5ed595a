-- `seeds::grids::push_typed` meets its contract. Assumes nothing.
use Rattle.std.proofs.Common.{◌≡◌, refl, sym, ap, ◌∙◌, List, [], ◌∷◌, ◌++◌, map, suc, ◌+◌, ◌*◌, add-zero, add-one, arith, rules, take, take_all, take-append-drop, drop}
use mathlib.Core.List.{map-append}
use Rattle.camera.specs.declared.sensor.ScheimpflugParams.{ScheimpflugParams}
use Rattle.seeds.specs.declared.CandidateSeed.{CandidateSeed}
use Rattle.seeds.specs.Layout.{seed_at, seeds_of, tilts_at, tilts_of}
use Rattle.seeds.specs.LayoutLaws.{seeds_layout, read_drop, read_take, read_length}
use Rattle.seeds.specs.Merge.{merged_into}
use Rattle.seeds.specs.Rules.{near, seed_with}
use Rattle.seeds.proofs.MergeLaws.{merged_into_not_shorter}
use Rattle.seeds.proofs.Steps.{left_records_read_back, merge_under_way_at_start, merge_under_way_after_more}
use Rattle.seeds.proofs.TypedApart.{typed_seeds_not_near}
use Rattle.seeds.proofs.grids.push_typed.Goals as goal

pub loop-i-init : goal.loop-i-init
loop-i-init c =
    let a = c.args in
    (search rules, refl, rw add-zero (merge_under_way_at_start seeds_layout near a.list.now.numbers.now a.list.now.count (search rules)))

-- the seeds that were kept before are still there
pub push_among-requires-clause-kept : goal.push_among-requires-clause-kept
push_among-requires-clause-kept c =
    let a = c.args in
    let k = a.list.now.count in
    let l = a.list.now.numbers.now in
    let xs = map (seed_with a.base_k) (take c.loop-i.i (tilts_of a.number a.grid.now)) in
    omega (arith, c.loop-i.invariant.2.leaves.count_is, merged_into_not_shorter near (seeds_of k l) xs, read_length (λ m. seed_at m 0) 6 k l)

-- and those behind them are typed tilts, which aren't near this one
pub push_among-requires-clause-others_far : goal.push_among-requires-clause-others_far
push_among-requires-clause-others_far c =
    let a = c.args in
    let i = c.loop-i.i in
    let seeded = seed_with a.base_k in
    let k = a.list.now.count in
    let l = a.list.now.numbers.now in
    let ts = tilts_of a.number a.grid.now in
    let t = tilts_at (drop (2 * i) a.grid.now) 0 in
    let ks = seeds_of k l in
    let split : ts ≡ take i ts ++ t ∷ drop (suc i) ts =
    sym (take-append-drop i ts) ∙ ap (λ (xs : List ScheimpflugParams). take i ts ++ xs) (read_drop (λ m. tilts_at m 0) 2 a.number i a.grid.now (search rules))
    in
    let far = typed_seeds_not_near a.base_k t ks (take i ts) (c.requires.apart (take i ts) t (drop (suc i) ts) split) in
    let now = left_records_read_back seeds_layout (merged_into near ks (map seeded (take i ts))) l c.loop-i.list.numbers.now c.loop-i.list.count c.loop-i.invariant.2.leaves in
    let offered : c.with_tilts-seed.result ≡ seeded t = c.with_tilts-seed.ensures ∙ ap seeded c.at.ensures in
    rw (now, offered) (rw (read_length (λ m. seed_at m 0) 6 k l) at far)

pub loop-i-preserved : goal.loop-i-preserved
unfolding merged_into
loop-i-preserved c =
    let a = c.args in
    let i = c.loop-i.i in
    let seeded = seed_with a.base_k in
    let k = a.list.now.count in
    let l = a.list.now.numbers.now in
    let ts = tilts_of a.number a.grid.now in
    let t = tilts_at (drop (2 * i) a.grid.now) 0 in
    let xs = map seeded (take i ts) in (
      search rules,
      c.push_among.ensures.same_reference ∙ c.loop-i.invariant.1,
      rw (add-one i)
          (merge_under_way_after_more seeds_layout near (seeds_of k l) xs (c.with_tilts-seed.result ∷ []) (map seeded (take (suc i) ts))
          l c.loop-i.list.numbers.now c.push_among.new.self.numbers.now c.loop-i.list.count c.push_among.new.self.count (k + i) (k + suc i)
          c.loop-i.invariant.2 c.push_among.ensures.pushed (search rules) (omega arith)
          (ap (map seeded) (read_take (λ m. tilts_at m 0) 2 a.number i a.grid.now (search rules))
          ∙ map-append seeded (take i ts) (t ∷ [])
          ∙ ap (λ (s : CandidateSeed). xs ++ (s ∷ [])) (ap seeded (sym c.at.ensures) ∙ sym c.with_tilts-seed.ensures))),
    )

pub returns : goal.returns
returns c =
    let a = c.args in
    let ts = tilts_of a.number a.grid.now in
    let e : take c.loop-i.i ts ≡ ts = take_all c.loop-i.i ts (rw read_length (search rules)) in
    record { same_reference = search rules; same_length = search rules; pushed = rw e at c.loop-i.invariant.2.leaves }
