-- `seeds::grids::push_solved` meets its contract. Assumes nothing.
use Rattle.std.proofs.Common.{◌≡◌, refl, sym, ap, ◌∙◌, [], ◌∷◌, ◌++◌, suc, ◌+◌, ◌/◌, add-zero, add-one, arith, rules, take, take_all, length}
use Rattle.seeds.specs.declared.CandidateSeed.{CandidateSeed}
use Rattle.seeds.specs.Layout.{seed_at, seeds_of, all_seeds}
use Rattle.seeds.specs.LayoutLaws.{seeds_layout, read_take, read_length}
use Rattle.seeds.specs.Merge.{merged_into}
use Rattle.seeds.specs.Rules.{near}
use Rattle.seeds.proofs.Steps.{merge_under_way_at_start, merge_under_way_after_more}
use Rattle.seeds.proofs.grids.push_solved.Goals as goal

pub loop-i-init : goal.loop-i-init
loop-i-init c =
    let a = c.args in
    (search rules, refl, rw add-zero (merge_under_way_at_start seeds_layout near a.list.now.numbers.now a.list.now.count (search rules)))

pub loop-i-preserved : goal.loop-i-preserved
unfolding merged_into
loop-i-preserved c =
    let a = c.args in
    let i = c.loop-i.i in
    let k = a.list.now.count in
    let l = a.list.now.numbers.now in
    let ds = all_seeds a.decomposition.now in (
      search rules,
      c.push.ensures.same_reference ∙ c.loop-i.invariant.1,
      rw (add-one i)
          (merge_under_way_after_more seeds_layout near (seeds_of k l) (take i ds) (c.at.result ∷ []) (take (suc i) ds)
          l c.loop-i.list.numbers.now c.push.new.self.numbers.now c.loop-i.list.count c.push.new.self.count (k + i) (k + suc i)
          c.loop-i.invariant.2 c.push.ensures.pushed (search rules) (omega arith)
          (read_take (λ m. seed_at m 0) 6 (length a.decomposition.now / 6) i a.decomposition.now (search rules) ∙ ap (λ (s : CandidateSeed). take i ds ++ (s ∷ [])) (sym c.at.ensures))),
    )

pub returns : goal.returns
returns c =
    let ds = all_seeds c.args.decomposition.now in
    let e : take c.loop-i.i ds ≡ ds = take_all c.loop-i.i ds (rw read_length (search rules)) in
    record { same_reference = search rules; same_length = search rules; pushed = rw e at c.loop-i.invariant.2.leaves }
