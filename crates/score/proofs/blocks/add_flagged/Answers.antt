-- `score::blocks::add_flagged` meets its contract: a flag that isn't looked at is 1. Assumes nothing.
use Rattle.std.proofs.Common.{ℕ, ◌≡◌, eqb, not, true, get_or, length, sym, ap, ◌∙◌, arith, length-append, rules}
use Rattle.std.proofs.lemmas.Bool.Decides.{nat_tests}
use Rattle.std.proofs.lemmas.Slice.Zip.{zip_turn}
use Rattle.std.specs.Float.{nan}
use Rattle.score.proofs.Steps.{add_errors_suc, each_in_front_if_all_are}
use Rattle.score.proofs.blocks.add_flagged.Goals as goal
use Rattle.score.proofs.blocks.add_flagged.Goals.{then-this-ne0, else-this-ne0}

nonzero_is_true : (n : ℕ) → (n ≡ 0 → ⊥) → not (eqb n 0) ≡ true
nonzero_is_true n h = grind (arith, nat_tests)

pub loop-flag-preserved : goal.loop-flag-preserved
loop-flag-preserved g c =
    let l = c.loop-flag in
    let fs = c.args.flags.now in
    let t = zip_turn fs c.args.errors.now l.yielded c.into_iter-flag-iterator.result l.flag-iterator c.next.new.self c.next.result (search rules) (search rules) l.yielded_by (c.in-Some.flag, c.in-Some.error) c.in-Some.is c.next.ensures.steps in
    let j = length l.yielded in
    let counted : c.if-this-ne0.counted ≡ eqb (get_or fs j 0) 1 =
    elim c.if-this-ne0.branch as (λ _. c.if-this-ne0.counted ≡ eqb (get_or fs j 0) 1) [
      | then-this-ne0 w ↦
          let all = nonzero_is_true g.row.ALL w.if-this-ne0.true in
          w.counted-is ∙ all ∙ sym (each_in_front_if_all_are fs (length fs) j (c.requires.all_in_front all) t.0)
      | else-this-ne0 w ↦ w.counted-is ∙ ap (λ (n : ℕ). eqb n 1) (t.2 0)
    ]
    in
    rw (length-append, add_errors_suc, c.add_error-sum.ensures, l.invariant, counted, t.3 nan)
