-- `search::answer::close_round` meets its contract. Assumes nothing.
use Rattle.std.proofs.Common.{◌≡◌, refl, sym, ap, ◌∙◌, ◌-◌, arith}
use Rattle.score.specs.Best.{best_candidate}
use Rattle.search.specs.Record.{ended}
use Rattle.search.specs.Answer.{Left, left, close_round}
use Rattle.search.specs.AnswerLaws.{close_round_after_last, close_round_without_best, close_round_opens_next, close_round_after_empty_round, opened_keeps_options_adds_round, leaves_next_seeds}
use Rattle.search.proofs.answer.close_round.Goals as goal
use Rattle.search.proofs.answer.close_round.Goals.{else-loop-run-test, then-loop-run-test+in_default}

pub loop-run-init : goal.loop-run-init
loop-run-init c = (refl, (c.requires.round_bound.1, (c.requires.in_bounds, refl)))

pub next_seeds-len-requires : goal.next_seeds-len-requires
next_seeds-len-requires c = c.loop-run.invariant.1.1.0

pub opened-run-requires : goal.opened-run-requires
opened-run-requires c = omega (arith, c.loop-run-test.true, c.loop-run.invariant.1.0)

pub shape_of-list-then-len-ne0 : goal.shape_of-list-then-len-ne0
shape_of-list-then-len-ne0 c = c.next_seeds-len.auto.list ∙ c.loop-run.invariant.1.1.1

pub returns-then-len-ne0 : goal.returns-then-len-ne0
returns-then-len-ne0 c =
    let e =
    sym c.loop-run.invariant.0
    ∙ close_round_opens_next _ c.loop-run.run c.loop-run.list _ _ _ (omega (arith, c.loop-run-test.true)) (sym (c.candidate.ensures ∙ ap best_candidate c.or.ensures) ∙ c.in-Some.is) (leaves_next_seeds c.loop-run.run _ _ _ _ _ c.next_step-step.ensures c.next_seeds-len.ensures) c.if-len-ne0.true
    in
    record { value = c.opened-run.ensures ∙ sym (ap (λ (x : Left). x.run) e); list_after = sym (ap (λ (x : Left). x.list) e) }

pub loop-run-smaller : goal.loop-run-smaller
loop-run-smaller c =
    let k = opened_keeps_options_adds_round _ _ _ c.opened-run.ensures in
    rw (k.0, k.1) (omega (arith, c.loop-run-test.true))

pub loop-run-preserved : goal.loop-run-preserved
loop-run-preserved c =
    let e = close_round_after_empty_round c.loop-run.run _ c.loop-run.list _ c.next_seeds-len.new.list _ c.loop-run-test.true (sym (c.candidate.ensures ∙ ap best_candidate c.or.ensures) ∙ c.in-Some.is) (leaves_next_seeds c.loop-run.run _ _ _ _ _ c.next_step-step.ensures c.next_seeds-len.ensures) c.if-len-ne0.false c.opened-run.ensures in
    let k = c.next_seeds-len.auto.list in
    (sym e ∙ c.loop-run.invariant.0, (rw (opened_keeps_options_adds_round _ _ _ c.opened-run.ensures).0 c.loop-run.invariant.1.0, (rw k c.loop-run.invariant.1.1.0, k ∙ c.loop-run.invariant.1.1.1)))

pub shape_of-list : goal.shape_of-list
shape_of-list c = c.loop-run.invariant.1.1.1

pub returns : goal.returns
returns c =
    let ends : close_round (c.loop-run.run.options.refine_rounds - c.loop-run.run.place.round) c.loop-run.run c.loop-run.list ≡ left (ended c.loop-run.run) c.loop-run.list =
    elim c.loop-run-test.branch [
      | else-loop-run-test w ↦ close_round_after_last _ c.loop-run.run c.loop-run.list (omega (arith, w.loop-run-test.false))
      | then-loop-run-test+in_default w ↦
          close_round_without_best _ c.loop-run.run c.loop-run.list (omega (arith, w.loop-run-test.true)) (sym (w.candidate.ensures ∙ ap best_candidate w.or.ensures) ∙ w.in_default.is)
    ]
    in
    let e = sym c.loop-run.invariant.0 ∙ ends in
    record { value = c.ended.ensures ∙ sym (ap (λ (x : Left). x.run) e); list_after = sym (ap (λ (x : Left). x.list) e) }
