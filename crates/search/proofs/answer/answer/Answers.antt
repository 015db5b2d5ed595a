-- `search::answer::answer` meets its contract. Assumes nothing.
use Rattle.std.proofs.Common.{sym, ap, ◌∙◌}
use Rattle.search.specs.Answer.{AnswerLeft}
use Rattle.search.specs.AnswerLaws.{answer_refused, answer_enters}
use Rattle.search.proofs.answer.answer.Goals as goal

pub returns-in-Err : goal.returns-in-Err
returns-in-Err c =
    let e = sym (answer_refused c.args.run c.args.finding c.args.rows.now c.args.flags.now c.args.list.now _ (sym c.answer_refusal.ensures ∙ c.in-Err.is)) in
    record { value = ap (λ (a : AnswerLeft). a.reply) e; list_after = ap (λ (a : AnswerLeft). a.list) e }

pub returns : goal.returns
returns c =
    let e = sym (answer_enters c.args.run c.args.finding c.args.rows.now c.args.flags.now c.args.list.now _ c.outcome_for-outcome.ensures (sym c.answer_refusal.ensures ∙ c.in_default.is)) in
    record { value = rw (c.from.ensures, c.enter.ensures.value) (ap (λ (a : AnswerLeft). a.reply) e); list_after = c.enter.ensures.list_after ∙ ap (λ (a : AnswerLeft). a.list) e }
