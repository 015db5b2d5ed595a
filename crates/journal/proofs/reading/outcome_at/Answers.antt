-- `journal::reading::outcome_at` meets its contract. Assumes nothing.
use Rattle.std.proofs.Common.{◌≡◌, sym, ◌∙◌, None, rules}
use Rattle.journal.proofs.Found.{outcome_at_of_scored, no_outcome_without_reason, outcome_at_of_skipped}
use Rattle.journal.proofs.reading.outcome_at.Goals as goal

pub returns-then-c-eq83 : goal.returns-then-c-eq83
returns-then-c-eq83 c = let b = c.byte_at-c in outcome_at_of_scored c.args.s.now b.result b.ensures c.scored_at.result _ c.if-c-eq83.true c.after.ensures c.scored_at.ensures

pub returns-in_err-reason : goal.returns-in_err-reason
returns-in_err-reason c =
    let b = c.byte_at-c in
    let none : c.from_residual.result ≡ None = search rules in
    none ∙ no_outcome_without_reason c.args.s.now b.result b.ensures c.if-c-eq83.false (sym c.in_err-reason.was ∙ c.reason_of.ensures)

pub returns : goal.returns
returns c = let b = c.byte_at-c in outcome_at_of_skipped c.args.s.now b.result b.ensures c.in_ok-reason.reason c.if-c-eq83.false (sym c.in_ok-reason.was ∙ c.reason_of.ensures)
