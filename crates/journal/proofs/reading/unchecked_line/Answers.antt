-- `journal::reading::unchecked_line` meets its contract. Assumes nothing.
use Rattle.std.proofs.Common.{◌≡◌, sym, ◌∙◌, None, rules}
use Rattle.journal.proofs.Found.{no_unchecked_line_without_outcome, unchecked_line_of_parts}
use Rattle.journal.proofs.reading.unchecked_line.Goals as goal

pub returns-in_err-outcome : goal.returns-in_err-outcome
returns-in_err-outcome c =
    let a = c.decimal_width_at-a in
    let b = c.decimal_width_at-b in
    let none : c.from_residual.result ≡ None = search rules in
    none ∙ no_unchecked_line_without_outcome c.args.s.now _ _ _ a.result b.result a.ensures.0 c.after-from_round.ensures b.ensures.0 c.after-from_seed.ensures c.after.ensures (sym c.in_err-outcome.was ∙ c.outcome_at.ensures)

pub returns : goal.returns
returns c =
    let a = c.decimal_width_at-a in
    let b = c.decimal_width_at-b in
    unchecked_line_of_parts c.args.s.now _ _ _ a.result b.result a.ensures.0 c.after-from_round.ensures b.ensures.0 c.after-from_seed.ensures c.after.ensures
    _ _ _ _ c.number_at-number.ensures c.number_at-round.ensures c.seed_at-seed.ensures (sym c.in_ok-outcome.was ∙ c.outcome_at.ensures)
