-- `journal::reading::not_a_line` meets its contract. Assumes nothing.
use Rattle.std.proofs.Common.{ℕ, ◌+◌, ap, sym, arith, length-take-le}
use Rattle.journal.specs.declared.Read.TheVariants.{NotALine}
use Rattle.journal.proofs.reading.not_a_line.Goals as goal

pub slice_bounds-count_newlines-end : goal.slice_bounds-count_newlines-end
slice_bounds-count_newlines-end c = let a = c.args in sym (length-take-le a.at a.bytes.now c.requires)

pub overflow_add-result : goal.overflow_add-result
overflow_add-result c = let a = c.args in omega (arith, c.count_newlines.ensures.1, length-take-le a.at a.bytes.now c.requires)

pub returns : goal.returns
returns c = ap (λ (n : ℕ). NotALine (n + 1)) c.count_newlines.ensures.0
