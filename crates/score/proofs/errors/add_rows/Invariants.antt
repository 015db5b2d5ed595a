-- `score::errors::add_rows`: the loop's invariant: the sum and count have the rows that the loop has had.
use Rattle.std.proofs.Common.{◌≡◌, length}
use Rattle.score.specs.Steps.{add_rows}
use Rattle.score.proofs.errors.add_rows.Given as goal

abbrev pub invariant-loop-x : goal.invariant-loop-x
invariant-loop-x l = l.sum ≡ add_rows l.initial.sum l.by.camera l.by.h l.rows.numbers.now l.rows.flags.now (length l.yielded)
