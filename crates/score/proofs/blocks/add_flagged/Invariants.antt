-- `score::blocks::add_flagged`: the loop's invariant: the sum and count have the rows whose flags and errors the loop has had.
use Rattle.std.proofs.Common.{◌≡◌, length}
use Rattle.score.specs.Steps.{add_errors}
use Rattle.score.proofs.blocks.add_flagged.Given as goal

abbrev pub invariant-loop-flag : goal.invariant-loop-flag
invariant-loop-flag g l = l.sum ≡ add_errors l.initial.sum l.flags l.errors (length l.yielded)
