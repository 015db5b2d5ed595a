-- `journal::writing::put_reals`: the loop's invariant.
use Rattle.std.proofs.Common.{◌+◌, ◌*◌, ◌≡◌, map, drop}
use lib.Seq.{sets}
use Rattle.journal.specs.Line.{real}
use Rattle.journal.specs.Steps.{comma_fields}
use Rattle.journal.proofs.writing.put_reals.Given as goal

abbrev pub invariant-loop-i : goal.invariant-loop-i
invariant-loop-i l = sets l.out (l.at + 17 * l.i) (comma_fields (map real (drop l.i l.xs))) ≡ sets l.initial.out l.at (comma_fields (map real l.xs))
