-- `journal::writing::put_digits`: the loop's invariant.
use Rattle.std.proofs.Common.{◌≡◌}
use lib.Seq.{sets}
use Rattle.journal.specs.Line.{digits}
use Rattle.journal.proofs.writing.put_digits.Given as goal

abbrev pub invariant-loop-i : goal.invariant-loop-i
invariant-loop-i l = sets l.out l.at (digits l.base l.i l.left) ≡ sets l.initial.out l.at (digits l.base l.w l.n)
