-- `journal::reading::number_at`: the loop's invariant: the number of the first i digits.
use Rattle.std.proofs.Common.{◌≡◌}
use Rattle.journal.specs.Reading.{number_at}
use Rattle.journal.proofs.reading.number_at.Given as goal

abbrev pub invariant-loop-i : goal.invariant-loop-i
invariant-loop-i l = l.n ≡ number_at l.base l.i l.s
