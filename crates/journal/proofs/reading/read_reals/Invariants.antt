-- `journal::reading::read_reals`: the loop's invariant.
use Rattle.std.proofs.Common.{◌-◌, ◌≡◌, ◌++◌, length, take}
use Rattle.journal.specs.Reading.{reals}
use Rattle.journal.proofs.reading.read_reals.Given as goal

abbrev pub invariant-loop-x : goal.invariant-loop-x
invariant-loop-x l = take l.x-index l.into ++ reals (length l.initial.into - l.x-index) l.rest ≡ reals (length l.initial.into) l.s
