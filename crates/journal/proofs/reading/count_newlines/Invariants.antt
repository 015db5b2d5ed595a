-- `journal::reading::count_newlines`: the loop's invariant: the newlines counted and those behind the place are all.
use Rattle.std.proofs.Common.{◌≡◌, ◌≤◌, ◌+◌, drop}
use Rattle.journal.specs.Reading.{newlines}
use Rattle.journal.proofs.reading.count_newlines.Given as goal

abbrev pub invariant-loop-c : goal.invariant-loop-c
invariant-loop-c l = (l.count ≤ l.c-index) × (l.count + newlines (drop l.c-index l.s) ≡ newlines l.s)
