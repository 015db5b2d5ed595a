-- `journal::report::put_decimals`: the loop's invariant.
use Rattle.std.proofs.Common.{◌≤◌, ◌+◌, ◌*◌, ◌≡◌, map, length, drop}
use lib.Seq.{sets}
use Rattle.journal.specs.Line.{decimal}
use Rattle.journal.specs.Steps.{comma_fields}
use Rattle.journal.proofs.report.put_decimals.Given as goal

abbrev pub invariant-loop-n : goal.invariant-loop-n
invariant-loop-n l =
    (l.position ≤ l.at + 4 * l.n-index)
    × (l.position + length (comma_fields (map decimal (drop l.n-index l.ns))) ≡ l.at + length (comma_fields (map decimal l.ns)))
    × (sets l.out l.position (comma_fields (map decimal (drop l.n-index l.ns))) ≡ sets l.initial.out l.at (comma_fields (map decimal l.ns)))
