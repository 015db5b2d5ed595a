-- `capi_records::run::copy_part`: the loop's invariant: writing the numbers that are left, from this place on, gives what
-- writing all of them gives.
use Rattle.std.proofs.Common.{◌≡◌, drop}
use lib.Seq.{sets}
use Rattle.capi_records.proofs.run.copy_part.Given as goal

abbrev pub invariant-loop-i : goal.invariant-loop-i
invariant-loop-i l = sets l.to l.i (drop l.i l.part) ≡ sets l.initial.to 0 l.part
