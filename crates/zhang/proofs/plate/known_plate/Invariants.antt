-- `zhang::plate::known_plate`: the loop's invariant: the search from this power on finds what the search from the first
-- power on finds.
use Rattle.std.proofs.Common.{◌≡◌, ◌-◌, ◌^◌}
use Rattle.zhang.specs.Plate.{unit_from}
use Rattle.zhang.proofs.plate.known_plate.Given as goal

abbrev pub invariant-loop-power : goal.invariant-loop-power
invariant-loop-power l = unit_from (9 - l.power) (2 ^ l.power) l.k ≡ unit_from 9 1 l.k
