-- `replay::walk::walk`: the loop's invariant: the walk from here on is the whole walk.
use Rattle.std.proofs.Common.{suc, ◌*◌, ◌-◌, ◌≤◌, ◌<◌, ◌≡◌, length}
use Rattle.replay.specs.Walk.{walk_of}
use Rattle.replay.specs.WalkLaws.{walk_at}
use Rattle.replay.proofs.walk.walk.Given as goal

abbrev pub invariant-loop-line : goal.invariant-loop-line
invariant-loop-line l =
    (walk_at l.run l.list l.lines (suc (length l.bytes - l.lines)) l.bytes l.at ≡ walk_of l.initial.run l.initial.list l.bytes)
    × ((2 * l.lines ≤ l.at)
    × ((l.at ≤ length l.bytes)
    × ((length l.list ≡ length l.initial.list)
    × (length l.bytes < 0x10000000000000000))))

abbrev pub decreases-loop-line : goal.decreases-loop-line
decreases-loop-line l = length l.bytes - l.at
