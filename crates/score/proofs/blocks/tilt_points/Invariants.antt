-- `score::blocks::tilt_points`: the loop's invariant: the first j points are those of the first j rows.
use Rattle.std.proofs.Common.{◌≡◌, length}
use Rattle.score.specs.Steps.{Tilted}
use Rattle.score.proofs.blocks.tilt_points.Given as goal

abbrev pub invariant-loop-j : goal.invariant-loop-j
invariant-loop-j l = (length l.xs ≡ 16) × (length l.ys ≡ 16) × (length l.zs ≡ 16) × Tilted l.by.camera l.by.h l.block.rows.numbers.now l.j l.xs l.ys l.zs
