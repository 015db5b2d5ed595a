-- `score::blocks::point_errors`: the loop's invariant: the first j errors are those of the first j points.
use Rattle.score.specs.Steps.{PointErrors}
use Rattle.score.proofs.blocks.point_errors.Given as goal

abbrev pub invariant-loop-j : goal.invariant-loop-j
invariant-loop-j l = PointErrors l.by.camera l.block.rows.numbers.now l.j l.xs l.ys l.depths l.errors
