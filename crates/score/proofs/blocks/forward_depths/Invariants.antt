-- `score::blocks::forward_depths`: the loop's invariant: the first j depths are those of the first j numbers.
use Rattle.std.proofs.Common.{◌≡◌, length}
use Rattle.score.specs.Steps.{Depths}
use Rattle.score.proofs.blocks.forward_depths.Given as goal

abbrev pub invariant-loop-j : goal.invariant-loop-j
invariant-loop-j l = (length l.depths ≡ 16) × Depths l.j l.zs l.depths
