-- `score::blocks::in_front`: the loop's invariant: the count is that of the first j rows.
use Rattle.std.proofs.Common.{◌≡◌}
use Rattle.score.specs.Steps.{in_front}
use Rattle.score.proofs.blocks.in_front.Given as goal

abbrev pub invariant-loop-flag : goal.invariant-loop-flag
invariant-loop-flag l = l.count ≡ in_front l.block.rows.flags.now l.flag-index
