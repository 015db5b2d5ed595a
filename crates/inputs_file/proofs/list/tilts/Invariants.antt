use Rattle.std.proofs.Common.{◌≡◌, length}
use Rattle.inputs_file.specs.Reading.{real_at, all_at}
use Rattle.inputs_file.proofs.Lists.{with_front}
use Rattle.inputs_file.proofs.list.tilts.Given as goal

abbrev pub invariant-loop-field : goal.invariant-loop-field
invariant-loop-field l = with_front (l.tilts.items) (all_at (real_at l.field) l.field l.rest) ≡ all_at (real_at l.field) l.field l.bytes

abbrev pub decreases-loop-field : goal.decreases-loop-field
decreases-loop-field l = length l.rest
