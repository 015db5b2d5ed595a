use Rattle.std.proofs.Common.{◌≡◌, length, map}
use Rattle.inputs_file.specs.declared.field.Field.TheVariants as fields
use Rattle.inputs_file.specs.Reading.{pair_at, all_at}
use Rattle.inputs_file.specs.View.{note_view}
use Rattle.inputs_file.proofs.Lists.{with_front}
use Rattle.inputs_file.proofs.list.notes.Given as goal

abbrev pub invariant-loop-alloc : goal.invariant-loop-alloc
invariant-loop-alloc l = with_front (map note_view l.notes.items) (all_at (pair_at fields.Note) fields.Note l.rest) ≡ all_at (pair_at fields.Note) fields.Note l.bytes

abbrev pub decreases-loop-alloc : goal.decreases-loop-alloc
decreases-loop-alloc l = length l.rest
