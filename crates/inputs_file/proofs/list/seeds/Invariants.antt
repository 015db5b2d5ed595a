use Rattle.std.proofs.Common.{◌≡◌, length}
use Rattle.inputs_file.specs.declared.field.Field.TheVariants as fields
use Rattle.inputs_file.specs.Reading.{seed_at, all_at}
use Rattle.inputs_file.proofs.Lists.{with_front}
use Rattle.inputs_file.proofs.list.seeds.Given as goal

abbrev pub invariant-loop-rest : goal.invariant-loop-rest
invariant-loop-rest l = with_front (l.seeds.items) (all_at seed_at fields.SeedFx l.rest) ≡ all_at seed_at fields.SeedFx l.bytes

abbrev pub decreases-loop-rest : goal.decreases-loop-rest
decreases-loop-rest l = length l.rest
