use Rattle.std.proofs.Common.{◌∙◌, sym}
use Rattle.std.proofs.lemmas.Result.{err_from_is_err_and}
use Rattle.inputs_file.specs.declared.field.Field.TheVariants as fields
use Rattle.inputs_file.specs.Reading.{seed_at, all_at}
use Rattle.inputs_file.proofs.FileLaws.{seed_long, seed_shrinks}
use Rattle.inputs_file.proofs.Lists.{goes_on, ends, is_done}
use Rattle.inputs_file.proofs.list.seeds.Goals as goal

pub returns-in_err-seed : goal.returns-in_err-seed
returns-in_err-seed c =
    let p = err_from_is_err_and c.from_residual.result c.from_residual.ensures.1 in
    rw (p.1, p.2) (ends c.in_err-seed.field-0.0 seed_at fields.SeedFx seed_long c.loop-rest.seeds.items c.loop-rest.rest.now (all_at seed_at fields.SeedFx c.args.bytes.now) (sym c.begins.ensures ∙ c.loop-rest-test.true) c.in_err-seed.ensures c.loop-rest.invariant)

pub loop-rest-smaller : goal.loop-rest-smaller
loop-rest-smaller c = seed_shrinks c.loop-rest.rest.now c.in_ok-seed.seed c.in_ok-seed.after.now c.in_ok-seed.ensures

pub loop-rest-preserved : goal.loop-rest-preserved
loop-rest-preserved c = rw c.in_ok-push.ensures.items (goes_on seed_at fields.SeedFx seed_long seed_shrinks c.loop-rest.seeds.items c.loop-rest.rest.now c.in_ok-seed.seed c.in_ok-seed.after.now
    (all_at seed_at fields.SeedFx c.args.bytes.now) (sym c.begins.ensures ∙ c.loop-rest-test.true) c.in_ok-seed.ensures c.loop-rest.invariant)

pub returns : goal.returns
returns c = is_done seed_at fields.SeedFx c.loop-rest.seeds.items c.loop-rest.rest.now (all_at seed_at fields.SeedFx c.args.bytes.now) (sym c.begins.ensures ∙ c.loop-rest-test.false) c.loop-rest.invariant
