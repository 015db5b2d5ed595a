use Rattle.std.proofs.Common.{◌∙◌, sym}
use Rattle.std.proofs.lemmas.Result.{err_from_is_err_and}
use Rattle.inputs_file.specs.Reading.{real_at, all_at}
use Rattle.inputs_file.proofs.FileLaws.{real_shrinks}
use Rattle.inputs_file.proofs.Lists.{goes_on, ends, is_done}
use Rattle.inputs_file.proofs.list.tilts.Goals as goal

pub returns-in_err-tilt : goal.returns-in_err-tilt
returns-in_err-tilt c =
    let p = err_from_is_err_and c.from_residual.result c.from_residual.ensures.1 in
    rw (p.1, p.2) (ends c.in_err-tilt.field-0.0 (real_at c.args.field) c.args.field c.requires c.loop-field.tilts.items c.loop-field.rest.now (all_at (real_at c.args.field) c.args.field c.args.bytes.now) (sym c.begins.ensures ∙ c.loop-field-test.true) c.in_err-tilt.ensures c.loop-field.invariant)

pub loop-field-smaller : goal.loop-field-smaller
loop-field-smaller c = real_shrinks c.args.field c.requires c.loop-field.rest.now c.in_ok-tilt.tilt c.in_ok-tilt.after.now c.in_ok-tilt.ensures

pub loop-field-preserved : goal.loop-field-preserved
loop-field-preserved c = rw c.in_ok-push.ensures.items (goes_on (real_at c.args.field) c.args.field c.requires (real_shrinks c.args.field c.requires) c.loop-field.tilts.items c.loop-field.rest.now c.in_ok-tilt.tilt c.in_ok-tilt.after.now
    (all_at (real_at c.args.field) c.args.field c.args.bytes.now) (sym c.begins.ensures ∙ c.loop-field-test.true) c.in_ok-tilt.ensures c.loop-field.invariant)

pub returns : goal.returns
returns c = is_done (real_at c.args.field) c.args.field c.loop-field.tilts.items c.loop-field.rest.now (all_at (real_at c.args.field) c.args.field c.args.bytes.now) (sym c.begins.ensures ∙ c.loop-field-test.false) c.loop-field.invariant
