-- `zhang::plate::whole_size` meets its contract: the size meets what the casts to a whole number and back require, and
-- each return says what the definition's test of x gives. Assumes nothing.
use Rattle.std.proofs.Common.{sym}
use Rattle.zhang.proofs.WholeNumber.{size_is_castable, whole_fits_float, too_large_fails, with_fraction_fails, whole_number_test_agrees}
use Rattle.zhang.proofs.plate.whole_size.Goals as goal

pub truncating_f64_to_u64-whole-requires : goal.truncating_f64_to_u64-whole-requires
truncating_f64_to_u64-whole-requires c = let r = size_is_castable c.args.x _ c.abs-size.ensures c.if-not-size.false in record { lower_bound = r.0; upper_bound = r.1 }

pub int_to_float-whole : goal.int_to_float-whole
int_to_float-whole c = whole_fits_float c.args.x _ c.abs-size.ensures c.if-not-size.false _ c.truncating_f64_to_u64-whole.ensures

pub returns-then-not-size : goal.returns-then-not-size
returns-then-not-size c u high = sym (too_large_fails c.args.x _ c.abs-size.ensures u high c.if-not-size.true)

pub returns-then-whole-size : goal.returns-then-whole-size
returns-then-whole-size c u high = sym (with_fraction_fails c.args.x _ c.abs-size.ensures c.if-not-size.false _ c.truncating_f64_to_u64-whole.ensures u high c.if-whole-size.true)

pub returns : goal.returns
returns c u high = sym (whole_number_test_agrees c.args.x _ c.abs-size.ensures c.if-not-size.false _ c.truncating_f64_to_u64-whole.ensures u high c.if-whole-size.false)
