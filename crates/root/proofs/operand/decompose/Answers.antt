-- `root::operand::decompose` meets its contract. Assumes nothing.
use Rattle.std.proofs.Common.{◌≡◌, true, sym, ap, ◌∙◌, arith, Float}
use Rattle.std.specs.Bool.{passes}
use Rattle.std.specs.Float.{nan, binary64}
use Rattle.std.specs.Float.Ieee.{fits, of_bits, to_bits, div}
use lib.Ieee.Bits.{of_bits-to_bits, to_bits-lt}
use Rattle.float.specs.Order.{ne_self}
use Rattle.float.specs.Nan.{zero_over_zero_is_nan}
use Rattle.root.specs.Root.{root}
use Rattle.root.proofs.Patterns.{root_at_nan, root_at_zero, root_at_minus_zero, root_of_top_pattern, root_of_pattern_with_sign}
use Rattle.root.proofs.operand.decompose.Goals as goal

-- reading the argument's bits gives the argument
argument_of_its_bits : (x : Float) → fits binary64 x ≡ true → of_bits binary64 (to_bits binary64 x) ≡ x
argument_of_its_bits x e = of_bits-to_bits binary64 x (passes _ e)

-- the constant f64::NAN
nan_constant_is_nan : of_bits binary64 0x7ff8_0000_0000_0000 ≡ nan
unfolding of_bits div
nan_constant_is_nan = zero_over_zero_is_nan

pub returns-then-is_nan : goal.returns-then-is_nan
returns-then-is_nan c = nan_constant_is_nan ∙ sym (root_at_nan c.args.x (ne_self c.args.x ∙ sym c.is_nan.ensures.value ∙ c.if-is_nan.true))

pub returns-then-b-eq0 : goal.returns-then-b-eq0
returns-then-b-eq0 c = root_at_zero c.args.x (argument_of_its_bits c.args.x c.well_formed.0.1) c.if-b-eq0.true

pub returns-then-b-lt4503599627370496 : goal.returns-then-b-lt4503599627370496
returns-then-b-lt4503599627370496 c =
    let w = c.subnormal.ensures in
    (w.0, w.1 ∙ ap (root binary64) (argument_of_its_bits c.args.x c.well_formed.0.1))

pub returns-then-b-lt9218868437227405312 : goal.returns-then-b-lt9218868437227405312
returns-then-b-lt9218868437227405312 c =
    let w = c.normal.ensures in
    (w.0, w.1 ∙ ap (root binary64) (argument_of_its_bits c.args.x c.well_formed.0.1))

pub returns-then-b-lt9223372036854775808 : goal.returns-then-b-lt9223372036854775808
returns-then-b-lt9223372036854775808 c = sym (argument_of_its_bits c.args.x c.well_formed.0.1) ∙ sym (root_of_top_pattern (to_bits binary64 c.args.x) (omega arith) (omega arith)) ∙ ap (root binary64) (argument_of_its_bits c.args.x c.well_formed.0.1)

pub returns-then-b : goal.returns-then-b
returns-then-b c = root_at_minus_zero c.args.x (argument_of_its_bits c.args.x c.well_formed.0.1) c.if-b.true

pub returns : goal.returns
returns c = nan_constant_is_nan ∙ sym (root_of_pattern_with_sign (to_bits binary64 c.args.x) (omega arith) (to_bits-lt binary64 c.args.x (passes _ c.well_formed.0.1))) ∙ ap (root binary64) (argument_of_its_bits c.args.x c.well_formed.0.1)
