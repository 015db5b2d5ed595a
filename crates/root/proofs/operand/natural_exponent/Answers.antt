-- `root::operand::natural_exponent` meets its contract. Assumes nothing.
use Rattle.std.proofs.Common.{◌≡◌, ℕ, ◌^◌, ◌<◌, ℤ, pos, ◌+ℤ◌, ap, ◌∙◌, arith, to_z-of_z, w64, SFits, to_z, of_z}
use Rattle.root.specs.Exponent.{shifted}
use Rattle.root.proofs.Exponents.{sum_is_shifted, mag_sum, mag_shifted}
use Rattle.root.proofs.operand.natural_exponent.Goals as goal

-- the sum is the natural number
sum_is_natural : (c : goal.Start) → to_z w64 (of_z w64 c.args.e) +ℤ pos 2148 ≡ pos (shifted c.args.e)
sum_is_natural c = ap (λ (z : ℤ). z +ℤ pos 2148) (to_z-of_z c.ranges.e) ∙ sum_is_shifted c.args.e c.requires.0

fits_sum : (c : goal.Start) (k : ℕ) → k < 2 ^ 62 → SFits w64 (c.args.e +ℤ pos k)
fits_sum c k h = record { sfits = omega (arith, mag_sum c.args.e k, mag_shifted c.args.e c.requires.0 c.requires.1) }

sum_with_2148_fits : (c : goal.Start) → SFits w64 (to_z w64 (of_z w64 c.args.e) +ℤ pos 2148)
sum_with_2148_fits c = rw (to_z-of_z c.ranges.e) (fits_sum c 2148 (omega arith))

pub overflow_add-result : goal.overflow_add-result
overflow_add-result c = rw (to_z-of_z c.ranges.e) (fits_sum c _ (omega arith))

pub overflow_cast-result : goal.overflow_cast-result
overflow_cast-result c = rw (to_z-of_z (sum_with_2148_fits c), sum_is_natural c) (tt, record { fits = omega arith })

pub returns : goal.returns
returns c = rw (to_z-of_z (sum_with_2148_fits c), sum_is_natural c)
