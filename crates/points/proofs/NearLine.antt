-- A cross product whose square is below the square of 1e-6 is not above 1e-6 in size. Assumes nothing.
use Rattle.std.specs.Prelude.{◌≡◌, refl, true, false, Float}
use Rattle.std.specs.Float.Ieee.{lt, of_bits}
use Rattle.float.specs.Binary64.{◌*₆₄◌}
use Rattle.float.specs.Float.{abs_of, sign_bit}
use Rattle.float.specs.Sign.{abs_unsigned}
use Rattle.float_laws.specs.OneTest.{size_by_square}
use Rattle.points.specs.Line.{least_cross}

least_cross_has_no_minus : sign_bit least_cross ≡ false
unfolding sign_bit of_bits
least_cross_has_no_minus = refl

pub small_square_is_near_line : (c : Float) → lt (c *₆₄ c) (least_cross *₆₄ least_cross) ≡ true → lt least_cross (abs_of c) ≡ false
small_square_is_near_line c h = rw (abs_unsigned least_cross least_cross_has_no_minus) at (size_by_square c least_cross h)
