-- Tilts whose difference has a square above that of 1e-12 are not near. Assumes nothing.
use Rattle.std.specs.Prelude.{◌≡◌, refl, true, false, Float}
use Rattle.std.specs.Float.Ieee.{lt, of_bits}
use Rattle.float.specs.Binary64.{◌*₆₄◌}
use Rattle.float.specs.Float.{abs_of, sign_bit}
use Rattle.float.specs.Sign.{abs_unsigned}
use Rattle.float_laws.specs.OneTest.{size_by_square}
use Rattle.seeds.specs.Rules.{tilt_limit}

tilt_limit_unsigned : sign_bit tilt_limit ≡ false
unfolding sign_bit of_bits
tilt_limit_unsigned = refl

pub not_near_by_squares : (d : Float) → lt (tilt_limit *₆₄ tilt_limit) (d *₆₄ d) ≡ true → lt (abs_of d) tilt_limit ≡ false
not_near_by_squares d h = rw (abs_unsigned tilt_limit tilt_limit_unsigned) at (size_by_square tilt_limit d h)
