-- The thresholds of the models' formulas. Definitions only.
use Rattle.std.specs.Prelude.{Float}
use Rattle.std.specs.Float.{binary64}
use Rattle.std.specs.Float.Ieee.{of_bits}
use Rattle.float.specs.Literals.{ten_to_minus12}

-- what a homography divides by where the third coordinate is too small
abbrev pub tiny : Float
tiny = ten_to_minus12

-- 2 ^ -100, of undistort's step test
abbrev pub tolerance : Float
tolerance = of_bits binary64 0x39b0_0000_0000_0000
