-- A table of cameras, each with its six numbers and the camera that the closed form gives for them, or refused.
-- `proofs/Cases.antt` proves it by computing. Definitions only.
use Rattle.std.specs.Prelude.{◌≡◌, List, [], ◌∷◌, ℤ, pos, negsuc, Float, Ok, Err}
use Rattle.std.specs.Float.{binary64}
use Rattle.std.specs.Float.Ieee.{of_bits, of_int}
use Rattle.camera.specs.declared.intrinsics.FxFyCxCy.{FxFyCxCy}
use Rattle.zhang.specs.declared.Conic.{Conic}
use Rattle.common.specs.declared.Refusal.TheVariants.{NoSharedPower}
use Rattle.zhang.specs.Zhang.{from_homographies}
use Rattle.zhang.specs.Plate.{plate_of}

pub data Case : Type 0 where
  -- a camera, its six numbers, and the camera that comes back
  given : FxFyCxCy → Conic → FxFyCxCy → Case
  refused : FxFyCxCy → Case

abbrev pub Holds : Case → Type 0
Holds (given f b g) = (plate_of f ≡ Ok b) × (from_homographies b ≡ Ok g)
Holds (refused f) = plate_of f ≡ Err NoSharedPower

-- ---- whole numbers, and the value that bits stand for
abbrev pub whole : ℤ → Float
whole n = of_int binary64 n

abbrev pub camera : ℤ → ℤ → ℤ → ℤ → FxFyCxCy
camera fx fy cx cy = record { fx = whole fx; fy = whole fy; cx = whole cx; cy = whole cy }

abbrev pub conic : ℤ → ℤ → ℤ → ℤ → ℤ → Conic
conic b11 b22 b13 b23 b33 = record { b11 = whole b11; b12 = whole (pos 0); b22 = whole b22; b13 = whole b13; b23 = whole b23; b33 = whole b33 }

abbrev pub minus_zero : Float
minus_zero = of_bits binary64 0x8000_0000_0000_0000

-- the focal lengths 8 and 8, and a centre
abbrev pub centred : Float → Float → FxFyCxCy
centred x y = record { fx = whole (pos 8); fy = whole (pos 8); cx = x; cy = y }

-- a focal length beside 8, and the centre 0
abbrev pub long : Float → FxFyCxCy
long fx = record { fx = fx; fy = whole (pos 8); cx = whole (pos 0); cy = whole (pos 0) }

abbrev pub table : List Case
table =
    given (camera (pos 2) (pos 2) (pos 3) (pos 1)) (conic (pos 4) (pos 4) (negsuc 11) (negsuc 3) (pos 56)) (camera (pos 2) (pos 2) (pos 3) (pos 1))
    -- 200, 202 and −80 times 4, and −0, which comes back as 0
    ∷ given (record { fx = whole (pos 800); fy = whole (pos 808); cx = whole (negsuc 319); cy = minus_zero })
    (conic (pos 40804) (pos 40000) (pos 13057280) (pos 0) (pos 30292889600)) (camera (pos 800) (pos 808) (negsuc 319) (pos 0))
    -- the ends: 1, 256 and −256 times 1; 256, 256, 256 and −256 times 256
    ∷ given (camera (pos 1) (pos 256) (pos 1) (negsuc 255)) (conic (pos 65536) (pos 1) (negsuc 65535) (pos 256) (pos 196608)) (camera (pos 1) (pos 256) (pos 1) (negsuc 255))
    ∷ given (camera (pos 65536) (pos 65536) (pos 65536) (negsuc 65535))
    (conic (pos 65536) (pos 65536) (negsuc 4294967295) (pos 4294967296) (pos 844424930131968)) (camera (pos 65536) (pos 65536) (pos 65536) (negsuc 65535))
    -- no power for both: 512 beside 1, 65536 beside 255; none for one: 257, 131072, and 0.5
    ∷ refused (camera (pos 512) (pos 1) (pos 0) (pos 0))
    ∷ refused (camera (pos 65536) (pos 255) (pos 0) (pos 0))
    ∷ refused (camera (pos 257) (pos 257) (pos 0) (pos 0))
    ∷ refused (camera (pos 131072) (pos 131072) (pos 0) (pos 0))
    ∷ refused (centred (whole (pos 0)) (of_bits binary64 0x3fe0_0000_0000_0000))
    -- 5e-324, which a division by 2 rounds to 0; NaN; an infinity
    ∷ refused (centred (of_bits binary64 1) (whole (pos 0)))
    ∷ refused (centred (whole (pos 0)) (of_bits binary64 0x7ff8_0000_0000_0000))
    ∷ refused (centred (of_bits binary64 0xfff0_0000_0000_0000) (whole (pos 0)))
    ∷ refused (long (of_bits binary64 0x7ff0_0000_0000_0000))
    -- focal lengths of −0 and −8
    ∷ refused (long minus_zero)
    ∷ refused (long (whole (negsuc 7)))
    ∷ []
