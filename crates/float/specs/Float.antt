-- Rust's `abs`, `is_finite`, `min`, `max`, `clamp` and `to_bits`, the sign, and a limit on the size, over the values of
-- IEEE 754. Definitions only.
use Rattle.std.specs.Prelude.{ℕ, Bool, true, false, cond, Float}
use Rattle.std.specs.Float.{nan, inf, fin, binary64}
use Rattle.std.specs.Float.Ieee.{lt, le, is_nan, to_bits}

-- the value with its sign cleared
unfoldable pub abs_of : Float → Float
abs_of nan = nan
abs_of (inf s) = inf false
abs_of (fin s m e) = fin false m e

-- whether t is at most max in size: max itself is, and NaN isn't
unfoldable pub within : Float → Float → Bool
within max t = le (abs_of t) max

-- whether the sign is a minus; NaN has none
unfoldable pub sign_bit : Float → Bool
sign_bit nan = false
sign_bit (inf s) = s
sign_bit (fin s m e) = s

-- neither NaN nor an infinity
unfoldable pub is_finite : Float → Bool
is_finite nan = false
is_finite (inf s) = false
is_finite (fin s m e) = true

-- The lower of two, the first of equals, so also of two zeros; where one is NaN, the other.
unfoldable pub min_of : Float → Float → Float
min_of x y = cond (is_nan x) y (cond (lt y x) y x)

-- The higher of two, likewise.
unfoldable pub max_of : Float → Float → Float
max_of x y = cond (is_nan x) y (cond (lt x y) y x)

-- The nearer end where x lies outside low to high, else x; NaN stays.
unfoldable pub clamp_of : Float → Float → Float → Float
clamp_of x low high = cond (lt x low) low (cond (lt high x) high x)

-- The 64 bits of binary64; any NaN has the bits 7ff8000000000000.
unfoldable pub bits_of : Float → ℕ
bits_of x = cond (is_nan x) 0x7ff8_0000_0000_0000 (to_bits binary64 x)
