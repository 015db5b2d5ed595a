-- What the tests for NaN say of a value, and how a program makes a NaN. Assumes nothing.
use Rattle.std.specs.Prelude.{◌≡◌, refl, true, Float}
use Rattle.std.proofs.Common.{sym, true≢false}
use Rattle.std.specs.Float.{nan, inf, fin, binary64}
use Rattle.std.specs.Float.Ieee.{of_bits, div, is_nan}

pub is_nan_gives_nan : (x : Float) → is_nan x ≡ true → x ≡ nan
unfolding is_nan
is_nan_gives_nan nan e = refl
is_nan_gives_nan (inf s) e = absurd (true≢false (sym e))
is_nan_gives_nan (fin s m x) e = absurd (true≢false (sym e))

pub zero_over_zero_is_nan : div binary64 (of_bits binary64 0) (of_bits binary64 0) ≡ nan
unfolding div of_bits
zero_over_zero_is_nan = refl
