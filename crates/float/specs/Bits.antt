-- The bits of a value of binary64 are a number below 2^64, and reading them gives the value. Assumes nothing.
use Rattle.std.specs.Prelude.{◌<◌, ◌^◌, ◌≡◌, true, false, T, Float}
use Rattle.std.proofs.Math.Path.{sym}
use Rattle.std.proofs.Common.{arith}
use Rattle.std.specs.Float.{nan, binary64}
use Rattle.std.specs.Float.Ieee.{of_bits, to_bits, is_nan, fits}
use Rattle.std.specs.Float.Ieee.Bits.{of_bits-to_bits, to_bits-lt}
use Rattle.common.specs.Tests.{case}
use Rattle.float.specs.Float.{bits_of}
use Rattle.float.specs.Nan.{is_nan_gives_nan}

module _ (x : Float) where
  bits_of_number : is_nan x ≡ false → bits_of x ≡ to_bits binary64 x
  unfolding bits_of
  bits_of_number e = simp e

  bits_of_nan : is_nan x ≡ true → bits_of x ≡ 0x7ff8_0000_0000_0000
  unfolding bits_of
  bits_of_nan e = simp e

  nan_bits_read_as_nan : x ≡ nan → of_bits binary64 0x7ff8_0000_0000_0000 ≡ x
  unfolding of_bits
  nan_bits_read_as_nan e = sym e

  module _ (h : T (fits binary64 x)) where
    pub bits_lt_two_pow_64 : bits_of x < 2 ^ 64
    bits_lt_two_pow_64 = case (is_nan x) (λ e. rw (bits_of_nan e) (omega arith)) (λ e. rw (bits_of_number e) (to_bits-lt binary64 x h))

    pub reading_bits_gives_value : of_bits binary64 (bits_of x) ≡ x
    reading_bits_gives_value = case (is_nan x) (λ e. rw (bits_of_nan e) (nan_bits_read_as_nan (is_nan_gives_nan x e))) (λ e. rw (bits_of_number e) (of_bits-to_bits binary64 x h))
