-- The kit's definitions of `abs`, `is_finite` and `to_bits` equal those of specs/Float.antt. Assumes nothing.
use Rattle.std.specs.Prelude.{◌≡◌, refl, false, Float}
use Rattle.std.specs.Float.{nan, inf, fin, binary64, float_with_sign, float_is_finite}
use Rattle.std.specs.Float.Ieee.{to_bits, is_nan}
use Rattle.float.specs.Float.{abs_of, is_finite, bits_of}

pub library_abs_agrees : (x : Float) → float_with_sign false x ≡ abs_of x
unfolding float_with_sign abs_of
library_abs_agrees nan = refl
library_abs_agrees (inf s) = refl
library_abs_agrees (fin s m e) = refl

pub library_is_finite_agrees : (x : Float) → float_is_finite x ≡ is_finite x
unfolding float_is_finite is_finite
library_is_finite_agrees nan = refl
library_is_finite_agrees (inf s) = refl
library_is_finite_agrees (fin s m e) = refl

pub library_to_bits_agrees : (x : Float) → to_bits binary64 x ≡ bits_of x
unfolding to_bits is_nan bits_of
library_to_bits_agrees nan = refl
library_to_bits_agrees (inf s) = refl
library_to_bits_agrees (fin s m e) = refl
