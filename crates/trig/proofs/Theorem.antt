-- What sine and cosine reply, for every argument: the proof of all of `specs/Theorem.antt`. Assumes nothing.
use Rattle.std.specs.Prelude.{◌≡◌, refl, Bool, true, false, ℕ, ◌*◌, ◌^◌, ◌≤◌, ◌<◌, ℤ, Float, Ok}
use Rattle.std.proofs.Common.{true≢false, arith, ltb-false}
use Rattle.std.specs.Float.{nan, inf, fin}
use Rattle.std.specs.Float.Ieee.{of_bits, up, down, lt, is_nan, mul, add}
use Rattle.common.specs.Tests.{case}
use Rattle.float.specs.Float.{abs_of, is_finite}
use Rattle.float.specs.Literals.{one₆₄, zero_of}
use Rattle.float_laws.specs.Fraction.{Fraction}
use Rattle.float_laws.specs.Rounded.{Within, within, value_of, value_den_positive}
use Rattle.float_laws.specs.Integers.{near_apart}
use Rattle.trig.specs.Series.{Series, cosines, sines, first, series_of, exact_of}
use Rattle.trig.specs.Exact.{terms_pos}
use Rattle.trig.specs.Answer.{tilt_too_large, answer_of}
use Rattle.trig.specs.Bound.{series_within}
use Rattle.trig.specs.Theorem.{Close, Right, SeriesRight}
use Rattle.trig.proofs.Ranges.{SineCosine, series_ranged}

-- ---- an argument that is not refused is a number of at most 0.5 in size
at_most_half : (s : Bool) (m : ℕ) (e : ℤ) → tilt_too_large (fin s m e) ≡ false → 2 * (m * up e) ≤ down e
unfolding tilt_too_large is_nan lt abs_of of_bits
at_most_half s m e h = omega (arith, ltb-false (1 * down e) (m * up e * 2) h)

series_near : (w : Series) (x : Float) → tilt_too_large x ≡ false → Within (2 ^ 50) 1 (series_of w x) (exact_of w (value_of x))
unfolding tilt_too_large is_nan lt abs_of of_bits
series_near w nan h = absurd (true≢false h)
series_near w (inf s) h = absurd (true≢false h)
series_near w (fin s m e) h = series_within w s m e (at_most_half s m e h)

-- the sine and the cosine of one number, in their ranges
pub sine_cosine_in_ranges : (x : Float) → tilt_too_large x ≡ false → SineCosine (series_of sines x) (series_of cosines x)
unfolding tilt_too_large is_nan lt abs_of of_bits
sine_cosine_in_ranges nan h = absurd (true≢false h)
sine_cosine_in_ranges (inf s) h = absurd (true≢false h)
sine_cosine_in_ranges (fin s m e) h = series_ranged s m e (at_most_half s m e h)

close_of_within : {y : Float} {e : Fraction} → 0 < e.den → Within (2 ^ 50) 1 y e → Close y e
unfolding is_finite
close_of_within p (within h) = record { fraction = p; number = refl; close = omega (arith, near_apart h) }

right : (w : Series) (x : Float) → Right w x (answer_of w x)
unfolding answer_of
right w x = case (tilt_too_large x) (λ t. rw t (t, refl)) (λ f. rw f (f, close_of_within (terms_pos (value_of x) (value_den_positive x) 8 (first w)) (series_near w x f)))

-- ---- a zero gives itself, sign included, and exactly 1
sine_zero : (s : Bool) → answer_of sines (zero_of s) ≡ Ok (zero_of s)
unfolding answer_of tilt_too_large series_of abs_of is_nan lt of_bits add mul
sine_zero true = refl
sine_zero false = refl

cosine_zero : (s : Bool) → answer_of cosines (zero_of s) ≡ Ok one₆₄
unfolding answer_of tilt_too_large series_of abs_of is_nan lt of_bits add mul
cosine_zero true = refl
cosine_zero false = refl

pub series_right : SeriesRight
series_right = record { right = right; sine_zero = sine_zero; cosine_zero = cosine_zero }
