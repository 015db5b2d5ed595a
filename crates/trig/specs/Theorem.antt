-- What sine and cosine reply, for every argument, as a type. `proofs/Theorem.antt` proves it. Definitions only.
use Rattle.std.specs.Prelude.{◌≡◌, Bool, true, false, ◌*◌, ◌^◌, ◌≤◌, ◌<◌, Float, Result, Ok, Err}
use Rattle.float.specs.Float.{is_finite}
use Rattle.float.specs.Literals.{one₆₄, zero_of}
use Rattle.float_laws.specs.Fraction.{Fraction}
use Rattle.float_laws.specs.Rounded.{value_of}
use Rattle.float_laws.specs.Integers.{apart}
use Rattle.trig.specs.Series.{Series, cosines, sines, exact_of}
use Rattle.trig.specs.Answer.{tilt_too_large, answer_of}
use Rattle.common.specs.declared.Refusal.{Refusal}
use Rattle.common.specs.declared.Refusal.TheVariants.{TiltTooLarge}

-- ---- a number within 2 ^ -50 of the exact value, or a refusal
-- `apart` is the difference of two fractions, times both denominators
pub record Close (y : Float) (e : Fraction) : Type 0 where
  pub fraction : 0 < e.den
  pub number : is_finite y ≡ true
  pub close : 2 ^ 50 * apart (value_of y) e ≤ (value_of y).den * e.den

abbrev pub Right : Series → Float → Result Float Refusal → Type 0
Right w x (Ok y) = (tilt_too_large x ≡ false) × Close y (exact_of w (value_of x))
Right w x (Err r) = (tilt_too_large x ≡ true) × (r ≡ TiltTooLarge)

pub record SeriesRight : Type 0 where
  pub right : (w : Series) (x : Float) → Right w x (answer_of w x)
  -- a zero gives itself, sign included, and exactly 1
  pub sine_zero : (s : Bool) → answer_of sines (zero_of s) ≡ Ok (zero_of s)
  pub cosine_zero : (s : Bool) → answer_of cosines (zero_of s) ≡ Ok one₆₄
