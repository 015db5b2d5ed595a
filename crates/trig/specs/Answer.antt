-- What the calls reply: a refusal where the number is NaN or beyond 0.5 in size, and the series otherwise.
-- Definitions only.
use Rattle.std.specs.Prelude.{Bool, ◌||◌, cond, Float, Result, Ok, Err}
use Rattle.std.specs.Float.Ieee.{lt, is_nan}
use Rattle.float.specs.Float.{abs_of}
use Rattle.float.specs.Literals.{half₆₄}
use Rattle.common.specs.declared.Refusal.{Refusal}
use Rattle.common.specs.declared.Refusal.TheVariants.{TiltTooLarge}
use Rattle.trig.specs.Series.{Series, series_of}

unfoldable pub tilt_too_large : Float → Bool
tilt_too_large x = is_nan x || lt half₆₄ (abs_of x)

unfoldable pub answer_of : Series → Float → Result Float Refusal
unfolding series_of tilt_too_large
answer_of w x = cond (tilt_too_large x) (Err TiltTooLarge) (Ok (series_of w x))
