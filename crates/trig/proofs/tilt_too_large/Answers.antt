-- `trig::tilt_too_large` meets its contract: x is NaN or above 0.5 in size exactly where it isn't at most 0.5 in size.
-- Assumes nothing.
use Rattle.std.proofs.Common.{◌≡◌, refl, sym, ◌∙◌, true≢false, true, false, not, Float}
use Rattle.std.specs.Float.{nan, inf, fin}
use Rattle.std.specs.Float.Ieee.{of_bits, lt, le, mul, is_nan}
use Rattle.common.specs.Tests.{case}
use Rattle.float.specs.Float.{abs_of, sign_bit, within}
use Rattle.float.specs.Sign.{abs_unsigned}
use Rattle.float.specs.Binary64.{◌*₆₄◌}
use Rattle.float.specs.Nan.{is_nan_gives_nan}
use Rattle.float_laws.specs.OneTest.{size_by_square}
use Rattle.float.specs.Literals.{half₆₄}
use Rattle.float.specs.Order.{le_not_lt, le_of_not_lt}
use Rattle.trig.specs.Answer.{tilt_too_large}
use Rattle.trig.proofs.tilt_too_large.Goals as goal

not_at_most_is_below : (x y : Float) → is_nan x ≡ false → is_nan y ≡ false → not (le x y) ≡ lt y x
not_at_most_is_below x y a b = case (le x y) (λ e. rw (e, le_not_lt x y e)) (λ e. case (lt y x) (λ f. rw (e, f)) (λ f. absurd (true≢false (sym (le_of_not_lt x y a b f) ∙ e))))

not_within_half_is_too_large : (x : Float) → not (within half₆₄ x) ≡ tilt_too_large x
unfolding within tilt_too_large is_nan le lt abs_of of_bits
not_within_half_is_too_large nan = refl
not_within_half_is_too_large (inf s) = refl
not_within_half_is_too_large (fin s m e) = not_at_most_is_below (fin false m e) half₆₄ refl refl

half_has_no_minus : sign_bit half₆₄ ≡ false
unfolding sign_bit of_bits
half_has_no_minus = refl

nan_square_not_below : (y : Float) → lt (nan *₆₄ nan) y ≡ false
unfolding mul lt
nan_square_not_below y = refl

small_square_is_not_too_large : (x : Float) → lt (x *₆₄ x) (half₆₄ *₆₄ half₆₄) ≡ true → tilt_too_large x ≡ false
unfolding tilt_too_large
small_square_is_not_too_large x h =
    case (is_nan x)
    (λ n. absurd (true≢false (sym (rw (is_nan_gives_nan x n) at h) ∙ nan_square_not_below (half₆₄ *₆₄ half₆₄))))
    (λ n. rw (n, rw (abs_unsigned half₆₄ half_has_no_minus) at (size_by_square x half₆₄ h)) refl)

pub returns-then-x : goal.returns-then-x
returns-then-x c = sym (small_square_is_not_too_large c.args.x c.if-x.true)

pub returns : goal.returns
returns c = rw c.within.ensures (not_within_half_is_too_large c.args.x)
