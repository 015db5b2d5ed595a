-- One comparison in place of several: of two numbers it gives the lower and the higher one, and of two squares the
-- order of the sizes. Assumes nothing.
use Rattle.std.specs.Prelude.{◌≡◌, refl, true, false, Float}
use Rattle.std.proofs.Common.{sym, ◌∙◌, true≢false}
use Rattle.std.specs.Float.{binary64}
use Rattle.std.specs.Float.Ieee.{le, lt, mul, is_nan}
use Rattle.common.specs.Tests.{case}
use Rattle.float.specs.Float.{abs_of, min_of, max_of}
use Rattle.float.specs.Order.{le_not_lt, le_second_is_not_nan, le_of_not_lt}
use Rattle.float.specs.Sign.{abs_unsigned, sign_square}
use Rattle.float_laws.specs.NotBelow.{le_first_is_not_nan}
use Rattle.float_laws.specs.Reaches.{below_reached, mul_reaches, not_below_of_reaches}

-- ---- of two numbers, where the second is no NaN
-- where neither is NaN and the first is not at most the second, the second is below the first
second_below_of_not_at_most : (x y : Float) → is_nan x ≡ false → is_nan y ≡ false → le x y ≡ false → lt y x ≡ true
second_below_of_not_at_most x y n o h = case (lt y x) (λ e. e) (λ e. absurd (true≢false (sym (le_of_not_lt x y n o e) ∙ h)))

pub lower_is_first : (x y : Float) → le x y ≡ true → x ≡ min_of x y
unfolding min_of
lower_is_first x y e = rw (le_first_is_not_nan x y e, le_not_lt x y e) refl

pub lower_is_second : (x y : Float) → is_nan y ≡ false → le x y ≡ false → y ≡ min_of x y
unfolding min_of
lower_is_second x y o e = case (is_nan x) (λ n. rw n refl) (λ n. rw (n, second_below_of_not_at_most x y n o e) refl)

pub higher_is_first : (x y : Float) → le y x ≡ true → x ≡ max_of x y
unfolding max_of
higher_is_first x y e = rw (le_second_is_not_nan y x e, le_not_lt y x e) refl

pub higher_is_second : (x y : Float) → is_nan y ≡ false → le y x ≡ false → y ≡ max_of x y
unfolding max_of
higher_is_second x y o e = case (is_nan x) (λ n. rw n refl) (λ n. rw (n, second_below_of_not_at_most y x o n e) refl)

-- ---- a rounded square keeps the order of sizes: the number with the lower square is of no greater size
pub size_by_square : (x y : Float) → lt (mul binary64 x x) (mul binary64 y y) ≡ true → lt (abs_of y) (abs_of x) ≡ false
size_by_square x y h = case (lt (abs_of y) (abs_of x)) (λ e. absurd (true≢false (sym h ∙ no e))) (λ e. e)
  where
    no : lt (abs_of y) (abs_of x) ≡ true → lt (mul binary64 x x) (mul binary64 y y) ≡ false
    no e =
        let r = below_reached y x e in
        rw (abs_unsigned (mul binary64 x x) (sign_square binary64 x), abs_unsigned (mul binary64 y y) (sign_square binary64 y)) at
        (not_below_of_reaches (mul binary64 x x) (mul binary64 y y) (mul_reaches binary64 x x y y r r))
