-- When a value is not below another, as IEEE 754 compares: NaN is below nothing, so `lt x y ≡ false` needs no case for
-- it. Assumes nothing.
use Rattle.std.specs.Prelude.{◌≡◌, refl, true, false, Float}
use Rattle.std.proofs.Common.{sym, ◌∙◌, true≢false}
use Rattle.std.specs.Float.{nan, inf, fin}
use Rattle.std.specs.Float.Ieee.{lt, le, eq, is_nan}
use Rattle.common.specs.Tests.{case}
use Rattle.float.specs.Float.{sign_bit}
use Rattle.float.specs.Order.{lt_asym, lt_cotrans}

-- transitive, where the value between is no NaN
pub not_below_trans : (x y z : Float) → is_nan y ≡ false → lt x y ≡ false → lt y z ≡ false → lt x z ≡ false
not_below_trans x y z n h k = case (lt x z) (λ l. absurd (true≢false (sym (lt_cotrans x z y n l k) ∙ h))) (λ l. l)

pub lt_trans : (x y z : Float) → is_nan z ≡ false → lt x y ≡ true → lt y z ≡ true → lt x z ≡ true
lt_trans x y z n h k = lt_cotrans x y z n h (lt_asym y z k)

pub nan_not_below : (x y : Float) → is_nan x ≡ true → lt x y ≡ false
unfolding is_nan lt
nan_not_below nan y h = refl
nan_not_below (inf s) y h = absurd (true≢false (sym h))
nan_not_below (fin s m e) y h = absurd (true≢false (sym h))

-- where one is at most another, both are numbers: `le_second_is_not_nan` has the second
pub le_first_is_not_nan : (x y : Float) → le x y ≡ true → is_nan x ≡ false
unfolding is_nan le lt eq
le_first_is_not_nan nan y h = absurd (true≢false (sym h))
le_first_is_not_nan (inf s) y h = refl
le_first_is_not_nan (fin s m e) y h = refl

-- a value without a minus sign isn't below one with a minus sign
pub plus_not_below_minus : (x y : Float) → sign_bit x ≡ false → sign_bit y ≡ true → lt x y ≡ false
unfolding sign_bit lt
plus_not_below_minus nan y h k = refl
plus_not_below_minus (inf s) nan h k = refl
plus_not_below_minus (inf s) (inf t) h k = rw h
plus_not_below_minus (inf s) (fin t n d) h k = h
plus_not_below_minus (fin s m e) nan h k = refl
plus_not_below_minus (fin s m e) (inf t) h k = rw k
plus_not_below_minus (fin s m e) (fin t n d) h k = rw (h, k)
