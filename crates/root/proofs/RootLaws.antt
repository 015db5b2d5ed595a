-- The root's special values, and when it is NaN, finite or not below zero. Assumes nothing.
use Rattle.std.specs.Prelude.{◌≡◌, refl, Bool, true, false, ◌&&◌, ◌||◌, cond, ℕ, zero, suc, ◌+◌, ◌*◌, ◌^◌, ℤ, T, ltb, Float}
use Rattle.std.proofs.Common.{sym, ap, ◌∙◌, true≢false, zero-lt-suc, lt→ltb}
use Rattle.std.proofs.Math.Bool.{not}
use Rattle.std.proofs.Math.Dec.{eqb-suc-zero}
use Rattle.std.specs.Float.{nan, inf, fin, Format}
use Rattle.std.specs.Float.Ieee.{prec, emax, low, lt, is_nan, fits, odd, units, of_bits}
use Rattle.std.specs.Float.Ieee.Positive.{positive}
use Rattle.float.specs.Float.{is_finite, sign_bit}
use Rattle.float.specs.Sign.{lt_zero}
use Rattle.float.specs.Literals.{plus_zero}
use Rattle.root.specs.Root.{dropped, rounded, radicand, root_of, root}
use Rattle.root.proofs.Nearest.{root_positive}

-- ---- special values

pub root_nan : (f : Format) → root f nan ≡ nan
unfolding root
root_nan f = refl

pub root_infinity : (f : Format) → root f (inf false) ≡ inf false
unfolding root
root_infinity f = refl

-- -0 and +0
pub root_zero : (f : Format) (s : Bool) (e : ℤ) → root f (fin s zero e) ≡ fin s zero e
unfolding root
root_zero f s e = refl

-- ---- how a number compares with zero, by its sign

zero_not_below : (s : Bool) (e : ℤ) → lt (fin s zero e) plus_zero ≡ false
zero_not_below true e = lt_zero true zero e
zero_not_below false e = lt_zero false zero e

plus_not_below : (m : ℕ) (e : ℤ) → lt (fin false m e) plus_zero ≡ false
plus_not_below m e = lt_zero false m e

minus_below : (m : ℕ) (e : ℤ) → lt (fin true (suc m) e) plus_zero ≡ true
minus_below m e = lt_zero true (suc m) e ∙ ap not (eqb-suc-zero m)

infinity_not_below : lt (inf false) plus_zero ≡ false
unfolding lt of_bits
infinity_not_below = refl

-- ---- a rounded root of whole numbers: no NaN, no sign

-- a property of +infinity and of every fin false m e holds of each such root
property_of_root_of : (P : Float → Type 0) → P (inf false) → ((m : ℕ) (e : ℤ) → P (fin false m e)) → (f : Format) (n : ℕ) → P (root_of f n)
unfolding root_of units odd
property_of_root_of P i g f n = go (ltb (rounded f n * 2 ^ dropped f n) (2 ^ (low f + suc (emax f)))) (rounded f n)
  where
    go : (b : Bool) (q : ℕ) → P (cond b (odd (suc (prec f)) false q (dropped f n) (low f)) (inf false))
    go true zero = g _ _
    go true (suc q) = g _ _
    go false q = i

-- ---- every root

pub root_negative : (f : Format) (x : Float) → lt x plus_zero ≡ true → root f x ≡ nan
unfolding root
root_negative f nan h = refl
root_negative f (inf true) h = refl
root_negative f (inf false) h = absurd (true≢false (sym h ∙ infinity_not_below))
root_negative f (fin s zero e) h = absurd (true≢false (sym h ∙ zero_not_below s e))
root_negative f (fin true (suc m) e) h = refl
root_negative f (fin false (suc m) e) h = absurd (true≢false (sym h ∙ plus_not_below (suc m) e))

-- no root is below zero
pub root_not_below : (f : Format) (x : Float) → lt (root f x) plus_zero ≡ false
unfolding root lt
root_not_below f nan = refl
root_not_below f (inf true) = refl
root_not_below f (inf false) = infinity_not_below
root_not_below f (fin s zero e) = zero_not_below s e
root_not_below f (fin true (suc m) e) = refl
root_not_below f (fin false (suc m) e) = property_of_root_of (λ (y : Float). lt y plus_zero ≡ false) infinity_not_below plus_not_below f (radicand f (suc m) e)

-- and none has a minus sign where the number has none
pub sign_root : (f : Format) (x : Float) → sign_bit x ≡ false → sign_bit (root f x) ≡ false
unfolding root sign_bit
sign_root f nan h = refl
sign_root f (inf true) h = absurd (true≢false h)
sign_root f (inf false) h = refl
sign_root f (fin s zero e) h = h
sign_root f (fin true (suc m) e) h = absurd (true≢false h)
sign_root f (fin false (suc m) e) h = property_of_root_of (λ (y : Float). sign_bit y ≡ false) refl (λ q d. refl) f (radicand f (suc m) e)

-- the root is NaN exactly for NaN and below zero
pub root_is_nan : (f : Format) (x : Float) → is_nan (root f x) ≡ (is_nan x || lt x plus_zero)
unfolding root is_nan lt of_bits
root_is_nan f nan = refl
root_is_nan f (inf true) = refl
root_is_nan f (inf false) = refl
root_is_nan f (fin s zero e) = sym (zero_not_below s e)
root_is_nan f (fin true (suc m) e) = sym (minus_below m e)
root_is_nan f (fin false (suc m) e) = property_of_root_of (λ (y : Float). is_nan y ≡ false) refl (λ q d. refl) f (radicand f (suc m) e) ∙ sym (plus_not_below (suc m) e)

-- of a value of the format: the root is finite exactly where that is, and not below zero
pub root_is_finite : (f : Format) (x : Float) → T (fits f x) → is_finite (root f x) ≡ (is_finite x && not (lt x plus_zero))
unfolding root is_finite
root_is_finite f nan h = refl
root_is_finite f (inf true) h = refl
root_is_finite f (inf false) h = refl
root_is_finite f (fin s zero e) h = sym (ap not (zero_not_below s e))
root_is_finite f (fin true (suc m) e) h = sym (ap not (minus_below m e))
root_is_finite f (fin false (suc m) e) h = positive_is (root f (fin false (suc m) e)) (root_positive f (fin false (suc m) e) (lt→ltb 0 (suc m) (zero-lt-suc m)) h) ∙ sym (ap not (plus_not_below (suc m) e))
  where
    positive_is : (y : Float) → T (positive y) → is_finite y ≡ true
    positive_is nan p = absurd p
    positive_is (inf s) p = absurd p
    positive_is (fin s q d) p = refl
