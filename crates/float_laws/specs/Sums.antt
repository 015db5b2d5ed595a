-- A rounded sum is not below its second term where the first is not below 0. Assumes nothing.
use Rattle.std.specs.Prelude.{◌≡◌, refl, Bool, T, ltb, ℤ, pos, Float}
use Rattle.std.proofs.Common.{sym, ◌∙◌, true≢false, mul_comm, mul_assoc, mul-pos, mul-le-mul_right, add_comm, zero-add, arith, ltb-true, ltb-false, lt-ltb, le-ltb}
use Rattle.std.proofs.Math.Path.{ap}
use Rattle.std.proofs.Math.Bool.{true, false, not}
use Prim.Native.Nat.{ℕ, zero, suc, ◌+◌, ◌-◌, ◌*◌, ◌<◌}
use Rattle.std.proofs.Math.Nat.{zero-mul}
use Rattle.std.proofs.Math.Dec.{eqb-suc-zero}
use Rattle.std.specs.Float.{nan, inf, fin, Format}
use Rattle.std.specs.Float.Ieee.{binary64, of_bits, up, down, round, sum, neg, add, lt, is_nan, fits}
use Rattle.std.specs.Float.Ieee.Fits.{down_pos}
use Rattle.std.specs.Float.Ieee.Scale.{round_same}
use Rattle.common.specs.Tests.{case}
use Rattle.float.specs.Float.{abs_of, sign_bit}
use Rattle.float.specs.Exact.{round_of_own_fraction}
use Rattle.float.specs.Order.{lt_irrefl, lt_neg}
use Rattle.float.specs.Literals.{plus_zero}
use Rattle.float.specs.Sign.{sign_round, abs_round, lt_zero, fitting_zero_has_exponent_zero}
use Rattle.float_laws.specs.Reaches.{rounds_in_order}
use Rattle.float_laws.specs.NotBelow.{not_below_trans, nan_not_below, plus_not_below_minus}

-- ---- a sum that is no NaN has no NaN among its terms
pub terms_of_sum_not_nan : (f : Format) (x y : Float) → is_nan (add f x y) ≡ false → (is_nan x ≡ false) × (is_nan y ≡ false)
unfolding add is_nan
terms_of_sum_not_nan f nan y h = absurd (true≢false h)
terms_of_sum_not_nan f (inf s) nan h = absurd (true≢false h)
terms_of_sum_not_nan f (inf s) (inf t) h = (refl, refl)
terms_of_sum_not_nan f (inf s) (fin t n d) h = (refl, refl)
terms_of_sum_not_nan f (fin s m e) nan h = absurd (true≢false h)
terms_of_sum_not_nan f (fin s m e) (inf t) h = (refl, refl)
terms_of_sum_not_nan f (fin s m e) (fin t n d) h = (refl, refl)

-- ---- the terms' order doesn't matter
sum_of_unlike_signs_comm : (f : Format) (a b c : ℕ) → sum f true a false b c ≡ sum f false b true a c
unfolding sum
sum_of_unlike_signs_comm f a b c =
    case (ltb a b)
    (λ l. rw (l, le-ltb b a (omega (arith, ltb-true a b l))))
    (λ l. case (ltb b a)
    (λ g. rw (l, g))
    (λ g. let e : a - b ≡ b - a = omega (arith, ltb-false a b l, ltb-false b a g) in rw (l, g, e)))

sum_comm : (f : Format) (s t : Bool) (a b c : ℕ) → sum f s a t b c ≡ sum f t b s a c
unfolding sum
sum_comm f true true a b c = rw (add_comm a b)
sum_comm f false false a b c = rw (add_comm a b)
sum_comm f true false a b c = sum_of_unlike_signs_comm f a b c
sum_comm f false true a b c = sym (sum_of_unlike_signs_comm f b a c)

pub add_commutes : (f : Format) (x y : Float) → add f x y ≡ add f y x
unfolding add
add_commutes f nan nan = refl
add_commutes f nan (inf t) = refl
add_commutes f nan (fin t n d) = refl
add_commutes f (inf s) nan = refl
add_commutes f (inf true) (inf true) = refl
add_commutes f (inf true) (inf false) = refl
add_commutes f (inf false) (inf true) = refl
add_commutes f (inf false) (inf false) = refl
add_commutes f (inf s) (fin t n d) = refl
add_commutes f (fin s m e) nan = refl
add_commutes f (fin s m e) (inf t) = refl
add_commutes f (fin s m e) (fin t n d) =
    sum_comm f s t (m * up e * down d) (n * up d * down e) (down e * down d)
    ∙ ap (sum f t (n * up d * down e) s (m * up e * down d)) (mul_comm (down e) (down d))

-- ---- a number that fits is what its own fraction rounds to, over any common denominator too
zero_rounds_to_itself : (s : Bool) (e : ℤ) → e ≡ pos 0 → round binary64 s (0 * up e) (down e) ≡ fin s 0 e
unfolding round
zero_rounds_to_itself true e h = rw h
zero_rounds_to_itself false e h = rw h

value_rounds_to_itself : (s : Bool) (m : ℕ) (e : ℤ) → T (fits binary64 (fin s m e)) → round binary64 s (m * up e) (down e) ≡ fin s m e
value_rounds_to_itself s zero e h = zero_rounds_to_itself s e (fitting_zero_has_exponent_zero s e h)
value_rounds_to_itself s (suc m) e h = round_of_own_fraction binary64 s m e h

value_rounds_to_itself_over : (s : Bool) (m k : ℕ) (e : ℤ) → 0 < k → T (fits binary64 (fin s m e)) → round binary64 s (m * up e * k) (k * down e) ≡ fin s m e
value_rounds_to_itself_over s m k e p h =
    round_same binary64 s (m * up e * k) (k * down e) (m * up e) (down e) (mul-pos p (down_pos e)) (down_pos e) (mul_assoc (m * up e) k (down e)) ∙ value_rounds_to_itself s m e h

-- ---- the sum of ±a / c and ±b / c against ±b / c
minus_is_neg_of_size : (x : Float) → sign_bit x ≡ true → x ≡ neg (abs_of x)
unfolding sign_bit neg abs_of
minus_is_neg_of_size nan h = absurd (true≢false (sym h))
minus_is_neg_of_size (inf s) h = ap inf h
minus_is_neg_of_size (fin s m e) h = ap (λ (t : Bool). fin t m e) h

round_neg : (a c : ℕ) → round binary64 true a c ≡ neg (round binary64 false a c)
round_neg a c = minus_is_neg_of_size (round binary64 true a c) (sign_round binary64 true a c) ∙ ap neg (abs_round binary64 true a c)

plus_sum_not_below_second : (t : Bool) (a b c : ℕ) → 0 < c → lt (sum binary64 false a t b c) (round binary64 t b c) ≡ false
unfolding sum
plus_sum_not_below_second false a b c p = rounds_in_order binary64 (a + b) c b c p p (mul-le-mul_right c (omega arith))
plus_sum_not_below_second true a b c p =
    case (ltb a b)
    (λ l. rw (l, round_neg (b - a) c, round_neg b c) (lt_neg (round binary64 false (b - a) c) (round binary64 false b c) ∙ rounds_in_order binary64 b c (b - a) c p p (mul-le-mul_right c (omega arith))))
    (λ l. rw l (plus_not_below_minus (round binary64 false (a - b) c) (round binary64 true b c) (sign_round binary64 false (a - b) c) (sign_round binary64 true b c)))

-- the same with −0 as the first term
minus_zero_sum_not_below_second : (t : Bool) (b c : ℕ) → lt (sum binary64 true 0 t b c) (round binary64 t b c) ≡ false
unfolding sum
minus_zero_sum_not_below_second true b c = rw (zero-add b) (lt_irrefl (round binary64 true b c))
minus_zero_sum_not_below_second false zero c = lt_irrefl (round binary64 false 0 c)
minus_zero_sum_not_below_second false (suc b) c = let e : suc b - 0 ≡ suc b = omega arith in rw (e, lt-ltb 0 (suc b) (omega arith)) (lt_irrefl (round binary64 false (suc b) c))

module _ (t : Bool) (n : ℕ) (d : ℤ) (h : T (fits binary64 (fin t n d))) where
  number_sum_not_below_second : (s : Bool) (m : ℕ) (e : ℤ) → lt (fin s m e) plus_zero ≡ false → lt (add binary64 (fin s m e) (fin t n d)) (fin t n d) ≡ false
  unfolding add
  number_sum_not_below_second false m e k =
      ap (lt (add binary64 (fin false m e) (fin t n d))) (sym (value_rounds_to_itself_over t n (down e) d (down_pos e) h))
      ∙ plus_sum_not_below_second t (m * up e * down d) (n * up d * down e) (down e * down d) (mul-pos (down_pos e) (down_pos d))
  number_sum_not_below_second true zero e k =
      ap (lt (add binary64 (fin true zero e) (fin t n d))) (sym (value_rounds_to_itself_over t n (down e) d (down_pos e) h))
      ∙ simp zero-mul (minus_zero_sum_not_below_second t (n * up d * down e) (down e * down d))
  number_sum_not_below_second true (suc m) e k = absurd (true≢false (sym (lt_zero true (suc m) e ∙ ap not (eqb-suc-zero m)) ∙ k))

pub sum_not_below_second : (x y : Float) → T (fits binary64 y) → lt x plus_zero ≡ false → lt (add binary64 x y) y ≡ false
unfolding add lt of_bits
sum_not_below_second nan y h k = refl
sum_not_below_second (inf true) y h k = absurd (true≢false k)
sum_not_below_second (inf false) nan h k = refl
sum_not_below_second (inf false) (inf true) h k = refl
sum_not_below_second (inf false) (inf false) h k = refl
sum_not_below_second (inf false) (fin t n d) h k = refl
sum_not_below_second (fin s m e) nan h k = refl
sum_not_below_second (fin s m e) (inf t) h k = lt_irrefl (inf t)
sum_not_below_second (fin s m e) (fin t n d) h k = number_sum_not_below_second t n d h s m e k

-- so a sum of two values that aren't below 0 isn't below 0
pub sum_not_below_zero : (x y : Float) → T (fits binary64 y) → lt x plus_zero ≡ false → lt y plus_zero ≡ false → lt (add binary64 x y) plus_zero ≡ false
sum_not_below_zero x y h k l =
    case (is_nan (add binary64 x y))
    (λ n. nan_not_below (add binary64 x y) plus_zero n)
    (λ n. not_below_trans (add binary64 x y) y plus_zero (terms_of_sum_not_nan binary64 x y n).1 (sum_not_below_second x y h k) l)
