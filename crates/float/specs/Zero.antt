-- What NaN, a zero and 1 do in sums and products. Assumes nothing.
use Rattle.std.specs.Prelude.{◌≡◌, Bool, true, false, not, ◌&&◌, cond, ℕ, zero, suc, ◌-◌, ◌*◌, ◌<◌, T, eqb, ℤ, pos, Float}
use Rattle.std.proofs.Math.Path.{refl}
use Rattle.std.proofs.Common.{sym, ◌∙◌, true≢false, mul-one, zero-mul, mul-zero, mul-pos, zero-lt-suc, add-zero as nat-add-zero, arith, lt-ltb, le-ltb}
use Rattle.std.specs.Bool.{beq}
use Rattle.std.proofs.Math.Dec.{eqb-suc-zero}
use Rattle.std.specs.Float.{nan, inf, fin, Format, binary64}
use Rattle.std.specs.Float.Ieee.{of_bits, up, down, unlike, fits, round, sum, add, mul, eq}
use Rattle.std.specs.Float.Ieee.Fits.{up_pos, down_pos}
use Rattle.std.specs.Float.Ieee.Scale.{round_same}
use Rattle.float.specs.Float.{is_finite, sign_bit}
use Rattle.float.specs.Sign.{eq_zero, fitting_zero_has_exponent_zero}
use Rattle.float.specs.Literals.{plus_zero, zero_of, one₆₄}
use Rattle.float.specs.Exact.{round_of_own_fraction}

-- ---- NaN
pub mul_nan : (f : Format) (x : Float) → mul f x nan ≡ nan
unfolding mul
mul_nan f nan = refl
mul_nan f (inf s) = refl
mul_nan f (fin s m e) = refl

pub add_nan : (f : Format) (x : Float) → add f x nan ≡ nan
unfolding add
add_nan f nan = refl
add_nan f (inf s) = refl
add_nan f (fin s m e) = refl

-- ---- a finite product's factors and a finite sum's terms are finite
nan_or_inf_is_not_finite : (c : Bool) (s : Bool) → is_finite (cond c nan (inf s)) ≡ false
unfolding is_finite
nan_or_inf_is_not_finite true s = refl
nan_or_inf_is_not_finite false s = refl

pub finite_factors : (f : Format) (x y : Float) → is_finite (mul f x y) ≡ true → (is_finite x ≡ true) × (is_finite y ≡ true)
unfolding mul is_finite
finite_factors f nan y h = absurd (true≢false (sym h))
finite_factors f (inf s) nan h = absurd (true≢false (sym h))
finite_factors f (inf s) (inf t) h = absurd (true≢false (sym h))
finite_factors f (inf s) (fin t n d) h = absurd (true≢false (sym h ∙ nan_or_inf_is_not_finite (eqb n 0) (unlike s t)))
finite_factors f (fin s m e) nan h = absurd (true≢false (sym h))
finite_factors f (fin s m e) (inf t) h = absurd (true≢false (sym h ∙ nan_or_inf_is_not_finite (eqb m 0) (unlike s t)))
finite_factors f (fin s m e) (fin t n d) h = (refl, refl)

inf_or_nan_is_not_finite : (c : Bool) (s : Bool) → is_finite (cond c (inf s) nan) ≡ false
unfolding is_finite
inf_or_nan_is_not_finite true s = refl
inf_or_nan_is_not_finite false s = refl

pub finite_terms : (f : Format) (x y : Float) → is_finite (add f x y) ≡ true → (is_finite x ≡ true) × (is_finite y ≡ true)
unfolding add is_finite
finite_terms f nan y h = absurd (true≢false (sym h))
finite_terms f (inf s) nan h = absurd (true≢false (sym h))
finite_terms f (inf s) (inf t) h = absurd (true≢false (sym h ∙ inf_or_nan_is_not_finite (beq s t) s))
finite_terms f (inf s) (fin t n d) h = absurd (true≢false (sym h))
finite_terms f (fin s m e) nan h = absurd (true≢false (sym h))
finite_terms f (fin s m e) (inf t) h = absurd (true≢false (sym h))
finite_terms f (fin s m e) (fin t n d) h = (refl, refl)

-- ---- a zero
rounded_zero : (s : Bool) (c : ℕ) → 0 < c → round binary64 s 0 c ≡ zero_of s
unfolding round
rounded_zero true c h = round_same binary64 true 0 c 0 1 h (omega arith) (omega arith)
rounded_zero false c h = round_same binary64 false 0 c 0 1 h (omega arith) (omega arith)

-- a zero times a number, in either order, is a zero
pub zero_times : (k x : Float) → eq k plus_zero ≡ true → is_finite x ≡ true → mul binary64 k x ≡ zero_of (unlike (sign_bit k) (sign_bit x))
unfolding mul is_finite eq of_bits sign_bit
zero_times nan x z f = absurd (true≢false (sym z))
zero_times (inf s) x z f = absurd (true≢false (sym z))
zero_times (fin s m e) nan z f = absurd (true≢false (sym f))
zero_times (fin s m e) (inf t) z f = absurd (true≢false (sym f))
zero_times (fin s zero e) (fin t n d) z f =
    let o : 0 * up e * (n * up d) ≡ 0 = simp zero-mul in
    simp o (rounded_zero (unlike s t) (down e * down d) (mul-pos (down_pos e) (down_pos d)))
zero_times (fin s (suc m) e) (fin t n d) z f = absurd (true≢false (sym z ∙ eq_zero s (suc m) e ∙ eqb-suc-zero m))

pub times_zero : (x k : Float) → is_finite x ≡ true → eq k plus_zero ≡ true → mul binary64 x k ≡ zero_of (unlike (sign_bit x) (sign_bit k))
unfolding mul is_finite eq of_bits sign_bit
times_zero nan k f z = absurd (true≢false (sym f))
times_zero (inf t) k f z = absurd (true≢false (sym f))
times_zero (fin t n d) nan f z = absurd (true≢false (sym z))
times_zero (fin t n d) (inf s) f z = absurd (true≢false (sym z))
times_zero (fin t n d) (fin s zero e) f z =
    let o : n * up d * (0 * up e) ≡ 0 = simp (zero-mul, mul-zero) in
    simp o (rounded_zero (unlike t s) (down d * down e) (mul-pos (down_pos d) (down_pos e)))
times_zero (fin t n d) (fin s (suc m) e) f z = absurd (true≢false (sym z ∙ eq_zero s (suc m) e ∙ eqb-suc-zero m))

pub zero_times_not_finite_is_nan : (k x : Float) → eq k plus_zero ≡ true → is_finite x ≡ false → mul binary64 k x ≡ nan
unfolding mul is_finite eq of_bits
zero_times_not_finite_is_nan nan x z f = refl
zero_times_not_finite_is_nan (inf s) x z f = absurd (true≢false (sym z))
zero_times_not_finite_is_nan (fin s m e) nan z f = refl
zero_times_not_finite_is_nan (fin s zero e) (inf t) z f = refl
zero_times_not_finite_is_nan (fin s (suc m) e) (inf t) z f = absurd (true≢false (sym z ∙ eq_zero s (suc m) e ∙ eqb-suc-zero m))
zero_times_not_finite_is_nan (fin s m e) (fin t n d) z f = absurd (true≢false f)

-- two zeros: −0 where both are
pub zeros_add : (s t : Bool) → add binary64 (zero_of s) (zero_of t) ≡ zero_of (s && t)
unfolding add
zeros_add true true = refl
zeros_add true false = refl
zeros_add false true = refl
zeros_add false false = refl

-- ---- a value plus a zero: itself, but −0 plus +0 is +0
abbrev pub plus_zero_unless : Bool → Float → Float
plus_zero_unless keep x = cond (eq x plus_zero && not keep) plus_zero x

zero_plus_zero_of : (s : Bool) (e : ℤ) (t : Bool) → e ≡ pos 0 → add binary64 (fin s zero e) (zero_of t) ≡ plus_zero_unless t (fin s zero e)
unfolding add of_bits eq
zero_plus_zero_of true e true h = rw h
zero_plus_zero_of true e false h = rw h
zero_plus_zero_of false e true h = rw h
zero_plus_zero_of false e false h = rw h

sum_with_zero_is_round : (s t : Bool) (a c : ℕ) → 0 < a → sum binary64 s a t 0 c ≡ round binary64 s a c
unfolding sum
sum_with_zero_is_round true true a c h = rw (nat-add-zero a)
sum_with_zero_is_round false false a c h = rw (nat-add-zero a)
sum_with_zero_is_round true false a c h = let z : a - 0 ≡ a = omega arith in simp (le-ltb a 0 (omega arith), lt-ltb 0 a h, z)
sum_with_zero_is_round false true a c h = let z : a - 0 ≡ a = omega arith in simp (le-ltb a 0 (omega arith), z)

number_plus_zero_of : (s : Bool) (m : ℕ) (e : ℤ) (t : Bool) → T (fits binary64 (fin s (suc m) e)) → add binary64 (fin s (suc m) e) (zero_of t) ≡ fin s (suc m) e
unfolding add
number_plus_zero_of s m e t h =
    let z : 0 * 1 * down e ≡ 0 = omega arith in
    rw (z, mul-one (suc m * up e), mul-one (down e)) (sum_with_zero_is_round s t (suc m * up e) (down e) (mul-pos (zero-lt-suc m) (up_pos e)) ∙ round_of_own_fraction binary64 s m e h)

-- a zero plus +0 is +0, also where the zero doesn't fit the format
pub zero_plus_plus_zero : (x : Float) → eq x plus_zero ≡ true → add binary64 x plus_zero ≡ plus_zero
unfolding add sum eq of_bits
zero_plus_plus_zero nan h = absurd (true≢false (sym h))
zero_plus_plus_zero (inf s) h = absurd (true≢false (sym h))
zero_plus_plus_zero (fin true zero e) h = simp (zero-mul, mul-one) (rounded_zero false (down e) (down_pos e))
zero_plus_plus_zero (fin false zero e) h = simp (zero-mul, mul-one) (rounded_zero false (down e) (down_pos e))
zero_plus_plus_zero (fin s (suc m) e) h = absurd (true≢false (sym h ∙ eq_zero s (suc m) e ∙ eqb-suc-zero m))

pub value_plus_zero_of : (x : Float) (t : Bool) → T (fits binary64 x) → add binary64 x (zero_of t) ≡ plus_zero_unless t x
unfolding add of_bits
value_plus_zero_of nan t h = unfold eq in refl
value_plus_zero_of (inf s) t h = unfold eq in refl
value_plus_zero_of (fin s zero e) t h = zero_plus_zero_of s e t (fitting_zero_has_exponent_zero s e h)
value_plus_zero_of (fin s (suc m) e) t h = number_plus_zero_of s m e t h ∙ simp (eq_zero s (suc m) e, eqb-suc-zero m)

-- ---- a value times 1
zero_times_one : (s : Bool) (e : ℤ) → e ≡ pos 0 → mul binary64 (fin s zero e) one₆₄ ≡ fin s zero e
unfolding mul of_bits
zero_times_one true e h = rw h
zero_times_one false e h = rw h

pub mul_one₆₄ : (x : Float) → T (fits binary64 x) → mul binary64 x one₆₄ ≡ x
unfolding mul of_bits
mul_one₆₄ nan h = refl
mul_one₆₄ (inf true) h = refl
mul_one₆₄ (inf false) h = refl
mul_one₆₄ (fin s zero e) h = zero_times_one s e (fitting_zero_has_exponent_zero s e h)
mul_one₆₄ (fin true (suc m) e) h = simp (mul-one (suc m * up e), mul-one (down e)) (round_of_own_fraction binary64 true m e h)
mul_one₆₄ (fin false (suc m) e) h = simp (mul-one (suc m * up e), mul-one (down e)) (round_of_own_fraction binary64 false m e h)
