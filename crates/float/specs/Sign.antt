-- Laws of signs, zeros and magnitudes. Assumes nothing.
use Rattle.std.specs.Prelude.{◌≡◌, refl, Bool, true, false, not, cond, ◌&&◌, ℕ, zero, suc, ◌+◌, ◌-◌, ◌*◌, ◌^◌, ◌<◌, T, ltb, eqb, ℤ, pos, negsuc, Float}
use Rattle.std.proofs.Common.{sym, ap, ◌∙◌, true≢false, arith, mul-pos, mul-one, lt-ltb, le-ltb, eq-eqb, ne_eqb, eqb→eq}
use Rattle.std.specs.Bool.{beq}
use Rattle.std.proofs.Math.Dec.{eqb-suc-zero}
use Rattle.std.proofs.Math.Pow.{pow-lt}
use Rattle.std.specs.Float.{nan, inf, fin, Format, binary64}
use Rattle.std.specs.Float.Ieee.{prec, emax, low, of_bits, lt, le, eq, neg, is_nan, add, sub, sum, mul, div, of_int, round, units, odd, unlike, up, down, fits}
use Rattle.std.specs.Float.Ieee.Fits.{up_pos, down_pos}
use Rattle.std.specs.Float.Ieee.Scale.{round_same}
use Rattle.float.specs.Literals.{plus_zero}
use Rattle.float.specs.Float.{abs_of, sign_bit, is_finite, clamp_of}
use Rattle.float.specs.Order.{lt_irrefl, lt_neg, le_of_not_lt}
use Rattle.float.specs.Exact.{round_of_own_fraction}

-- ---- how a number compares with zero: its significand and its sign alone decide
magnitude_pos : (m : ℕ) (e : ℤ) → 0 < suc m * up e * 1
magnitude_pos m e = let n : 0 < suc m = omega arith in let p : 0 < suc m * up e = mul-pos n (up_pos e) in omega arith

pub eq_zero : (s : Bool) (m : ℕ) (e : ℤ) → eq (fin s m e) plus_zero ≡ eqb m 0
unfolding eq of_bits
eq_zero true zero e = simp (eq-eqb (0 * up e * 1) (0 * 1 * down e) (omega arith), eq-eqb (0 * up e * 1) 0 (omega arith))
eq_zero false zero e = simp (eq-eqb (0 * up e * 1) (0 * 1 * down e) (omega arith))
eq_zero s (suc m) e = simp (ne_eqb (suc m * up e * 1) (0 * 1 * down e) (λ q. let p = magnitude_pos m e in omega arith), eqb-suc-zero m)

pub lt_zero : (s : Bool) (m : ℕ) (e : ℤ) → lt (fin s m e) plus_zero ≡ (s && not (eqb m 0))
unfolding lt of_bits
lt_zero true zero e = simp (le-ltb 0 (0 * up e * 1 + 0 * 1 * down e) (omega arith))
lt_zero true (suc m) e = simp (lt-ltb 0 (suc m * up e * 1 + 0 * 1 * down e) (let p = magnitude_pos m e in omega arith), eqb-suc-zero m)
lt_zero false m e = simp (le-ltb (m * up e * 1) (0 * 1 * down e) (omega arith))

-- ---- the magnitude, by how a value compares with zero
pub abs_negative : (x : Float) → lt x plus_zero ≡ true → neg x ≡ abs_of x
unfolding neg abs_of lt of_bits
abs_negative nan h = absurd (true≢false (sym h))
abs_negative (inf true) h = refl
abs_negative (inf false) h = absurd (true≢false (sym h))
abs_negative (fin true m e) h = refl
abs_negative (fin false m e) h = absurd (true≢false (sym h ∙ lt_zero false m e))

one_lt_two_power : (k : ℕ) → 1 < 2 ^ suc k
one_lt_two_power k = let p : zero < suc k = omega arith in pow-lt p

-- a zero is written in one way
pub fitting_zero_has_exponent_zero : (s : Bool) (e : ℤ) → T (fits binary64 (fin s zero e)) → e ≡ pos 0
unfolding fits
fitting_zero_has_exponent_zero s (pos zero) f = refl
fitting_zero_has_exponent_zero s (pos (suc k)) f = absurd (let p = one_lt_two_power k in let q = eqb→eq (2 ^ suc k * 1) 1 f in omega arith)
fitting_zero_has_exponent_zero s (negsuc k) f = absurd (let p = one_lt_two_power k in let q = eqb→eq (1 * 2 ^ suc k) 1 f in omega arith)

-- ---- no sign changes a magnitude: of a negated value, a rounded fraction, a difference with both terms negated
pub abs_neg : (x : Float) → abs_of (neg x) ≡ abs_of x
unfolding abs_of neg
abs_neg nan = refl
abs_neg (inf s) = refl
abs_neg (fin s m e) = refl

abs_odd : (d : ℕ) (s : Bool) (q k l : ℕ) → abs_of (odd d s q k l) ≡ odd d false q k l
unfolding abs_of odd
abs_odd d s zero k l = refl
abs_odd d s (suc q) k l = refl

abs_cond : (c : Bool) (x y : Float) → abs_of (cond c x y) ≡ cond c (abs_of x) (abs_of y)
abs_cond true x y = refl
abs_cond false x y = refl

abs_inf : (s : Bool) → abs_of (inf s) ≡ inf false
unfolding abs_of
abs_inf s = refl

abs_units : (f : Format) (s : Bool) (q k : ℕ) → abs_of (units f s q k) ≡ units f false q k
unfolding units
abs_units f s q k =
    let c = ltb (q * 2 ^ k) (2 ^ (low f + suc (emax f))) in
    abs_cond c (odd (suc (prec f)) s q k (low f)) (inf s) ∙ (λ i. cond c (abs_odd (suc (prec f)) s q k (low f) i) (abs_inf s i))

pub abs_round : (f : Format) (s : Bool) (a c : ℕ) → abs_of (round f s a c) ≡ round f false a c
unfolding round
abs_round f s a c = abs_units f s _ _

abs_sum : (f : Format) (s : Bool) (a : ℕ) (t : Bool) (b c : ℕ) → abs_of (sum f s a t b c) ≡ cond (beq s t) (round f false (a + b) c) (cond (ltb a b) (round f false (b - a) c) (round f false (a - b) c))
unfolding sum
abs_sum f true a true b c = abs_round f true (a + b) c
abs_sum f false a false b c = abs_round f false (a + b) c
abs_sum f true a false b c = abs_cond (ltb a b) (round f false (b - a) c) (round f (ltb b a) (a - b) c) ∙ (λ i. cond (ltb a b) (abs_round f false (b - a) c i) (abs_round f (ltb b a) (a - b) c i))
abs_sum f false a true b c = abs_cond (ltb a b) (round f true (b - a) c) (round f false (a - b) c) ∙ (λ i. cond (ltb a b) (abs_round f true (b - a) c i) (abs_round f false (a - b) c i))

beq_not : (s t : Bool) → beq (not s) (not t) ≡ beq s t
beq_not true true = refl
beq_not true false = refl
beq_not false true = refl
beq_not false false = refl

pub abs_sub_neg : (f : Format) (x y : Float) → abs_of (sub f (neg x) (neg y)) ≡ abs_of (sub f x y)
unfolding sub add neg
abs_sub_neg f nan y = refl
abs_sub_neg f (inf s) nan = refl
abs_sub_neg f (inf true) (inf true) = refl
abs_sub_neg f (inf true) (inf false) = abs_inf false ∙ sym (abs_inf true)
abs_sub_neg f (inf false) (inf true) = abs_inf true ∙ sym (abs_inf false)
abs_sub_neg f (inf false) (inf false) = refl
abs_sub_neg f (inf s) (fin t n d) = abs_inf (not s) ∙ sym (abs_inf s)
abs_sub_neg f (fin s m e) nan = refl
abs_sub_neg f (fin s m e) (inf t) = abs_inf (not (not t)) ∙ sym (abs_inf (not t))
abs_sub_neg f (fin s m e) (fin t n d) =
    let a = m * up e * down d in
    let b = n * up d * down e in
    let c = down e * down d in
    abs_sum f (not s) a (not (not t)) b c
    ∙ ap (λ (like : Bool). cond like (round f false (a + b) c) (cond (ltb a b) (round f false (b - a) c) (round f false (a - b) c))) (beq_not s (not t))
    ∙ sym (abs_sum f s a (not t) b c)

-- ---- a number minus itself is 0, and a value plus 0 keeps its magnitude
abs_of_rounded_zero : (s : Bool) (c : ℕ) → 0 < c → abs_of (round binary64 s 0 c) ≡ plus_zero
unfolding round of_bits abs_of
abs_of_rounded_zero s c h = abs_round binary64 s 0 c ∙ round_same binary64 false 0 c 0 1 h (omega arith) (omega arith)

pub abs_sub_self : (x : Float) → is_finite x ≡ true → abs_of (sub binary64 x x) ≡ plus_zero
unfolding sub is_finite
abs_sub_self nan h = absurd (true≢false (sym h))
abs_sub_self (inf s) h = absurd (true≢false (sym h))
abs_sub_self (fin s m e) h =
    let a = m * up e * down e in
    let z : a - a ≡ 0 = omega arith in
    let l : ltb a a ≡ false = le-ltb a a (omega arith) in
    let r : (t : Bool) → abs_of (round binary64 t 0 (down e * down e)) ≡ plus_zero = λ t. abs_of_rounded_zero t (down e * down e) (mul-pos (down_pos e) (down_pos e)) in
    elim s as (λ (t : Bool). abs_of (sub binary64 (fin t m e) (fin t m e)) ≡ plus_zero) [ true ↦ simp (l, z) (r false) | false ↦ simp (l, z) (r false) ]

abs_of_zero_plus_zero : (s : Bool) (e : ℤ) → e ≡ pos 0 → abs_of (add binary64 (fin s zero e) plus_zero) ≡ abs_of (fin s zero e)
unfolding add of_bits abs_of
abs_of_zero_plus_zero true e h = rw h
abs_of_zero_plus_zero false e h = rw h

pub abs_add_zero : (x : Float) → T (fits binary64 x) → abs_of (add binary64 x plus_zero) ≡ abs_of x
unfolding add of_bits
abs_add_zero nan h = refl
abs_add_zero (inf s) h = refl
abs_add_zero (fin s zero e) h = abs_of_zero_plus_zero s e (fitting_zero_has_exponent_zero s e h)
abs_add_zero (fin false (suc m) e) h =
    let a : suc m * up e * 1 + 0 * down e ≡ suc m * up e = omega arith in
    let c : down e * 1 ≡ down e = mul-one (down e) in
    ap abs_of (simp (a, c) (round_of_own_fraction binary64 false m e h))
abs_add_zero (fin true (suc m) e) h =
    let p = magnitude_pos m e in
    let i : ltb (suc m * up e * 1) (0 * down e) ≡ false = le-ltb (suc m * up e * 1) (0 * down e) (omega arith) in
    let j : ltb (0 * down e) (suc m * up e * 1) ≡ true = lt-ltb (0 * down e) (suc m * up e * 1) (omega arith) in
    let a : suc m * up e * 1 - 0 * down e ≡ suc m * up e = omega arith in
    let c : down e * 1 ≡ down e = mul-one (down e) in
    ap abs_of (simp (i, j, a, c) (round_of_own_fraction binary64 true m e h))

-- ---- the sign of a result
-- a value without a minus sign is not below zero
pub unsigned_not_below : (x : Float) → sign_bit x ≡ false → lt x plus_zero ≡ false
unfolding sign_bit lt of_bits
unsigned_not_below nan h = refl
unsigned_not_below (inf s) h = h
unsigned_not_below (fin true m e) h = absurd (true≢false h)
unsigned_not_below (fin false m e) h = lt_zero false m e

sign_cond : (b : Bool) (x y : Float) (s : Bool) → sign_bit x ≡ s → sign_bit y ≡ s → sign_bit (cond b x y) ≡ s
sign_cond true x y s h k = h
sign_cond false x y s h k = k

sign_odd : (d : ℕ) (s : Bool) (q k l : ℕ) → sign_bit (odd d s q k l) ≡ s
unfolding sign_bit odd
sign_odd d s zero k l = refl
sign_odd d s (suc q) k l = refl

-- rounding keeps the sign
pub sign_units : (f : Format) (s : Bool) (q k : ℕ) → sign_bit (units f s q k) ≡ s
unfolding sign_bit units
sign_units f s q k =
    sign_cond (ltb (q * 2 ^ k) (2 ^ (low f + suc (emax f)))) (odd (suc (prec f)) s q k (low f)) (inf s) s
    (sign_odd (suc (prec f)) s q k (low f))
    refl

pub sign_round : (f : Format) (s : Bool) (a b : ℕ) → sign_bit (round f s a b) ≡ s
unfolding round
sign_round f s a b = sign_units f s _ _

-- ---- a result has no minus sign where its operands have none; nor has a product of two factors of one sign
pub sign_add : (f : Format) (x y : Float) → sign_bit x ≡ false → sign_bit y ≡ false → sign_bit (add f x y) ≡ false
unfolding sign_bit add sum
sign_add f nan y h k = refl
sign_add f (inf s) nan h k = refl
sign_add f (inf true) (inf t) h k = absurd (true≢false h)
sign_add f (inf false) (inf true) h k = absurd (true≢false k)
sign_add f (inf false) (inf false) h k = refl
sign_add f (inf s) (fin t n d) h k = h
sign_add f (fin s m e) nan h k = refl
sign_add f (fin s m e) (inf t) h k = k
sign_add f (fin true m e) (fin t n d) h k = absurd (true≢false h)
sign_add f (fin false m e) (fin true n d) h k = absurd (true≢false k)
sign_add f (fin false m e) (fin false n d) h k = sign_round f false (m * up e * down d + n * up d * down e) (down e * down d)

pub unlike_false : (s : Bool) → unlike s false ≡ s
unlike_false true = refl
unlike_false false = refl

pub unlike_itself : (s : Bool) → unlike s s ≡ false
unlike_itself true = refl
unlike_itself false = refl

unlike_of_equal_signs : {s t : Bool} → s ≡ t → unlike s t ≡ false
unlike_of_equal_signs {s} {t} h = rw h (unlike_itself t)

-- a product of two factors of one sign
pub sign_mul : (f : Format) (x y : Float) → sign_bit x ≡ sign_bit y → sign_bit (mul f x y) ≡ false
unfolding sign_bit mul
sign_mul f nan y h = refl
sign_mul f (inf s) nan h = refl
sign_mul f (inf s) (inf t) h = unlike_of_equal_signs h
sign_mul f (inf s) (fin t n d) h = sign_cond (eqb n 0) nan (inf (unlike s t)) false refl (unlike_of_equal_signs h)
sign_mul f (fin s m e) nan h = refl
sign_mul f (fin s m e) (inf t) h = sign_cond (eqb m 0) nan (inf (unlike s t)) false refl (unlike_of_equal_signs h)
sign_mul f (fin s m e) (fin t n d) h = sign_round f (unlike s t) (m * up e * (n * up d)) (down e * down d) ∙ unlike_of_equal_signs h

pub sign_square : (f : Format) (x : Float) → sign_bit (mul f x x) ≡ false
sign_square f x = sign_mul f x x refl

pub sign_div : (f : Format) (x y : Float) → sign_bit x ≡ false → sign_bit y ≡ false → sign_bit (div f x y) ≡ false
unfolding sign_bit div
sign_div f nan y h k = refl
sign_div f (inf s) nan h k = refl
sign_div f (inf s) (inf t) h k = refl
sign_div f (inf true) (fin t n d) h k = absurd (true≢false h)
sign_div f (inf false) (fin true n d) h k = absurd (true≢false k)
sign_div f (inf false) (fin false n d) h k = refl
sign_div f (fin s m e) nan h k = refl
sign_div f (fin true m e) (inf t) h k = absurd (true≢false h)
sign_div f (fin false m e) (inf true) h k = absurd (true≢false k)
sign_div f (fin false m e) (inf false) h k = refl
sign_div f (fin true m e) (fin t n d) h k = absurd (true≢false h)
sign_div f (fin false m e) (fin true n d) h k = absurd (true≢false k)
sign_div f (fin false m e) (fin false n d) h k =
    sign_cond (eqb n 0) (cond (eqb m 0) nan (inf false)) (round f false (m * up e * down d) (n * up d * down e)) false
    (sign_cond (eqb m 0) nan (inf false) false refl refl)
    (sign_round f false (m * up e * down d) (n * up d * down e))

-- a count has no minus sign
pub sign_count : (f : Format) (n : ℕ) → sign_bit (of_int f (pos n)) ≡ false
unfolding of_int
sign_count f n = sign_round f false n 1

-- ---- a number that clamping to ±b gives has a magnitude of at most b
pub abs_unsigned : (x : Float) → sign_bit x ≡ false → abs_of x ≡ x
unfolding abs_of sign_bit
abs_unsigned nan h = refl
abs_unsigned (inf s) h = ap inf (sym h)
abs_unsigned (fin s m e) h = ap (λ (t : Bool). fin t m e) (sym h)

is_nan_of_abs : (x : Float) → is_nan (abs_of x) ≡ is_nan x
unfolding abs_of is_nan
is_nan_of_abs nan = refl
is_nan_of_abs (inf s) = refl
is_nan_of_abs (fin s m e) = refl

abs_not_above : (x b : Float) → lt x (neg b) ≡ false → lt b x ≡ false → lt b (abs_of x) ≡ false
unfolding abs_of neg
abs_not_above nan b h k = k
abs_not_above (inf true) b h k = sym (lt_neg (inf false) b) ∙ h
abs_not_above (inf false) b h k = k
abs_not_above (fin true m e) b h k = sym (lt_neg (fin false m e) b) ∙ h
abs_not_above (fin false m e) b h k = k

pub clamped_size_at_most_bound : (x b : Float) → sign_bit b ≡ false → is_nan b ≡ false
    → is_nan (clamp_of x (neg b) b) ≡ false → le (abs_of (clamp_of x (neg b) b)) b ≡ true
unfolding clamp_of
clamped_size_at_most_bound x b s n h =
    let self : le (abs_of b) b ≡ true = rw (abs_unsigned b s) (le_of_not_lt b b n n (lt_irrefl b)) in
    elim (lt x (neg b)) as (λ (v : Bool). lt x (neg b) ≡ v → is_nan (cond v (neg b) (cond (lt b x) b x)) ≡ false → le (abs_of (cond v (neg b) (cond (lt b x) b x))) b ≡ true) [
      | true ↦ λ e g. rw (abs_neg b) self
      | false ↦ λ e g.
          elim (lt b x) as (λ (w : Bool). lt b x ≡ w → is_nan (cond w b x) ≡ false → le (abs_of (cond w b x)) b ≡ true) [
            | true ↦ λ f i. self
            | false ↦ λ f i. le_of_not_lt (abs_of x) b (is_nan_of_abs x ∙ i) n (abs_not_above x b e f)
          ] refl g
    ] refl h
