-- Exact arithmetic on whole numbers: where the exact result is a whole number that binary64 holds, an operation gives
-- it. The sign of a zero is left open. Assumes nothing.
use Rattle.std.specs.Prelude.{◌≡◌, Bool, not, ◌&&◌, ◌||◌, cond, ltb, eqb, ℤ, Float}
use mathlib.Core.Bool.{and-true, not-not}
use Rattle.std.proofs.Math.Path.{refl, sym, ap}
use Rattle.std.proofs.Common.{◌∙◌, subst, true≢false, le_trans, le_of_eq, lt_of_lt_of_le, mul_assoc, mul_comm, mul_left_comm, mul_right_comm, mul-one, add-zero, zero-add, mul-lt-mul_of_pos_right, mul-le-mul_right, arith, pow-add, pow_pos, pow_mono}
use Rattle.std.proofs.Math.Bool.{true, false, or-true}
use Rattle.std.specs.Bool.{beq}
use Prim.Native.Nat.{ℕ, zero, suc, ◌+◌, ◌-◌, ◌*◌, ◌^◌, ◌≤◌, ◌<◌}
use Rattle.std.proofs.Math.Nat.{mul-mul-mul_comm, mul-pos, add-mul, zero-mul, eq_of_mul-eq-mul_right}
use borrow.Author.Tests.{lt-ltb, le-ltb, eq-eqb, ne_eqb}
use Rattle.std.specs.Float.{nan, inf, fin}
use Rattle.std.specs.Float.Ieee.{binary64, up, down, unlike, of_bits, round, sum, neg, add, sub, mul, div, lt, le, eq}
use Rattle.std.specs.Float.Ieee.Fits.{down_pos}
use Rattle.std.specs.Float.Ieee.Exact.{HasValue, round_exact}
use Rattle.std.specs.Float.Ieee.Back.{round_whole}
use Rattle.std.specs.Float.Ieee.Bits.{is_true}
use Rattle.std.specs.Float.Ieee.Order.{le_of_values, round_mono}
use Rattle.float.specs.Float.{abs_of}
use Rattle.float.specs.Literals.{plus_zero}

-- x is n in size, and where n isn't 0 it has the sign s
abbrev pub Is : Float → Bool → ℕ → Type 0
Is nan s n = ⊥
Is (inf t) s n = ⊥
Is (fin t m e) s n = (0 < n → t ≡ s) × (m * up e ≡ n * down e)

-- binary64 holds n: at most 53 digits and then zeros, below 2^1024
pub record Held (n : ℕ) : Type 0 where
  pub digits : ℕ
  pub zeros : ℕ
  pub short : digits < 2 ^ 53
  pub value : digits * 2 ^ zeros ≡ n
  pub small : n < 2 ^ 1024

-- ---- rounding a fraction that equals such a number gives the number
held_fraction_rounds_exactly : (s : Bool) (n den : ℕ) → Held n → 0 < den → HasValue (round binary64 s (n * den) den) s (n * den) den
held_fraction_rounds_exactly s n den h d =
    round_exact binary64 s (n * den) den h.digits (h.zeros + 1074) d h.short
    (subst (λ (x : ℕ). x < 2 ^ 2098) (sym power) (below))
    (mul_right_comm n den (2 ^ 1074) ∙ ap (λ (x : ℕ). x * den) (sym power))
  where
    power : h.digits * 2 ^ (h.zeros + 1074) ≡ n * 2 ^ 1074
    power = ap (λ (x : ℕ). h.digits * x) (pow-add 2 h.zeros 1074) ∙ sym (mul_assoc h.digits (2 ^ h.zeros) (2 ^ 1074)) ∙ ap (λ (x : ℕ). x * 2 ^ 1074) h.value

    below : n * 2 ^ 1074 < 2 ^ 2098
    below = mul-lt-mul_of_pos_right h.small (pow_pos 1074)

whole_of_value : (x : Float) (s : Bool) (n den : ℕ) → 0 < den → HasValue x s (n * den) den → Is x s n
whole_of_value nan s n den d v = v
whole_of_value (inf t) s n den d v = v
whole_of_value (fin t m e) s n den d v = (λ p. v.0, eq_of_mul-eq-mul_right den d (m * up e) (n * down e) (v.1 ∙ mul_right_comm n den (down e)))

pub whole_round : (s : Bool) (n num den : ℕ) → Held n → 0 < den → num ≡ n * den → Is (round binary64 s num den) s n
whole_round s n num den h d e = rw e (whole_of_value (round binary64 s (n * den) den) s n den d (held_fraction_rounds_exactly s n den h d))

-- the sign may change where the number is 0
whole_with_other_sign : (x : Float) (s t : Bool) (n : ℕ) → (0 < n → s ≡ t) → Is x s n → Is x t n
whole_with_other_sign nan s t n h v = v
whole_with_other_sign (inf u) s t n h v = v
whole_with_other_sign (fin u m e) s t n h v = (λ p. v.0 p ∙ h p, v.1)

-- ---- products and quotients
both_pos : (a b : ℕ) → 0 < a * b → (0 < a) × (0 < b)
both_pos zero b h = absurd (let z = zero-mul b in omega arith)
both_pos (suc a) zero h = absurd (let z = mul_comm (suc a) 0 in let y = zero-mul (suc a) in omega arith)
both_pos (suc a) (suc b) h = (omega arith, omega arith)

pub whole_mul : (x y : Float) (s t : Bool) (a b : ℕ) → Is x s a → Is y t b → Held (a * b) → Is (mul binary64 x y) (unlike s t) (a * b)
unfolding mul
whole_mul nan y s t a b v w h = absurd v
whole_mul (inf r) y s t a b v w h = absurd v
whole_mul (fin r m e) nan s t a b v w h = absurd w
whole_mul (fin r m e) (inf q) s t a b v w h = absurd w
whole_mul (fin r m e) (fin q k d) s t a b v w h =
    whole_with_other_sign (round binary64 (unlike r q) (m * up e * (k * up d)) (down e * down d)) (unlike r q) (unlike s t) (a * b)
    (λ p. let pq = both_pos a b p in rw (v.0 pq.0, w.0 pq.1))
    (whole_round (unlike r q) (a * b) (m * up e * (k * up d)) (down e * down d) h (mul-pos (down_pos e) (down_pos d)) (rw (v.1, w.1) (simp (mul_assoc, mul_left_comm))))

significand_is_not_zero : (k b : ℕ) (d : ℤ) → 0 < b → k * up d ≡ b * down d → eqb k 0 ≡ false
significand_is_not_zero zero b d p e = absurd (let q = mul-pos p (down_pos d) in let z = zero-mul (up d) in omega arith)
significand_is_not_zero (suc k) b d p e = ne_eqb (suc k) 0 (λ q. omega arith)

pub whole_div : (x y : Float) (s t : Bool) (c b : ℕ) → 0 < b → Is x s (c * b) → Is y t b → Held c → Is (div binary64 x y) (unlike s t) c
unfolding div
whole_div nan y s t c b p v w h = absurd v
whole_div (inf r) y s t c b p v w h = absurd v
whole_div (fin r m e) nan s t c b p v w h = absurd w
whole_div (fin r m e) (inf q) s t c b p v w h = absurd w
whole_div (fin r m e) (fin q k d) s t c b p v w h =
    rw (significand_is_not_zero k b d p w.1)
    (whole_with_other_sign (round binary64 (unlike r q) (m * up e * down d) (k * up d * down e)) (unlike r q) (unlike s t) c
    (λ n. rw (v.0 (mul-pos n p), w.0 p))
    (whole_round (unlike r q) c (m * up e * down d) (k * up d * down e) h
    (rw w.1 (mul-pos (mul-pos p (down_pos d)) (down_pos e)))
    (rw (v.1, w.1) (simp (mul_assoc, mul_comm)))))

-- ---- sums and differences
pub whole_neg : (y : Float) (t : Bool) (b : ℕ) → Is y t b → Is (neg y) (not t) b
unfolding neg
whole_neg nan t b w = absurd w
whole_neg (inf q) t b w = absurd w
whole_neg (fin q k d) t b w = (λ p. ap not (w.0 p), w.1)

by_positive_term : {P : Type 0} (a b : ℕ) → (0 < a → P) → (0 < b → P) → 0 < a + b → P
by_positive_term zero b f g p = g (omega arith)
by_positive_term (suc a) b f g p = f (omega arith)

unlike_signs_contradict : (a b : ℕ) (s : Bool) → (0 < a → true ≡ s) → (0 < b → false ≡ s) → 0 < a → 0 < b → ⊥
unlike_signs_contradict a b s f g p q = true≢false (f p ∙ sym (g q))

-- ±a / D + ±b / D, where each term that isn't 0 has the sign s
module _ (D : ℕ) (d : 0 < D) where
  sum_of_like_signs : (a b : ℕ) (t s : Bool) → (0 < a → t ≡ s) → (0 < b → t ≡ s) → Held (a + b) → Is (round binary64 t (a * D + b * D) D) s (a + b)
  sum_of_like_signs a b t s f g h = whole_with_other_sign (round binary64 t (a * D + b * D) D) t s (a + b) (by_positive_term a b f g) (whole_round t (a + b) (a * D + b * D) D h d (sym (add-mul a b D)))

  rounded_difference : Bool → Bool → ℕ → ℕ → Float
  rounded_difference r q a b = cond (ltb a b) (round binary64 q (b - a) D) (round binary64 (r && ltb b a) (a - b) D)

  -- where the first is at least the second: their difference, with the sign r
  difference_first_not_less : (a c : ℕ) (r q s : Bool) → (0 < c → r ≡ s) → Held c → Is (rounded_difference r q ((a + c) * D) (a * D)) s c
  unfolding rounded_difference
  difference_first_not_less a zero r q s f h =
      let e : (a + 0) * D ≡ a * D = ap (λ (x : ℕ). x * D) (add-zero a) in
      rw (e, le-ltb (a * D) (a * D) (omega arith))
      (whole_with_other_sign (round binary64 (r && false) (a * D - a * D) D) (r && false) s 0 (λ p. absurd (omega arith)) (whole_round (r && false) 0 (a * D - a * D) D h d (let z = zero-mul D in omega arith)))
  difference_first_not_less a (suc c) r q s f h =
      let e : (a + suc c) * D ≡ a * D + suc c * D = add-mul a (suc c) D in
      let p : 0 < suc c * D = mul-pos (omega arith) d in
      rw (e, le-ltb (a * D + suc c * D) (a * D) (omega arith), lt-ltb (a * D) (a * D + suc c * D) (omega arith))
      (whole_with_other_sign (round binary64 (r && true) (a * D + suc c * D - a * D) D) (r && true) s (suc c) (λ n. and-true r ∙ f n) (whole_round (r && true) (suc c) (a * D + suc c * D - a * D) D h d (omega arith)))

  -- where the first is 0: the second, with the sign q
  difference_first_zero : (c : ℕ) (r q s : Bool) → q ≡ s → Held (suc c) → Is (rounded_difference r q (0 * D) (suc c * D)) s (suc c)
  unfolding rounded_difference
  difference_first_zero c r q s f h =
      let p : 0 < suc c * D = mul-pos (omega arith) d in
      let z = zero-mul D in
      rw (lt-ltb (0 * D) (suc c * D) (omega arith))
      (whole_with_other_sign (round binary64 q (suc c * D - 0 * D) D) q s (suc c) (λ n. f) (whole_round q (suc c) (suc c * D - 0 * D) D h d (omega arith)))

  difference_with_a_zero : (a b : ℕ) (r q s : Bool) → (0 < a → r ≡ s) → (0 < b → q ≡ s) → (0 < a → 0 < b → ⊥) → Held (a + b) → Is (rounded_difference r q (a * D) (b * D)) s (a + b)
  difference_with_a_zero zero zero r q s f g n h = difference_first_not_less 0 0 r q s (λ p. absurd (omega arith)) h
  difference_with_a_zero zero (suc b) r q s f g n h = rw (zero-add (suc b)) (difference_first_zero b r q s (g (omega arith)) (rw (zero-add (suc b)) at h))
  difference_with_a_zero (suc a) zero r q s f g n h =
      rw (add-zero (suc a)) (subst (λ (x : ℕ). Is (rounded_difference r q (x * D) (0 * D)) s (suc a)) (zero-add (suc a)) (difference_first_not_less 0 (suc a) r q s f (rw (add-zero (suc a)) at h)))
  difference_with_a_zero (suc a) (suc b) r q s f g n h = absurd (n (omega arith) (omega arith))

  whole_signed_sum : (a b : ℕ) (r q s : Bool) → (0 < a → r ≡ s) → (0 < b → q ≡ s) → Held (a + b) → Is (sum binary64 r (a * D) q (b * D) D) s (a + b)
  unfolding sum rounded_difference
  whole_signed_sum a b true true s f g h = sum_of_like_signs a b true s f g h
  whole_signed_sum a b false false s f g h = sum_of_like_signs a b false s f g h
  whole_signed_sum a b true false s f g h = difference_with_a_zero a b true false s f g (unlike_signs_contradict a b s f g) h
  whole_signed_sum a b false true s f g h = difference_with_a_zero a b false true s f g (λ p q. unlike_signs_contradict b a s g f q p) h

  whole_signed_difference : (a c : ℕ) (r q s : Bool) → r ≡ s → q ≡ s → Held c → Is (sum binary64 r ((a + c) * D) (not q) (a * D) D) s c
  unfolding sum rounded_difference
  whole_signed_difference a c true true s f g h = difference_first_not_less a c true false s (λ p. f) h
  whole_signed_difference a c false false s f g h = difference_first_not_less a c false true s (λ p. f) h
  whole_signed_difference a c true false s f g h = absurd (true≢false (f ∙ sym g))
  whole_signed_difference a c false true s f g h = absurd (true≢false (g ∙ sym f))

-- both on the common denominator
left_over_common_denominator : (m a : ℕ) (e d : ℤ) → m * up e ≡ a * down e → m * up e * down d ≡ a * (down e * down d)
left_over_common_denominator m a e d v = rw v (mul_assoc a (down e) (down d))

right_over_common_denominator : (k b : ℕ) (e d : ℤ) → k * up d ≡ b * down d → k * up d * down e ≡ b * (down e * down d)
right_over_common_denominator k b e d w = rw w (mul_assoc b (down d) (down e) ∙ ap (λ (x : ℕ). b * x) (mul_comm (down d) (down e)))

pub whole_add : (x y : Float) (s : Bool) (a b : ℕ) → Is x s a → Is y s b → Held (a + b) → Is (add binary64 x y) s (a + b)
unfolding add
whole_add nan y s a b v w h = absurd v
whole_add (inf r) y s a b v w h = absurd v
whole_add (fin r m e) nan s a b v w h = absurd w
whole_add (fin r m e) (inf q) s a b v w h = absurd w
whole_add (fin r m e) (fin q k d) s a b v w h =
    rw (left_over_common_denominator m a e d v.1, right_over_common_denominator k b e d w.1) (whole_signed_sum (down e * down d) (mul-pos (down_pos e) (down_pos d)) a b r q s v.0 w.0 h)

-- a difference of two numbers of unlike signs; 0 counts with either sign
pub whole_sub : (x y : Float) (s : Bool) (a b : ℕ) → Is x s a → Is y (not s) b → Held (a + b) → Is (sub binary64 x y) s (a + b)
unfolding sub
whole_sub x y s a b v w h = whole_add x (neg y) s a b v (whole_with_other_sign (neg y) (not (not s)) s b (λ p. not-not s) (whole_neg y (not s) b w)) h

-- a difference of two numbers of one sign, the first one not smaller
pub whole_sub_like_signs : (x y : Float) (s : Bool) (b c : ℕ) → Is x s (b + c) → Is y s b → Held c → Is (sub binary64 x y) s c
unfolding sub add neg
whole_sub_like_signs nan y s b c v w h = absurd v
whole_sub_like_signs (inf r) y s b c v w h = absurd v
whole_sub_like_signs (fin r m e) nan s b c v w h = absurd w
whole_sub_like_signs (fin r m e) (inf q) s b c v w h = absurd w
whole_sub_like_signs (fin r m e) (fin q k d) s zero c v w h =
    let i : Is (sub binary64 (fin r m e) (fin q k d)) s (c + 0) =
    whole_sub (fin r m e) (fin q k d) s c 0 (rw (zero-add c) at v) ((λ p. absurd (omega arith)), w.1) (rw (add-zero c) h) in
    rw (add-zero c) at i
whole_sub_like_signs (fin r m e) (fin q k d) s (suc b) c v w h =
    rw (left_over_common_denominator m (suc b + c) e d v.1, right_over_common_denominator k (suc b) e d w.1)
    (whole_signed_difference (down e * down d) (mul-pos (down_pos e) (down_pos d)) (suc b) c r q s (v.0 (omega arith)) (w.0 (omega arith)) h)

-- ---- the same for n * 2^z, n being below 2^53
abbrev pub Num : Float → Bool → ℕ → ℕ → Type 0
Num x s n z = Is x s (n * 2 ^ z)

-- few zeros, so that nothing overflows
abbrev pub Few : ℕ → Type 0
Few z = z ≤ 900

pub held_below_two_pow_53 : (n z : ℕ) → n < 2 ^ 53 → Few z → Held (n * 2 ^ z)
held_below_two_pow_53 n z h k =
    let l : 53 + z ≤ 1024 = omega arith in
    record {
      digits = n;
      zeros = z;
      short = h;
      value = refl;
      small = lt_of_lt_of_le (mul-lt-mul_of_pos_right h (pow_pos z)) (le_trans (le_of_eq (sym (pow-add 2 53 z))) (pow_mono l));
    }

scaled_product : (a b i j : ℕ) → a * 2 ^ i * (b * 2 ^ j) ≡ a * b * 2 ^ (i + j)
scaled_product a b i j = mul-mul-mul_comm a (2 ^ i) b (2 ^ j) ∙ ap (λ (x : ℕ). a * b * x) (sym (pow-add 2 i j))

module _ (x y : Float) where
  pub num_mul : (s t : Bool) (a b i j n z : ℕ) → Num x s a i → Num y t b j → n ≡ a * b → z ≡ i + j → n < 2 ^ 53 → Few z → Num (mul binary64 x y) (unlike s t) n z
  num_mul s t a b i j n z v w e f h k =
      let g : n * 2 ^ z ≡ a * 2 ^ i * (b * 2 ^ j) = rw (e, f) (sym (scaled_product a b i j)) in
      subst (Is (mul binary64 x y) (unlike s t)) (sym g) (whole_mul x y s t (a * 2 ^ i) (b * 2 ^ j) v w (subst Held g (held_below_two_pow_53 n z h k)))

  pub num_div : (s t : Bool) (a b i j n z : ℕ) → Num x s a i → Num y t b j → 0 < b → a ≡ n * b → i ≡ z + j → n < 2 ^ 53 → Few z → Num (div binary64 x y) (unlike s t) n z
  num_div s t a b i j n z v w p e f h k =
      let g : a * 2 ^ i ≡ n * 2 ^ z * (b * 2 ^ j) = rw (e, f) (sym (scaled_product n b z j)) in
      whole_div x y s t (n * 2 ^ z) (b * 2 ^ j) (mul-pos p (pow_pos j)) (subst (Is x s) g v) w (held_below_two_pow_53 n z h k)

  pub num_add : (s : Bool) (a b n z : ℕ) → Num x s a z → Num y s b z → n ≡ a + b → n < 2 ^ 53 → Few z → Num (add binary64 x y) s n z
  num_add s a b n z v w e h k =
      let g : n * 2 ^ z ≡ a * 2 ^ z + b * 2 ^ z = rw e (add-mul a b (2 ^ z)) in
      subst (Is (add binary64 x y) s) (sym g) (whole_add x y s (a * 2 ^ z) (b * 2 ^ z) v w (subst Held g (held_below_two_pow_53 n z h k)))

  pub num_sub : (s : Bool) (a b n z : ℕ) → Num x s a z → Num y (not s) b z → n ≡ a + b → n < 2 ^ 53 → Few z → Num (sub binary64 x y) s n z
  num_sub s a b n z v w e h k =
      let g : n * 2 ^ z ≡ a * 2 ^ z + b * 2 ^ z = rw e (add-mul a b (2 ^ z)) in
      subst (Is (sub binary64 x y) s) (sym g) (whole_sub x y s (a * 2 ^ z) (b * 2 ^ z) v w (subst Held g (held_below_two_pow_53 n z h k)))

  pub num_sub_like_signs : (s : Bool) (a b n z : ℕ) → Num x s a z → Num y s b z → a ≡ b + n → n < 2 ^ 53 → Few z → Num (sub binary64 x y) s n z
  num_sub_like_signs s a b n z v w e h k =
      let g : a * 2 ^ z ≡ b * 2 ^ z + n * 2 ^ z = rw e (add-mul b n (2 ^ z)) in
      whole_sub_like_signs x y s (b * 2 ^ z) (n * 2 ^ z) (subst (Is x s) g v) w (held_below_two_pow_53 n z h k)

-- 0 counts with either sign, and as 0 * 2^z for each z
pub num_zero : (x : Float) (s t : Bool) (i z : ℕ) → Num x s 0 i → Num x t 0 z
num_zero x s t i z v = rw (zero-mul (2 ^ z)) (whole_with_other_sign x s t 0 (λ p. absurd (omega arith)) (rw (zero-mul (2 ^ i)) at v))

-- ---- how such numbers compare
pub whole_has_value : (x : Float) (s : Bool) (n : ℕ) → Is x s n → 0 < n → HasValue x s n 1
whole_has_value nan s n v p = v
whole_has_value (inf t) s n v p = v
whole_has_value (fin t m e) s n v p = (v.0 p, mul-one (m * up e) ∙ v.1)

pub wholes_compare_equal : (x y : Float) (s : Bool) (n : ℕ) → Is x s n → Is y s n → eq x y ≡ true
unfolding eq
wholes_compare_equal nan y s n v w = absurd v
wholes_compare_equal (inf t) y s n v w = absurd v
wholes_compare_equal (fin t m e) nan s n v w = absurd w
wholes_compare_equal (fin t m e) (inf q) s n v w = absurd w
wholes_compare_equal (fin t m e) (fin q k d) s zero v w =
    rw (left_over_common_denominator m 0 e d v.1, right_over_common_denominator k 0 e d w.1, zero-mul (down e * down d)) (or-true (beq t q))
wholes_compare_equal (fin t m e) (fin q k d) s (suc n) v w =
    rw (left_over_common_denominator m (suc n) e d v.1, right_over_common_denominator k (suc n) e d w.1, eq-eqb (suc n * (down e * down d)) (suc n * (down e * down d)) refl, v.0 (omega arith), w.0 (omega arith)) (itself s)
  where
    itself : (b : Bool) → (beq b b || eqb (suc n * (down e * down d)) 0) ≡ true
    itself true = refl
    itself false = refl

pub whole_above_zero : (x : Float) (n : ℕ) → 0 < n → Is x false n → lt plus_zero x ≡ true
unfolding lt of_bits
whole_above_zero nan n p v = absurd v
whole_above_zero (inf t) n p v = absurd v
whole_above_zero (fin t m e) n p v =
    let q : 0 < m * up e = rw v.1 (mul-pos p (down_pos e)) in
    rw (v.0 p) (lt-ltb (0 * 1 * down e) (m * up e * 1) (let z = zero-mul (down e) in omega arith))

-- where a / b is at least c / d, the rounded quotient is at least c / d, rounded
pub div_at_least : (x y : Float) (a b c d : ℕ) → 0 < a → 0 < b → 0 < d → Is x false a → Is y false b → c * b ≤ a * d → le (round binary64 false c d) (div binary64 x y) ≡ true
unfolding div
div_at_least nan y a b c d p q r v w h = absurd v
div_at_least (inf t) y a b c d p q r v w h = absurd v
div_at_least (fin t m e) nan a b c d p q r v w h = absurd w
div_at_least (fin t m e) (inf u) a b c d p q r v w h = absurd w
div_at_least (fin t m e) (fin u k g) a b c d p q r v w h =
    rw (significand_is_not_zero k b g q w.1, v.0 p, w.0 q)
    (is_true (le (round binary64 false c d) (round binary64 false (m * up e * down g) (k * up g * down e)))
    (round_mono binary64 c d (m * up e * down g) (k * up g * down e) r (rw w.1 (mul-pos (mul-pos q (down_pos g)) (down_pos e)))
    (rw (left_over_common_denominator m a e g v.1, right_over_common_denominator k b e g w.1)
    (le_trans (le_of_eq (sym (mul_assoc c b (down e * down g)))) (le_trans (mul-le-mul_right (down e * down g) h) (le_of_eq (mul_right_comm a d (down e * down g))))))))

-- a whole number above 0 is at least 1, and is its own magnitude
pub whole_at_least_one : (x : Float) (n : ℕ) → 0 < n → Is x false n → le (round binary64 false 1 1) x ≡ true
whole_at_least_one x n p v =
    is_true (le (round binary64 false 1 1) x)
    (le_of_values (round binary64 false 1 1) x 1 1 n 1 (omega arith) (omega arith) (round_whole binary64 false 1 (omega arith)) (whole_has_value x false n v p) (omega arith))

pub whole_is_own_size : (x : Float) (n : ℕ) → 0 < n → Is x false n → abs_of x ≡ x
unfolding abs_of
whole_is_own_size nan n p v = absurd v
whole_is_own_size (inf t) n p v = absurd v
whole_is_own_size (fin t m e) n p v = ap (λ (u : Bool). fin u m e) (sym (v.0 p))
