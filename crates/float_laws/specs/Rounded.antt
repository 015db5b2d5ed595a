-- The values of floats as fractions, and how far a rounded value lies from the fraction that was rounded.
-- `Within t k x y` says that the float x is a number that lies within k / t of the fraction y. Assumes nothing.
use Rattle.std.specs.Prelude.{◌≡◌, refl, Bool, true, false, not, cond, T, ltb, ℤ, Float}
use Rattle.std.proofs.Common.{sym, ap, subst, true≢false, add-mul, mul_assoc, mul_comm, mul_left_comm, mul-le-mul_right, mul-le-mul_left, mul-lt-mul_of_pos_right, mul-pos, zero-mul, mul-zero, le_of_mul-le-mul_right, lt_of_mul-lt-mul_right, lt_of_le_of_lt, div-add-mod', mod-lt, div-lt_iff_lt-mul, arith, lit≤, leb→le, eqb→eq, pow_pos, pow_mono, ltb-true, ltb-false}
use Prim.Native.Nat.{ℕ, suc, ◌+◌, ◌-◌, ◌*◌, ◌/◌, ◌%◌, ◌^◌, ◌≤◌, ◌<◌, compare, Ordering}
use Rattle.std.proofs.Math.Dec.{is_le, compare_is_eq, nleb→lt}
use Rattle.std.specs.Float.Ieee
use Rattle.std.specs.Float.{nan, inf, fin, binary64}
use Rattle.std.specs.Float.Ieee.{up, down, nearest, round, unlike, sum, neg, add, sub, mul}
use Rattle.std.specs.Float.Ieee.Fits.{down_pos, round_is}
use Rattle.common.specs.Tests.{case}
use Rattle.float.specs.Float.{is_finite}
use Rattle.std.specs.Float.Ieee.Digits.{size-le}
use Rattle.std.specs.Float.Ieee.Exact.{HasValue, units_val}
use Rattle.std.specs.Float.Ieee.Nearest.{closest}
use Rattle.std.specs.Float.Ieee.Scale.{grid, overflow}
use Rattle.float_laws.specs.Fraction.{Fraction, signed, opposite, ◌⊕◌, ◌⊗◌, Near, ring, near_refl}

-- ---- a / b to the nearest whole number is no more than a half away
abbrev Compared : Ordering → ℕ → ℕ → Type 0
Compared Ordering.lt a b = a ≤ b
Compared Ordering.eq a b = a ≡ b
Compared Ordering.gt a b = b ≤ a

compare_is_right : (a b : ℕ) → Compared (compare a b) a b
compare_is_right a b = go (compare a b) (leb→le a b) (nleb→lt a b) (eqb→eq a b)
  where
    go : (o : Ordering) → (T (is_le o) → a ≤ b) → (T (not (is_le o)) → b < a) → (T (compare_is_eq o) → a ≡ b) → Compared o a b
    go Ordering.lt h k e = h tt
    go Ordering.eq h k e = e tt
    go Ordering.gt h k e = let l : b < a = k tt in omega arith

-- 2 * c * b is 2 * a, less b to more b
abbrev Half : ℕ → ℕ → ℕ → Type 0
Half c a b = (2 * (c * b) ≤ 2 * a + b) × (2 * a ≤ 2 * (c * b) + b)

nearest_half : (o : Ordering) (q r b : ℕ) → r < b → Compared o (r * 2) b → Half (nearest q o) (q * b + r) b
nearest_half Ordering.lt q r b l h = omega arith
nearest_half Ordering.eq q r b l h =
    let e : (q + q % 2) * b ≡ q * b + q % 2 * b = add-mul q (q % 2) b in
    let m : q % 2 * b ≤ 1 * b = mul-le-mul_right b (omega arith) in
    omega arith
nearest_half Ordering.gt q r b l h = let e : suc q * b ≡ q * b + b = omega arith in omega arith

closest_half : (a b : ℕ) → 0 < b → Half (closest a b) a b
closest_half a b p =
    subst (λ (x : ℕ). Half (closest a b) x b) (div-add-mod' a b)
    (nearest_half (compare (a % b * 2) b) (a / b) (a % b) b (mod-lt a p) (compare_is_right (a % b * 2) b))

-- ---- a / c, which is below 2, rounded: in units of 2 ^ -1074 it is g, and g is no more than 2 ^ 1021 away
dropped_digits_at_most_1022 : (z : ℕ) → z ≤ 1075 → z - 53 ≤ 1022
dropped_digits_at_most_1022 z h = omega arith

scaled_below_twice : (u a c : ℕ) → 0 < u → a < 2 * c → a * u < u * 2 * c
scaled_below_twice u a c p h = simp (mul_assoc, mul_comm) (simp (mul_assoc, mul_comm) at (mul-lt-mul_of_pos_right h p))

half_step_bounds : (g w u n v : ℕ) → w ≡ g * u → u ≤ 2 * v → Half g n u → (w ≤ n + v) × (n ≤ w + v)
half_step_bounds g w u n v e l h = omega arith

grid_near : (a c : ℕ) → 0 < c → a < 2 * c → (grid binary64 a c * c ≤ a * 2 ^ 1074 + c * 2 ^ 1021) × (a * 2 ^ 1074 ≤ grid binary64 a c * c + c * 2 ^ 1021)
grid_near a c p h =
    let n = a * 2 ^ 1074 in
    let k = Ieee.size (n / c) - 53 in
    let g = closest n (c * 2 ^ k) in
    let b : n < 2 ^ 1075 * c = scaled_below_twice (2 ^ 1074) a c (pow_pos 1074) h in
    let l : c * 2 ^ k ≤ c * 2 ^ 1022 = mul-le-mul_left c (pow_mono (dropped_digits_at_most_1022 (Ieee.size (n / c)) (size-le (n / c) 1075 ((div-lt_iff_lt-mul p).1 b)))) in
    half_step_bounds g (g * 2 ^ k * c) (c * 2 ^ k) n (c * 2 ^ 1021) (simp (mul_assoc, mul_comm, mul_left_comm)) (subst (λ (x : ℕ). c * 2 ^ k ≤ x) (mul_left_comm c 2 (2 ^ 1021)) l) (closest_half n (c * 2 ^ k) (mul-pos p (pow_pos k)))

-- ---- the value of a float
abbrev pub value : Bool → ℕ → ℤ → Fraction
value s m e = signed s (m * up e) (down e)

pub data Number : Float → Type 0 where
  number : {s : Bool} {m : ℕ} {e : ℤ} → Number (fin s m e)

pub number_of_finite : (x : Float) → is_finite x ≡ true → Number x
unfolding is_finite
number_of_finite nan h = absurd (true≢false (sym h))
number_of_finite (inf s) h = absurd (true≢false (sym h))
number_of_finite (fin s m e) h = number

-- the number that a float is, where it is one
abbrev pub value_of : Float → Fraction
value_of nan = signed false 0 1
value_of (inf s) = signed false 0 1
value_of (fin s m e) = value s m e

pub value_den_positive : (x : Float) → 0 < (value_of x).den
value_den_positive nan = omega arith
value_den_positive (inf s) = omega arith
value_den_positive (fin s m e) = down_pos e

pub data Within (t k : ℕ) : Float → Fraction → Type 0 where
  within : {s : Bool} {m : ℕ} {e : ℤ} {y : Fraction} → Near t k (value s m e) y → Within t k (fin s m e) y

pub within_own_value : (s : Bool) (m : ℕ) (e : ℤ) → Within (2 ^ 53) 0 (fin s m e) (value s m e)
within_own_value s m e = within (near_refl (2 ^ 53) (value s m e))

-- v / d is g / (t * h), which lies within h / (t * h) of a / c
near_above : (t h v d g a c : ℕ) → 0 < t * h → v * (t * h) ≡ g * d → g * c ≤ a * (t * h) + c * h → t * (v * c) ≤ t * (a * d) + d * c
near_above t h v d g a c p e l =
    let x = simp ring at (mul-le-mul_right (t * d) l) in
    let y = simp ring at (ap (λ (z : ℕ). z * (t * c)) e) in
    le_of_mul-le-mul_right {k = t * h} (simp ring (omega arith)) p

near_below : (t h v d g a c : ℕ) → 0 < t * h → v * (t * h) ≡ g * d → a * (t * h) ≤ g * c + c * h → t * (a * d) ≤ t * (v * c) + d * c
near_below t h v d g a c p e l =
    let x = simp ring at (mul-le-mul_right (t * d) l) in
    let y = simp ring at (ap (λ (z : ℕ). z * (t * c)) e) in
    le_of_mul-le-mul_right {k = t * h} (simp ring (omega arith)) p

signed_near : (s : Bool) (t v d a c : ℕ) → t * (v * c) ≤ t * (a * d) + d * c → t * (a * d) ≤ t * (v * c) + d * c → Near t 1 (signed s v d) (signed s a c)
signed_near false t v d a c g h = record { high = simp ring (omega arith); low = simp ring (omega arith) }
signed_near true t v d a c g h = record { high = simp ring (omega arith); low = simp ring (omega arith) }

-- far from an overflow
below_overflow : (u h v g a c : ℕ) → 0 < c → a < 2 * c → g * c ≤ a * u + c * h → 2 * u + h < v → g < v
below_overflow u h v g a c p l m o =
    let x : a * u ≤ 2 * c * u = mul-le-mul_right u (omega arith) in
    let y = simp ring at (mul-lt-mul_of_pos_right o p) in
    lt_of_mul-lt-mul_right c (lt_of_le_of_lt m (simp ring (let z = simp ring at x in omega arith)))

within_of_value : (s : Bool) (g a c : ℕ) → g * c ≤ a * 2 ^ 1074 + c * 2 ^ 1021 → a * 2 ^ 1074 ≤ g * c + c * 2 ^ 1021 → (x : Float) → HasValue x s g (2 ^ 1074) → Within (2 ^ 53) 1 x (signed s a c)
within_of_value s g a c i j nan v = absurd v
within_of_value s g a c i j (inf t) v = absurd v
within_of_value s g a c i j (fin t m e) v =
    subst (λ (b : Bool). Within (2 ^ 53) 1 (fin b m e) (signed s a c)) (sym v.0)
    (within (signed_near s (2 ^ 53) (m * up e) (down e) a c
    (near_above (2 ^ 53) (2 ^ 1021) (m * up e) (down e) g a c (pow_pos 1074) v.1 i)
    (near_below (2 ^ 53) (2 ^ 1021) (m * up e) (down e) g a c (pow_pos 1074) v.1 j)))

-- ---- rounding a / c, which is below 2 in size, moves it by 2 ^ -53 at most
pub round_near : (s : Bool) (a c : ℕ) → 0 < c → a < 2 * c → Within (2 ^ 53) 1 (round binary64 s a c) (signed s a c)
round_near s a c p h =
    let n = a * 2 ^ 1074 in
    let k = Ieee.size (n / c) - 53 in
    let d = grid_near a c p h in
    let small : grid binary64 a c < overflow binary64 = below_overflow (2 ^ 1074) (2 ^ 1021) (overflow binary64) (grid binary64 a c) a c p h d.0 (lit≤ tt) in
    within_of_value s (grid binary64 a c) a c d.0 d.1 (round binary64 s a c)
    (subst (λ (x : Float). HasValue x s (grid binary64 a c) (2 ^ 1074)) (sym (round_is binary64 s a c)) (units_val binary64 s (closest n (c * 2 ^ k)) k small))

-- ---- every sum and every product is the exact one, rounded
pub record Rounds (x : Float) (y : Fraction) : Type 0 where
  pub sign : Bool
  pub num : ℕ
  pub is : x ≡ round binary64 sign num y.den
  pub exact : cond sign 0 num + y.minus ≡ y.plus + cond sign num 0

pub mul_rounds : (s t : Bool) (m n : ℕ) (e d : ℤ) → Rounds (mul binary64 (fin s m e) (fin t n d)) (value s m e ⊗ value t n d)
unfolding mul
mul_rounds s t m n e d = record { sign = unlike s t; num = m * up e * (n * up d); is = refl; exact = signs s t (m * up e) (n * up d) }
  where
    signs : (s t : Bool) (a b : ℕ) → cond (unlike s t) 0 (a * b) + (cond s 0 a * cond t b 0 + cond s a 0 * cond t 0 b) ≡ cond s 0 a * cond t 0 b + cond s a 0 * cond t b 0 + cond (unlike s t) (a * b) 0
    signs true true a b = simp (zero-mul, mul-zero) (omega arith)
    signs true false a b = simp (zero-mul, mul-zero) (omega arith)
    signs false true a b = simp (zero-mul, mul-zero) (omega arith)
    signs false false a b = simp (zero-mul, mul-zero) (omega arith)

sum_rounds : (s t : Bool) (a b c P N : ℕ) → P ≡ cond s 0 a + cond t 0 b → N ≡ cond s a 0 + cond t b 0 → Rounds (sum binary64 s a t b c) (record { plus = P; minus = N; den = c })
unfolding sum
sum_rounds true true a b c P N p n = record { sign = true; num = a + b; is = refl; exact = omega arith }
sum_rounds false false a b c P N p n = record { sign = false; num = a + b; is = refl; exact = omega arith }
sum_rounds true false a b c P N p n = case (ltb a b)
    (λ l. rw l (record { sign = false; num = b - a; is = refl; exact = omega (arith, ltb-true a b l) }))
    (λ l. case (ltb b a)
    (λ g. rw (l, g) (record { sign = true; num = a - b; is = refl; exact = omega (arith, ltb-true b a g) }))
    (λ g. rw (l, g) (record { sign = false; num = a - b; is = refl; exact = omega (arith, ltb-false a b l, ltb-false b a g) })))
sum_rounds false true a b c P N p n = case (ltb a b)
    (λ l. rw l (record { sign = true; num = b - a; is = refl; exact = omega (arith, ltb-true a b l) }))
    (λ l. rw l (record { sign = false; num = a - b; is = refl; exact = omega (arith, ltb-false a b l) }))

cond_zero_first_times : (s : Bool) (a c : ℕ) → cond s 0 a * c ≡ cond s 0 (a * c)
cond_zero_first_times true a c = zero-mul c
cond_zero_first_times false a c = refl

cond_zero_second_times : (s : Bool) (a c : ℕ) → cond s a 0 * c ≡ cond s (a * c) 0
cond_zero_second_times true a c = refl
cond_zero_second_times false a c = zero-mul c

pub add_rounds : (s t : Bool) (m n : ℕ) (e d : ℤ) → Rounds (add binary64 (fin s m e) (fin t n d)) (value s m e ⊕ value t n d)
unfolding add
add_rounds s t m n e d =
    sum_rounds s t (m * up e * down d) (n * up d * down e) (down e * down d) (value s m e ⊕ value t n d).plus (value s m e ⊕ value t n d).minus
    (rw (cond_zero_first_times s (m * up e) (down d), cond_zero_first_times t (n * up d) (down e)))
    (rw (cond_zero_second_times s (m * up e) (down d), cond_zero_second_times t (n * up d) (down e)))

pub sub_rounds : (s t : Bool) (m n : ℕ) (e d : ℤ) → Rounds (sub binary64 (fin s m e) (fin t n d)) (value s m e ⊕ opposite (value t n d))
unfolding sub neg
sub_rounds s true m n e d = add_rounds s false m n e d
sub_rounds s false m n e d = add_rounds s true m n e d
