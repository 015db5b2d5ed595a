-- The ranges of sine and cosine, for every number of at most 0.5 in size: the sine at most 129 / 256 in size, the
-- cosine from 111 / 128 to 257 / 256, and the sum of their squares at least 31 / 32. Assumes nothing.
use Rattle.std.specs.Prelude.{◌≡◌, refl, Bool, true, false, cond, ℕ, suc, ◌+◌, ◌-◌, ◌*◌, ◌^◌, ◌≤◌, ◌<◌, leb, ℤ, Float}
use Rattle.std.proofs.Common.{sym, subst, add-zero, zero-add, add-mul, mul-le-mul, mul-le-mul_left, mul-le-mul_right, mul-pos, le_of_mul-le-mul_right, zero-mul, mul-zero, arith, leb-true, leb-false}
use Rattle.std.specs.Float.{fin}
use Rattle.std.specs.Float.Ieee.{up, down}
use Rattle.std.specs.Float.Ieee.Fits.{down_pos}
use Rattle.common.specs.Tests.{case}
use Rattle.float_laws.specs.Fraction.{Fraction, signed, ◌⊕◌, ◌⊗◌, Near, size, size_times, AtMost, ring}
use Rattle.float_laws.specs.Rounded.{value, Within, within, within_own_value}
use Rattle.trig.specs.Series.{sines, cosines, series_of, negative, factorial, inverse}
use Rattle.trig.specs.Exact.{Shrinks, nested, nested_shrinks, square_at_most, factorial_grows}
use Rattle.trig.specs.Bound.{size_at_most_half, sum_within, product_within}

-- ---- an exact sum has the sign of its first coefficient
abbrev Leans : Bool → Fraction → Type 0
Leans true y = y.plus ≤ y.minus
Leans false y = y.minus ≤ y.plus

-- in numbers: a / c times p / q, against 1 / f
tail_below_first_term : (a c p q f g : ℕ) → 3 * (a * g) ≤ 4 * c → 4 * p ≤ q → f ≤ g → 3 * (a * p * f) ≤ c * q
tail_below_first_term a c p q f g h l m =
    let x : 3 * (a * g) * (4 * p) ≤ 4 * c * q = mul-le-mul h l in
    let y = mul-le-mul_left (a * p) m in
    simp ring (omega (arith, simp ring at x, simp ring at y))

sum_has_sign_of_first_term : (s : Bool) (n : ℕ) (y q : Fraction) → negative n ≡ s → Shrinks (suc (suc n)) y → AtMost 4 q → Leans s ((y ⊗ q) ⊕ inverse n)
sum_has_sign_of_first_term s n y q e u v =
    let l : 3 * (size (y ⊗ q) * factorial n) ≤ y.den * q.den = rw (size_times y q) (tail_below_first_term (size y) y.den (size q) q.den (factorial n) (factorial (suc (suc n))) u.small v.small (factorial_grows n)) in
    rw e (go s (y ⊗ q).plus (y ⊗ q).minus (factorial n) (y.den * q.den) l)
  where
    go : (s : Bool) (p m f d : ℕ) → 3 * ((p + m) * f) ≤ d → Leans s (record { plus = p * f + cond s 0 1 * d; minus = m * f + cond s 1 0 * d; den = d * f })
    go true p m f d h = omega (arith, rw (add-mul p m f) at h)
    go false p m f d h = omega (arith, rw (add-mul p m f) at h)

-- ---- from 1 - q / k to 1
pub record Factor (k : ℕ) (q y : Fraction) : Type 0 where
  pub some : 0 < y.den
  pub high : y.plus ≤ y.minus + y.den
  pub low : k * ((y.minus + y.den) * q.den) ≤ k * (y.plus * q.den) + y.den * q.plus

-- no less than -1 / k
abbrev Above : ℕ → Fraction → Type 0
Above k y = k * y.minus ≤ k * y.plus + y.den

above_sum : (k : ℕ) (z q : Fraction) → Leans false z → q.minus ≡ 0 → Above k ((z ⊗ q) ⊕ signed true 1 k)
above_sum k z q l e = rw (e, mul-zero z.minus, mul-zero z.plus) (go (z.plus * q.plus) (z.minus * q.plus) (z.den * q.den) (mul-le-mul_right q.plus l))
  where
    go : (p m d : ℕ) → m ≤ p → k * ((0 + m) * k + 1 * d) ≤ k * ((p + 0) * k + 0 * d) + d * k
    go p m d h = let x = mul-le-mul_left k (mul-le-mul_right k h) in simp ring (omega (arith, simp ring at x))

factor_sum : (k : ℕ) (y q : Fraction) → 0 < y.den → 0 < q.den → Leans true y → Above k y → q.minus ≡ 0 → Factor k q ((y ⊗ q) ⊕ signed false 1 1)
factor_sum k y q p o l a e = record {
  some = omega (arith, mul-pos p o);
  high = rw (e, mul-zero y.minus, mul-zero y.plus) (omega (arith, mul-le-mul_right q.plus l));
  low = rw (e, mul-zero y.minus, mul-zero y.plus) (go y.plus y.minus y.den q.plus q.den a);
}
  where
    go : (p m d a c : ℕ) → k * m ≤ k * p + d → k * (((0 + m * a) * 1 + 0 * (d * c) + d * c * 1) * c) ≤ k * (((p * a + 0) * 1 + 1 * (d * c)) * c) + d * c * 1 * a
    go p m d a c h = let x = mul-le-mul_right (a * c) h in simp ring (omega (arith, simp ring at x))

-- the sum that starts with 1 - q / k: the cosine's, and the sine's before its last product
nested_is_factor : (x : Fraction) → AtMost 2 x → (x ⊗ x).minus ≡ 0 → (j n k : ℕ) → inverse n ≡ signed false 1 1 → inverse (suc (suc n)) ≡ signed true 1 k → negative (suc (suc n)) ≡ true
    → negative (suc (suc (suc (suc n)))) ≡ false → Factor k (x ⊗ x) (nested x (suc (suc (suc j))) n)
unfolding nested
nested_is_factor x a z j n k e f g h =
    let q = x ⊗ x in
    let y = nested x (suc (suc j)) (suc (suc n)) in
    let w = nested x (suc j) (suc (suc (suc (suc n)))) in
    let b = square_at_most a in
    let l : Leans false w = sum_has_sign_of_first_term false (suc (suc (suc (suc n)))) (nested x j (suc (suc (suc (suc (suc (suc n))))))) q h (nested_shrinks x a j (suc (suc (suc (suc (suc (suc n))))))) b in
    let m : Leans true y = sum_has_sign_of_first_term true (suc (suc n)) w q g (nested_shrinks x a (suc j) (suc (suc (suc (suc n))))) b in
    let o : Above k y = subst (λ (c : Fraction). Above k ((w ⊗ q) ⊕ c)) (sym f) (above_sum k w q l z) in
    subst (λ (c : Fraction). Factor k q ((y ⊗ q) ⊕ c)) (sym e) (factor_sum k y q (nested_shrinks x a (suc (suc j)) (suc (suc n))).some b.some m o z)

-- with q at most 1 / 4
factor_at_quarter : (k P N D c d : ℕ) → 0 < d → 4 * c ≤ d → k * ((N + D) * d) ≤ k * (P * d) + D * c → 4 * k * (N + D) ≤ 4 * k * P + D
factor_at_quarter k P N D c d p h l =
    let x = mul-le-mul_left D h in
    le_of_mul-le-mul_right {k = d} (simp ring (omega (arith, simp ring at l, simp ring at x))) p

pub factor_large_at_quarter : {k : ℕ} {q y : Fraction} → AtMost 4 q → q.minus ≡ 0 → Factor k q y → 4 * k * (y.minus + y.den) ≤ 4 * k * y.plus + y.den
factor_large_at_quarter {k} {q} {y} a e f = factor_at_quarter k y.plus y.minus y.den q.plus q.den a.some (omega (arith, a.small)) f.low

-- ---- what is known of a sine b / v and a cosine a / u
pub record Turned (b v a u : ℕ) : Type 0 where
  pub sine_small : 256 * b ≤ 129 * v
  pub cosine_small : 256 * a ≤ 257 * u
  pub cosine_large : 111 * u ≤ 128 * a
  pub squares : 31 * (u * v * (u * v)) ≤ 32 * (a * v * (a * v) + b * u * (b * u))

-- the square of a is at least 1 - 2 * w, where a is at least 1 - w; in numbers, over the denominator d
square_above : (d a w : ℕ) → d ≤ a + w → d * d ≤ a * a + 2 * (w * d)
square_above d a w h =
    case (leb d a)
    (λ t. omega (arith, mul-le-mul (leb-true d a t) (leb-true d a t)))
    (λ f.
    let e : a + (d - a) ≡ d = omega (arith, leb-false d a f) in
    subst (λ (z : ℕ). z * z ≤ a * a + 2 * (w * z)) e (over (d - a) (omega arith)))
  where
    over : (r : ℕ) → r ≤ w → (a + r) * (a + r) ≤ a * a + 2 * (w * (a + r))
    over r l = let x = mul-le-mul_right (a + r) l in simp ring (omega (arith, simp ring at x))

-- a cosine A / N of at least 1 - x * x / 2 and a sine B / N of at least 23 / 24 * x, each less 1 / 1024, where x is
-- X / N
squares_large_in_numbers : (A B X Y N : ℕ) → Y * N ≡ X * X → 2 * X ≤ N → 2048 * N ≤ 2048 * A + (1024 * Y + 2 * N) → 23552 * X ≤ 24576 * B + 24 * N → 31 * (N * N) ≤ 32 * (A * A + B * B)
squares_large_in_numbers A B X Y N e h c s =
    let a = simp ring at (square_above (2048 * N) (2048 * A) (1024 * Y + 2 * N) c) in
    let b = simp ring at (square_above (23552 * X) (24576 * B) (24 * N) s) in
    let i = simp ring at (mul-le-mul h h) in
    let j = simp ring at (mul-le-mul_left N h) in
    omega (arith, a, b, i, j, e)

squares_large : (a u b v p q : ℕ) → 0 < q → 2 * p ≤ q → 1024 * (2 * (u * (q * q))) ≤ 1024 * (2 * (a * (q * q)) + u * (p * p)) + 2 * (u * (q * q)) → 1024 * (23 * (v * p)) ≤ 1024 * (24 * (b * q)) + 24 * (v * q)
    → 31 * (u * v * (u * v)) ≤ 32 * (a * v * (a * v) + b * u * (b * u))
squares_large a u b v p q o h c s =
    let x = simp ring at (mul-le-mul_right v c) in
    let y = simp ring at (mul-le-mul_right (q * u) s) in
    let z = simp ring at (mul-le-mul_right (q * (u * v)) h) in
    let r = squares_large_in_numbers (a * v * (q * q)) (b * u * (q * q)) (p * q * (u * v)) (p * p * (u * v)) (u * v * (q * q)) (simp ring) (simp ring (omega (arith, z))) (simp ring (omega (arith, x))) (simp ring (omega (arith, y))) in
    le_of_mul-le-mul_right {k = q * q * (q * q)} (simp ring (omega (arith, simp ring at r))) (mul-pos (mul-pos o o) (mul-pos o o))

-- ---- the cosine a / u lies within 8 / 2 ^ 53 of (P - N) / D, which is from 1 - c / (2 * d) to 1
cosine_high : (a u P N D : ℕ) → 0 < D → P ≤ N + D → 2 ^ 53 * (a * D + N * u) ≤ 2 ^ 53 * (P * u + 0 * D) + 8 * (u * D) → 256 * a ≤ 257 * u
cosine_high a u P N D p h n =
    let l = simp ring at (mul-le-mul_right u h) in
    le_of_mul-le-mul_right {k = D} (simp ring (omega (arith, simp ring at n))) p

cosine_low : (a u P N D c d : ℕ) → 0 < D → 2 * ((N + D) * d) ≤ 2 * (P * d) + D * c → 2 ^ 53 * (P * u + 0 * D) ≤ 2 ^ 53 * (a * D + N * u) + 8 * (D * u) → 1024 * (2 * (u * d)) ≤ 1024 * (2 * (a * d) + u * c) + 2 * (u * d)
cosine_low a u P N D c d p h n =
    let l = simp ring at (mul-le-mul_right u h) in
    let m = simp ring at (mul-le-mul_right d n) in
    le_of_mul-le-mul_right {k = D} (simp ring (omega (arith, l, m))) p

cosine_large : (a u P N D : ℕ) → 0 < D → 8 * (N + D) ≤ 8 * P + D → 2 ^ 53 * (P * u + 0 * D) ≤ 2 ^ 53 * (a * D + N * u) + 8 * (D * u) → 111 * u ≤ 128 * a
cosine_large a u P N D p h n =
    let l = simp ring at (mul-le-mul_right u h) in
    le_of_mul-le-mul_right {k = D} (simp ring (omega (arith, l, simp ring at n))) p

cosine_sign : (a u P N D : ℕ) → 0 < u → 0 < D → 8 * (N + D) ≤ 8 * P + D → 2 ^ 53 * (P * u + a * D) ≤ 2 ^ 53 * (0 * D + N * u) + 8 * (D * u) → ⊥
cosine_sign a u P N D q p h n =
    let l = simp ring at (mul-le-mul_right u h) in
    let w : 0 < u * D = mul-pos q p in
    omega (arith, l, simp ring at n)

-- ---- the sine b / v lies within 8 / 2 ^ 53 of (P - N) / D times p / q
sine_small : (b v P N D p q : ℕ) → 0 < D → 0 < q → 2 * p ≤ q → P ≤ N + D → 2 ^ 53 * (b * (D * q) + N * p * v) ≤ 2 ^ 53 * (P * p * v) + 8 * (v * (D * q)) → 256 * b ≤ 129 * v
sine_small b v P N D p q o i h f n =
    let l = simp ring at (mul-le-mul_right (p * v) f) in
    let m = simp ring at (mul-le-mul_right (D * v) h) in
    le_of_mul-le-mul_right {k = D * q} (simp ring (linear (b * (D * q)) (v * (N * p)) (v * (P * p)) (v * (D * p)) (v * (D * q)) l m (simp ring (simp ring at n)))) (mul-pos o i)
  where
    linear : (w y x z g : ℕ) → x ≤ y + z → 2 * z ≤ g → 2 ^ 53 * (w + y) ≤ 2 ^ 53 * x + 8 * g → 256 * w ≤ 129 * g
    linear w y x z g i j k = let r : 2 ^ 53 * w ≤ 2 ^ 53 * z + 8 * g = omega arith in omega (arith, j, r)

sine_low : (b v P N D p q : ℕ) → 0 < D → 24 * (N + D) ≤ 24 * P + D → 2 ^ 53 * (P * p * v) ≤ 2 ^ 53 * (b * (D * q) + N * p * v) + 8 * (v * (D * q)) → 1024 * (23 * (v * p)) ≤ 1024 * (24 * (b * q)) + 24 * (v * q)
sine_low b v P N D p q o f n =
    let l = simp ring at (mul-le-mul_right (p * v) f) in
    le_of_mul-le-mul_right {k = D} (simp ring (omega (arith, l, simp ring at n))) o

-- ---- the floats: a sine and a cosine of one number
pub data SineCosine : Float → Float → Type 0 where
  ranged : {s : Bool} {m n : ℕ} {e d : ℤ} → Turned (m * up e) (down e) (n * up d) (down d) → SineCosine (fin s m e) (fin false n d)

square_minus : (s : Bool) (a c : ℕ) → (signed s a c ⊗ signed s a c).minus ≡ 0
square_minus true a c = simp (zero-mul, mul-zero)
square_minus false a c = simp (zero-mul, mul-zero)

square_plus : (s : Bool) (a c : ℕ) → (signed s a c ⊗ signed s a c).plus ≡ a * a
square_plus true a c = simp (zero-mul, zero-add)
square_plus false a c = simp (mul-zero, add-zero)

-- ±b / v near to F times ±p / q, whatever the signs are
record SineNear (b v p q : ℕ) (F : Fraction) : Type 0 where
  high : 2 ^ 53 * (b * (F.den * q) + F.minus * p * v) ≤ 2 ^ 53 * (F.plus * p * v) + 8 * (v * (F.den * q))
  low : 2 ^ 53 * (F.plus * p * v) ≤ 2 ^ 53 * (b * (F.den * q) + F.minus * p * v) + 8 * (v * (F.den * q))

pub ruleset flat = (ring, zero-mul, mul-zero, add-zero, zero-add)

sine_near : (s t : Bool) (b v p q : ℕ) (F : Fraction) → F.minus ≤ F.plus → Near (2 ^ 53) 8 (signed s b v) (F ⊗ signed t p q) → SineNear b v p q F
sine_near s t b v p q F l n = go s t n
  where
    m : F.minus * p * v ≤ F.plus * p * v
    m = mul-le-mul_right v (mul-le-mul_right p l)

    go : (s t : Bool) → Near (2 ^ 53) 8 (signed s b v) (F ⊗ signed t p q) → SineNear b v p q F
    go false false h = record { high = simp flat (omega (arith, simp flat at h.high)); low = simp flat (omega (arith, simp flat at h.low)) }
    go false true h = record { high = simp flat (omega (arith, simp flat at h.high, simp flat at m)); low = simp flat (omega (arith, simp flat at h.high, simp flat at m)) }
    go true false h = record { high = simp flat (omega (arith, simp flat at h.low, simp flat at m)); low = simp flat (omega (arith, simp flat at h.low, simp flat at m)) }
    go true true h = record { high = simp flat (omega (arith, simp flat at h.low)); low = simp flat (omega (arith, simp flat at h.high)) }

-- ---- the sine and the cosine of ±m * 2 ^ e, of at most a half
module _ (s : Bool) (m : ℕ) (e : ℤ) (h : 2 * (m * up e) ≤ down e) where
  abbrev X : Fraction
  X = value s m e

  value_at_most_half : AtMost 2 X
  value_at_most_half = size_at_most_half s m e h

  square_at_most_quarter : AtMost 4 (X ⊗ X)
  square_at_most_quarter = square_at_most value_at_most_half

  square_has_no_minus : (X ⊗ X).minus ≡ 0
  square_has_no_minus = square_minus s (m * up e) (down e)

  even_sum_is_factor : Factor 2 (X ⊗ X) (nested X 7 0)
  even_sum_is_factor = nested_is_factor X value_at_most_half square_has_no_minus 4 0 2 refl refl refl refl

  odd_sum_is_factor : Factor 6 (X ⊗ X) (nested X 7 1)
  odd_sum_is_factor = nested_is_factor X value_at_most_half square_has_no_minus 4 1 6 refl refl refl refl

  ranges_of_near_sums : {x y : Float} → Within (2 ^ 53) 8 x (nested X 7 1 ⊗ X) → Within (2 ^ 53) 8 y (nested X 7 0) → SineCosine x y
  ranges_of_near_sums (within {s = t} {m = b} {e = i} g) (within {s = false} {m = a} {e = j} k) =
      let F = nested X 7 1 in
      let G = nested X 7 0 in
      let f = factor_large_at_quarter square_at_most_quarter square_has_no_minus odd_sum_is_factor in
      let c = factor_large_at_quarter square_at_most_quarter square_has_no_minus even_sum_is_factor in
      let n = sine_near t s (b * up i) (down i) (m * up e) (down e) F (omega (arith, f)) g in
      ranged (record {
        sine_small = sine_small (b * up i) (down i) F.plus F.minus F.den (m * up e) (down e) odd_sum_is_factor.some (down_pos e) h odd_sum_is_factor.high n.high;
        cosine_small = cosine_high (a * up j) (down j) G.plus G.minus G.den even_sum_is_factor.some even_sum_is_factor.high k.high;
        cosine_large = cosine_large (a * up j) (down j) G.plus G.minus G.den even_sum_is_factor.some c k.low;
        squares = squares_large (a * up j) (down j) (b * up i) (down i) (m * up e) (down e) (down_pos e) h
            (rw (square_plus s (m * up e) (down e)) at (cosine_low (a * up j) (down j) G.plus G.minus G.den (X ⊗ X).plus (down e * down e) even_sum_is_factor.some even_sum_is_factor.low k.low))
            (sine_low (b * up i) (down i) F.plus F.minus F.den (m * up e) (down e) odd_sum_is_factor.some f n.low);
      })
  ranges_of_near_sums (within g) (within {s = true} {m = a} {e = j} k) =
      let G = nested X 7 0 in
      absurd (cosine_sign (a * up j) (down j) G.plus G.minus G.den (down_pos j) even_sum_is_factor.some (factor_large_at_quarter square_at_most_quarter square_has_no_minus even_sum_is_factor) k.low)

  pub series_ranged : SineCosine (series_of sines (fin s m e)) (series_of cosines (fin s m e))
  unfolding series_of
  series_ranged = ranges_of_near_sums (product_within (fin s m e) X (within_own_value s m e) value_at_most_half 7) (sum_within (fin s m e) X (within_own_value s m e) value_at_most_half 7 0)
