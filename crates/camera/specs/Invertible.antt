-- With the sines and cosines of `trig` for two tilts of at most 0.5 in size, the determinant of the tilted
-- sensor's matrix is above 0.5, so no such tilt is refused. Assumes nothing.
use Rattle.std.specs.Prelude.{◌≡◌, refl, Bool, true, false, ℕ, ◌+◌, ◌*◌, ◌^◌, ◌≤◌, ◌<◌, ℤ, Float, Ok}
use Rattle.std.proofs.Common.{◌∙◌, sym, true≢false, zero-mul, mul-zero, mul-le-mul, mul-le-mul_right, mul-pos, lt_of_mul-lt-mul_right, arith, ltb-true, lt-ltb, ne_eqb}
use Rattle.std.specs.Float.{nan, inf, fin}
use Rattle.std.specs.Float.Ieee.{of_bits, up, down, lt, eq}
use Rattle.std.specs.Float.Ieee.Fits.{down_pos}
use Rattle.float.specs.Sign.{eq_zero}
use Rattle.float.specs.Literals.{plus_zero, half₆₄}
use Rattle.camera.specs.Matrix.{determinant_of}
use Rattle.camera.specs.Sensor.{tilt_projection_matrix, tilt_verdict}
use Rattle.float_laws.specs.Fraction.{Fraction, signed, opposite, ◌⊕◌, ◌⊗◌, Near, size_signed, ring}
use Rattle.float_laws.specs.Rounded.{value, Within, within, within_own_value}
use Rattle.float_laws.specs.Known.{Known}
use Rattle.trig.specs.Series.{sines, cosines, series_of}
use Rattle.trig.specs.Answer.{tilt_too_large}
use Rattle.trig.proofs.Ranges.{Turned, SineCosine, ranged, flat}
use Rattle.trig.proofs.Theorem.{sine_cosine_in_ranges}
use Rattle.camera.specs.Matrices.{Diagonal, rotation_known, projection_known, determinant_known}
use Rattle.camera.specs.Theorem.{TiltsInvertible}

-- ---- numbers of at least k / l
record AtLeast (k l : ℕ) (x : Fraction) : Type 0 where
  some : 0 < x.den
  plain : x.minus ≡ 0
  large : k * x.den ≤ l * x.plus

at_least_times : {k l i j : ℕ} {x y : Fraction} → AtLeast k l x → AtLeast i j y → AtLeast (k * i) (l * j) (x ⊗ y)
at_least_times {k} {l} {i} {j} {x} {y} g h = record {
  some = mul-pos g.some h.some;
  plain = rw (g.plain, h.plain, mul-zero x.plus, zero-mul y.plus);
  large = rw (g.plain, zero-mul y.minus) (let m = mul-le-mul g.large h.large in simp flat (simp flat at m));
}

-- ---- the diagonal's first two elements: a cosine times the sum of the other tilt's squares
module _ (a u b v c w : ℕ) (o : 0 < u) (p : 0 < v) (q : 0 < w) (l : 111 * w ≤ 128 * c) (t : Turned b v a u) where
  element_large_in_numbers : 3441 * (w * (u * v * (u * v)) * w) ≤ 4096 * (c * (a * v * (a * v) + b * u * (b * u)) * w)
  element_large_in_numbers = let m = mul-le-mul_right w (mul-le-mul l t.squares) in simp flat (omega (arith, simp flat at m))

  first_element_at_least : (s : Bool) → AtLeast 3441 4096 (((signed false a u ⊗ signed false c w) ⊗ signed false a u) ⊕ (opposite (opposite (signed s b v) ⊗ signed false c w) ⊗ signed s b v))
  first_element_at_least true = record { some = mul-pos (mul-pos (mul-pos o q) o) (mul-pos (mul-pos p q) p); plain = simp flat; large = simp flat (omega (arith, simp flat at element_large_in_numbers)) }
  first_element_at_least false = record { some = mul-pos (mul-pos (mul-pos o q) o) (mul-pos (mul-pos p q) p); plain = simp flat; large = simp flat (omega (arith, simp flat at element_large_in_numbers)) }

  second_element_at_least : (s : Bool) → AtLeast 3441 4096 (((signed false c w ⊗ signed false a u) ⊗ signed false a u) ⊕ (opposite (signed s b v) ⊗ (signed false c w ⊗ opposite (signed s b v))))
  second_element_at_least true = record { some = mul-pos (mul-pos (mul-pos q o) o) (mul-pos p (mul-pos q p)); plain = simp flat; large = simp flat (omega (arith, simp flat at element_large_in_numbers)) }
  second_element_at_least false = record { some = mul-pos (mul-pos (mul-pos q o) o) (mul-pos p (mul-pos q p)); plain = simp flat; large = simp flat (omega (arith, simp flat at element_large_in_numbers)) }

cosine_at_least : {a u : ℕ} → 0 < u → 111 * u ≤ 128 * a → AtLeast 111 128 (signed false a u)
cosine_at_least p l = record { some = p; plain = refl; large = l }

-- the diagonal's product
diagonal_at_least : (r s : Bool) (a u b v c w d x : ℕ) → 0 < u → 0 < v → 0 < w → 0 < x → Turned b v a u → Turned d x c w → AtLeast 33 64 (Diagonal (signed false c w) (signed false a u) (signed r d x) (signed s b v))
diagonal_at_least r s a u b v c w d x o p q i t k =
    let g = at_least_times (first_element_at_least a u b v c w o p q k.cosine_large t s) (at_least_times (second_element_at_least c w d x a u q i o t.cosine_large k r) (at_least_times (cosine_at_least o t.cosine_large) (cosine_at_least q k.cosine_large))) in
    record { some = g.some; plain = g.plain; large = omega (arith, g.large) }

-- ---- a number near to that product is above 0.5
near_value_above_half : (v c P D : ℕ) → 0 < c → 0 < D → 33 * D ≤ 64 * P → 2 ^ 53 * (P * c) ≤ 2 ^ 53 * (v * D) + 10000 * (D * c) → c < 2 * v
near_value_above_half v c P D o p h n =
    lt_of_mul-lt-mul_right D (simp ring (linear (P * c) (c * D) (v * D) (simp ring (simp ring at (mul-le-mul_right c h))) (simp ring (simp ring at n)) (mul-pos o p)))
  where
    linear : (x y z : ℕ) → 33 * y ≤ 64 * x → 2 ^ 53 * x ≤ 2 ^ 53 * z + 10000 * y → 0 < y → y < 2 * z
    linear x y z h k p = let r : 33 * 2 ^ 53 * y ≤ 64 * (2 ^ 53 * z + 10000 * y) = omega arith in omega (arith, r, p)

above_half_of_near : {x : Float} {X : Fraction} → Within (2 ^ 53) 10000 x X → AtLeast 33 64 X → lt half₆₄ x ≡ true
unfolding lt of_bits
above_half_of_near (within {s = s} {m = m} {e = e} {y = X} n) l = go s n
  where
    z : X.minus * down e ≡ 0
    z = rw l.plain (zero-mul (down e))

    go : (t : Bool) → Near (2 ^ 53) 10000 (value t m e) X → lt half₆₄ (fin t m e) ≡ true
    go false n =
        let k : down e < 2 * (m * up e) = near_value_above_half (m * up e) (down e) X.plus X.den (down_pos e) l.some l.large (omega (arith, n.low, z)) in
        lt-ltb (1 * down e) (m * up e * 2) (omega arith)
    go true n =
        let k : down e < 2 * 0 = near_value_above_half 0 (down e) X.plus X.den (down_pos e) l.some l.large (omega (arith, n.low, z)) in
        absurd (omega arith)

-- a number above 0.5 is not 0
above_half_is_not_zero : (x : Float) → lt half₆₄ x ≡ true → eq x plus_zero ≡ false
unfolding lt eq of_bits
above_half_is_not_zero nan h = absurd (true≢false (sym h))
above_half_is_not_zero (inf s) h = refl
above_half_is_not_zero (fin true m e) h = absurd (true≢false (sym h))
above_half_is_not_zero (fin false m e) h = eq_zero false m e ∙ ne_eqb m 0 (λ z. let l = ltb-true (1 * down e) (m * up e * 2) h in let k : m * up e ≡ 0 = rw z (zero-mul (up e)) in omega arith)

-- ---- any four numbers in the ranges of sines and cosines
sine_known : (s : Bool) (m : ℕ) (e : ℤ) → 256 * (m * up e) ≤ 129 * down e → Known 0 516 (fin s m e) (value s m e)
sine_known s m e h = record { near = within_own_value s m e; some = down_pos e; small = rw (size_signed s (m * up e) (down e)) (omega arith) }

cosine_known : (m : ℕ) (e : ℤ) → 256 * (m * up e) ≤ 257 * down e → Known 0 1028 (fin false m e) (value false m e)
cosine_known m e h = record { near = within_own_value false m e; some = down_pos e; small = omega arith }

determinant_above_half : {sx cx sy cy : Float} → SineCosine sx cx → SineCosine sy cy → lt half₆₄ (determinant_of (tilt_projection_matrix (record { sin_x = sx; cos_x = cx; sin_y = sy; cos_y = cy }))) ≡ true
unfolding tilt_projection_matrix
determinant_above_half (ranged {s = r} {m = d} {n = c} {e = x} {d = w} k) (ranged {s = s} {m = b} {n = a} {e = v} {d = u} t) =
    let p = projection_known (rotation_known (sine_known r d x k.sine_small) (cosine_known c w k.cosine_small) (sine_known s b v t.sine_small) (cosine_known a u t.cosine_small)) in
    above_half_of_near (determinant_known _ p).near
    (diagonal_at_least r s (a * up u) (down u) (b * up v) (down v) (c * up w) (down w) (d * up x) (down x) (down_pos u) (down_pos v) (down_pos w) (down_pos x) t k)

-- ---- two tilts
module _ (x y : Float) (g : tilt_too_large x ≡ false) (h : tilt_too_large y ≡ false) where
  pub above_half : lt half₆₄ (determinant_of (tilt_projection_matrix (record { sin_x = series_of sines x; cos_x = series_of cosines x; sin_y = series_of sines y; cos_y = series_of cosines y }))) ≡ true
  above_half = determinant_above_half (sine_cosine_in_ranges x g) (sine_cosine_in_ranges y h)

  pub never_singular : tilt_verdict (tilt_projection_matrix (record { sin_x = series_of sines x; cos_x = series_of cosines x; sin_y = series_of sines y; cos_y = series_of cosines y })) ≡ Ok tt
  never_singular = rw (above_half_is_not_zero _ above_half)

pub tilts_invertible : TiltsInvertible
tilts_invertible = record { above_half = above_half; never_singular = never_singular }
