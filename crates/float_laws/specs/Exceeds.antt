-- One fraction exceeds another by at least k / t. That stays so where a third is added to both, and, with a smaller k,
-- for fractions near the two. Assumes nothing.
use Rattle.std.specs.Prelude.{ℕ, ◌+◌, ◌*◌, ◌≤◌, ◌<◌}
use Rattle.std.proofs.Common.{mul-le-mul_right, le_of_mul-le-mul_right, arith}
use Rattle.float_laws.specs.Fraction.{Fraction, ◌⊕◌, Near, ring}

-- x + k / t is at most y
pub record Exceeds (t k : ℕ) (x y : Fraction) : Type 0 where
  pub by : t * (x.plus * y.den + y.minus * x.den) + k * (x.den * y.den) ≤ t * (y.plus * x.den + x.minus * y.den)

-- ---- the inequalities, multiplied out
before : (t i k p n d P N D A B C : ℕ) → 0 < D
    → t * (p * D + N * d) ≤ t * (P * d + n * D) + i * (d * D)
    → t * (P * C + B * D) + (i + k) * (D * C) ≤ t * (A * D + N * C)
    → t * (p * C + B * d) + k * (d * C) ≤ t * (A * d + n * C)
before t i k p n d P N D A B C pos g h =
    let a = simp ring at (mul-le-mul_right C g) in
    let b = simp ring at (mul-le-mul_right d h) in
    le_of_mul-le-mul_right {k = D} (simp ring (omega arith)) pos

behind : (t i k p n d P N D A B C : ℕ) → 0 < D
    → t * (p * D + N * d) + (k + i) * (d * D) ≤ t * (P * d + n * D)
    → t * (P * C + B * D) ≤ t * (A * D + N * C) + i * (D * C)
    → t * (p * C + B * d) + k * (d * C) ≤ t * (A * d + n * C)
behind t i k p n d P N D A B C pos g h =
    let a = simp ring at (mul-le-mul_right C g) in
    let b = simp ring at (mul-le-mul_right d h) in
    le_of_mul-le-mul_right {k = D} (simp ring (omega arith)) pos

excess_of_sums : (t k p n d P N D a b c : ℕ) → t * (p * D + N * d) + k * (d * D) ≤ t * (P * d + n * D)
    → t * ((a * d + p * c) * (c * D) + (b * D + N * c) * (c * d)) + k * (c * d * (c * D)) ≤ t * ((a * D + P * c) * (c * d) + (b * d + n * c) * (c * D))
excess_of_sums t k p n d P N D a b c h =
    let u = simp ring at (mul-le-mul_right (c * c) h) in
    simp ring (omega arith)

-- ---- fractions near the two
pub near_exceeds : {t i j k : ℕ} {v x y w : Fraction} → 0 < x.den → 0 < y.den → Near t i v x → Exceeds t (i + (k + j)) x y → Near t j y w → Exceeds t k v w
near_exceeds {t} {i} {j} {k} {v} {x} {y} {w} p q g e h = record {
  by =
      behind t j k v.plus v.minus v.den y.plus y.minus y.den w.plus w.minus w.den q
      (before t i (k + j) v.plus v.minus v.den x.plus x.minus x.den y.plus y.minus y.den p g.high e.by)
      h.high;
}

-- ---- the same fraction added to both
pub plus_exceeds : {t k : ℕ} (c : Fraction) {x y : Fraction} → Exceeds t k x y → Exceeds t k (c ⊕ x) (c ⊕ y)
plus_exceeds {t} {k} c {x} {y} e = record { by = excess_of_sums t k x.plus x.minus x.den y.plus y.minus y.den c.plus c.minus c.den e.by }
