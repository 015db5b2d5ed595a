-- Fractions of whole numbers with a sign: (plus - minus) / den. Their sums and products, and how near two of them are.
-- `Near t k x y` says that x and y lie within k / t of each other; `Near t 0`, that they are the same number.
-- Assumes nothing.
use Rattle.std.specs.Prelude.{◌≡◌, refl, Bool, true, false, cond, ℕ, ◌+◌, ◌*◌, ◌≤◌, ◌<◌}
use Rattle.std.proofs.Common.{subst, add_assoc, add_comm, add-mul, mul-add, mul_assoc, mul_comm, mul_left_comm, mul-one, mul-zero, zero-mul, add-zero, zero-add, mul-le-mul_right, le_of_mul-le-mul_right, arith}
use Rattle.std.proofs.Math.Nat.{add_left_comm}

pub record Fraction : Type 0 where
  pub plus : ℕ
  pub minus : ℕ
  pub den : ℕ

-- ±a / c
abbrev pub signed : Bool → ℕ → ℕ → Fraction
signed s a c = record { plus = cond s 0 a; minus = cond s a 0; den = c }

infixl 65 ◌⊕◌
infixl 70 ◌⊗◌
abbrev pub ◌⊕◌ : Fraction → Fraction → Fraction
x ⊕ y = record { plus = x.plus * y.den + y.plus * x.den; minus = x.minus * y.den + y.minus * x.den; den = x.den * y.den }

abbrev pub ◌⊗◌ : Fraction → Fraction → Fraction
x ⊗ y = record { plus = x.plus * y.plus + x.minus * y.minus; minus = x.plus * y.minus + x.minus * y.plus; den = x.den * y.den }

abbrev pub opposite : Fraction → Fraction
opposite x = record { plus = x.minus; minus = x.plus; den = x.den }

-- x is at most y + k / t
abbrev pub Over : ℕ → ℕ → Fraction → Fraction → Type 0
Over t k x y = t * (x.plus * y.den + y.minus * x.den) ≤ t * (y.plus * x.den + x.minus * y.den) + k * (x.den * y.den)

pub record Near (t k : ℕ) (x y : Fraction) : Type 0 where
  pub high : Over t k x y
  pub low : Over t k y x

-- products of sums, multiplied out and put in one order
pub ruleset ring = (add-mul, mul-add, mul_assoc, mul_comm, mul_left_comm)

-- ---- the inequalities, multiplied out
over_trans : (t k l p n d P N D A B C : ℕ) → 0 < D
    → t * (p * D + N * d) ≤ t * (P * d + n * D) + k * (d * D)
    → t * (P * C + B * D) ≤ t * (A * D + N * C) + l * (D * C)
    → t * (p * C + B * d) ≤ t * (A * d + n * C) + (k + l) * (d * C)
over_trans t k l p n d P N D A B C pos g h =
    let a = simp ring at (mul-le-mul_right C g) in
    let b = simp ring at (mul-le-mul_right d h) in
    le_of_mul-le-mul_right {k = D} (simp ring (omega arith)) pos

over_add : (t k l p n d P N D a b c A B C : ℕ)
    → t * (p * D + N * d) ≤ t * (P * d + n * D) + k * (d * D)
    → t * (a * C + B * c) ≤ t * (A * c + b * C) + l * (c * C)
    → t * ((p * c + a * d) * (D * C) + (N * C + B * D) * (d * c)) ≤ t * ((P * C + A * D) * (d * c) + (n * c + b * d) * (D * C)) + (k + l) * (d * c * (D * C))
over_add t k l p n d P N D a b c A B C g h =
    let u = simp ring at (mul-le-mul_right (c * C) g) in
    let v = simp ring at (mul-le-mul_right (d * D) h) in
    simp ring (omega arith)

-- times (a - b) / c, which is at most l / k in size
over_scale : (t k l p n d P N D a b c : ℕ)
    → t * (p * D + N * d) ≤ t * (P * d + n * D) + k * (d * D)
    → t * (P * d + n * D) ≤ t * (p * D + N * d) + k * (D * d)
    → k * (a + b) ≤ l * c
    → t * ((p * a + n * b) * (D * c) + (P * b + N * a) * (d * c)) ≤ t * ((P * a + N * b) * (d * c) + (p * b + n * a) * (D * c)) + l * (d * c * (D * c))
over_scale t k l p n d P N D a b c g h s =
    let u = simp ring at (mul-le-mul_right (a * c) g) in
    let v = simp ring at (mul-le-mul_right (b * c) h) in
    let w = simp ring at (mul-le-mul_right (d * (D * c)) s) in
    simp ring (omega arith)

-- ---- nearness
pub near_sym : {t k : ℕ} {x y : Fraction} → Near t k x y → Near t k y x
near_sym h = record { high = h.low; low = h.high }

pub near_trans : {t k l : ℕ} {x y z : Fraction} → 0 < y.den → Near t k x y → Near t l y z → Near t (k + l) x z
near_trans {t} {k} {l} {x} {y} {z} p g h = record {
  high = over_trans t k l x.plus x.minus x.den y.plus y.minus y.den z.plus z.minus z.den p g.high h.high;
  low =
      subst (λ (i : ℕ). Over t i z x) (add_comm l k)
      (over_trans t l k z.plus z.minus z.den y.plus y.minus y.den x.plus x.minus x.den p h.low g.low);
}

pub near_add : {t k l : ℕ} {x X y Y : Fraction} → Near t k x X → Near t l y Y → Near t (k + l) (x ⊕ y) (X ⊕ Y)
near_add {t} {k} {l} {x} {X} {y} {Y} g h = record {
  high = over_add t k l x.plus x.minus x.den X.plus X.minus X.den y.plus y.minus y.den Y.plus Y.minus Y.den g.high h.high;
  low = over_add t k l X.plus X.minus X.den x.plus x.minus x.den Y.plus Y.minus Y.den y.plus y.minus y.den g.low h.low;
}

-- the size of the terms of x, over its denominator: no less than that of x
abbrev pub size : Fraction → ℕ
size x = x.plus + x.minus

pub size_times : (x y : Fraction) → size (x ⊗ y) ≡ size x * size y
size_times x y = simp (ring, add_assoc, add_comm, add_left_comm)

pub size_plus : (x y : Fraction) → size (x ⊕ y) ≡ size x * y.den + size y * x.den
size_plus x y = simp (add-mul, add_assoc, add_comm, add_left_comm)

pub size_signed : (s : Bool) (a c : ℕ) → size (signed s a c) ≡ a
size_signed true a c = omega arith
size_signed false a c = omega arith

-- at most 1 / b in size
pub record AtMost (b : ℕ) (y : Fraction) : Type 0 where
  pub some : 0 < y.den
  pub small : b * size y ≤ y.den

-- times y, which is at most l / k in size
pub near_scale : {t k l : ℕ} {x X : Fraction} (y : Fraction) → Near t k x X → k * size y ≤ l * y.den → Near t l (x ⊗ y) (X ⊗ y)
near_scale {t} {k} {l} {x} {X} y g s = record {
  high = over_scale t k l x.plus x.minus x.den X.plus X.minus X.den y.plus y.minus y.den g.high g.low s;
  low = over_scale t k l X.plus X.minus X.den x.plus x.minus x.den y.plus y.minus y.den g.low g.high s;
}

pub near_opposite : {t k : ℕ} {x y : Fraction} → Near t k x y → Near t k (opposite x) (opposite y)
near_opposite {t} {k} {x} {y} h = record { high = simp ring (omega (arith, simp ring at h.low)); low = simp ring (omega (arith, simp ring at h.high)) }

pub near_weaken : {t k l : ℕ} {x y : Fraction} → k ≤ l → Near t k x y → Near t l x y
near_weaken {t} {k} {l} {x} {y} m h = record {
  high = omega (arith, h.high, mul-le-mul_right (x.den * y.den) m);
  low = omega (arith, h.low, mul-le-mul_right (y.den * x.den) m);
}

-- ---- the same number
pub near_same : (t : ℕ) (x y : Fraction) → x.plus * y.den + y.minus * x.den ≡ y.plus * x.den + x.minus * y.den → Near t 0 x y
near_same t x y e = record { high = rw e (omega arith); low = rw (← e) (omega arith) }

pub near_refl : (t : ℕ) (x : Fraction) → Near t 0 x x
near_refl t x = near_same t x x refl

ruleset sums = (ring, add_assoc, add_comm, add_left_comm)

fraction_of_equal_parts : {p n d P N D : ℕ} → p ≡ P → n ≡ N → d ≡ D → ◌≡◌ {A = Fraction} (record { plus = p; minus = n; den = d }) (record { plus = P; minus = N; den = D })
fraction_of_equal_parts e f g = rw (e, f, g)

pub times_comm : (x y : Fraction) → x ⊗ y ≡ y ⊗ x
times_comm x y = fraction_of_equal_parts (simp mul_comm) (simp (mul_comm, add_comm)) (simp mul_comm)

pub times_assoc : (x y z : Fraction) → x ⊗ y ⊗ z ≡ x ⊗ (y ⊗ z)
times_assoc x y z = fraction_of_equal_parts (simp sums) (simp sums) (simp ring)

pub plus_comm : (x y : Fraction) → x ⊕ y ≡ y ⊕ x
plus_comm x y = fraction_of_equal_parts (simp add_comm) (simp add_comm) (simp mul_comm)

pub plus_zero_fraction : (x : Fraction) → x ⊕ signed false 0 1 ≡ x
plus_zero_fraction x = simp (mul-one, zero-mul, add-zero)

pub times_one : (x : Fraction) → x ⊗ signed false 1 1 ≡ x
times_one x = simp (mul-one, mul-zero, add-zero, zero-add)

pub distrib : (t : ℕ) (x y z : Fraction) → Near t 0 ((x ⊗ z) ⊕ (y ⊗ z)) ((x ⊕ y) ⊗ z)
distrib t x y z = near_same t ((x ⊗ z) ⊕ (y ⊗ z)) ((x ⊕ y) ⊗ z) (simp sums)
