-- Bounds on the errors of a rounded product and a rounded sum, from those of the operands, for numbers that are about 1
-- in size. Errors are counted in units of 2 ^ -53. Assumes nothing.
use Rattle.std.proofs.Common.{ap, subst, add-mul, mul-le-mul_right, mul-le-mul_left, le_of_lt, mul-pos, zero-add, lt_of_mul-lt-mul_right, arith}
use Rattle.std.specs.Prelude.{Bool, true, false, ℕ, ◌+◌, ◌*◌, ◌^◌, ◌≤◌, ◌<◌, ℤ, Float}
use Rattle.std.specs.Float.{fin, binary64}
use Rattle.std.specs.Float.Ieee.{up, down, add, mul}
use Rattle.std.specs.Float.Ieee.Fits.{down_pos}
use Rattle.float_laws.specs.Fraction.{Fraction, signed, ◌⊕◌, ◌⊗◌, size, Near, near_trans, near_same, near_add, near_scale, near_weaken, times_comm, ring, size_signed}
use Rattle.float_laws.specs.Rounded.{value, Within, within, round_near, Rounds, mul_rounds, add_rounds}

-- at most 7 / 4 in size
pub record Small (y : Fraction) : Type 0 where
  pub some : 0 < y.den
  pub small : 4 * size y ≤ 7 * y.den

-- what is near to such a number is below 2 in size
near_size : (s : Bool) (a c k : ℕ) (y : Fraction) → Near (2 ^ 53) k (signed s a c) y → Small y → k ≤ 2 ^ 40 → 0 < c → a < 2 * c
near_size s a c k y h m b p = lt_of_mul-lt-mul_right y.den (go s h)
  where
    lemma : (P N D : ℕ) → 0 < D → 4 * (P + N) ≤ 7 * D → 2 ^ 53 * (a * D) ≤ 2 ^ 53 * (P * c) + 2 ^ 53 * (N * c) + k * (c * D) → a * D < 2 * c * D
    lemma P N D q i j =
        let x = simp ring at (mul-le-mul_right c i) in
        let z = simp ring at (mul-le-mul_right (c * D) b) in
        let w : 0 < c * D = mul-pos p q in
        simp ring (omega (arith, simp ring at j))

    go : (t : Bool) → Near (2 ^ 53) k (signed t a c) y → a * y.den < 2 * c * y.den
    go true n = lemma y.plus y.minus y.den m.some m.small (omega (arith, n.low))
    go false n = lemma y.plus y.minus y.den m.some m.small (omega (arith, n.high))

pub within_trans : {t k l : ℕ} {x : Float} {y z : Fraction} → 0 < y.den → Within t k x y → Near t l y z → Within t (k + l) x z
within_trans p (within g) h = within (near_trans p g h)

pub within_weaken : {t k l : ℕ} {x : Float} {y : Fraction} → k ≤ l → Within t k x y → Within t l x y
within_weaken h (within n) = within (near_weaken h n)

-- x is y rounded, and y is near to z
rounds_within : (k : ℕ) (x : Float) (y z : Fraction) → Rounds x y → 0 < y.den → Near (2 ^ 53) k y z → Small z → k ≤ 2 ^ 40 → Within (2 ^ 53) (1 + k) x z
rounds_within k x y z r p h m b =
    let v = signed r.sign r.num y.den in
    let e : Near (2 ^ 53) 0 v y = near_same (2 ^ 53) v y (let f = ap (λ (i : ℕ). i * y.den) r.exact in simp add-mul at f) in
    let n : Near (2 ^ 53) (0 + k) v z = near_trans p e h in
    rw r.is (within_trans p (round_near r.sign r.num y.den p (near_size r.sign r.num y.den k z (subst (λ (i : ℕ). Near (2 ^ 53) i v z) (zero-add k) n) m b p)) (subst (λ (i : ℕ). Near (2 ^ 53) i v z) (zero-add k) n))

pub add_within : {k l : ℕ} {x y : Float} {X Y : Fraction} → Within (2 ^ 53) k x X → Within (2 ^ 53) l y Y → Small (X ⊕ Y) → k + l ≤ 2 ^ 40 → Within (2 ^ 53) (1 + (k + l)) (add binary64 x y) (X ⊕ Y)
add_within {k} {l} {x = fin s m e} {y = fin t n d} {X} {Y} (within g) (within h) u b =
    rounds_within (k + l) (add binary64 (fin s m e) (fin t n d)) (value s m e ⊕ value t n d) (X ⊕ Y) (add_rounds s t m n e d) (mul-pos (down_pos e) (down_pos d)) (near_add g h) u b
add_within {k = k} {l = l} {x = lib.Ieee.nan} {y = y} {X = X} {Y = Y} x5 _ u b = elim x5 [ ]
add_within {k = k} {l = l} {x = lib.Ieee.inf _} {y = y} {X = X} {Y = Y} x7 _ u b = elim x7 [ ]
add_within {k = k} {l = l} {x = fin s m e} {y = lib.Ieee.nan} {X = X} {Y = Y} _ x12 u b = elim x12 [ ]
add_within {k = k} {l = l} {x = fin s m e} {y = lib.Ieee.inf _} {X = X} {Y = Y} _ x14 u b = elim x14 [ ]

module _ (k l i : ℕ) (s t : Bool) (m n : ℕ) (e d : ℤ) (X Y : Fraction) where
  -- the first factor's error k counts as i, which is k times the second factor, and the second factor's error counts at
  -- most twice
  mul_near : Near (2 ^ 53) k (value s m e) X → Near (2 ^ 53) l (value t n d) Y → Small X → 0 < Y.den → k * size Y ≤ i * Y.den → k ≤ 2 ^ 40 → Near (2 ^ 53) (2 * l + i) (value s m e ⊗ value t n d) (X ⊗ Y)
  mul_near g h u p a q =
      let v = value s m e in
      let w = value t n d in
      let z : m * up e < 2 * down e = near_size s (m * up e) (down e) k X g u q (down_pos e) in
      let f : Near (2 ^ 53) (2 * l) (w ⊗ v) (Y ⊗ v) = near_scale v h (rw (size_signed s (m * up e) (down e)) (let j = mul-le-mul_left l (le_of_lt z) in simp ring (simp ring at j))) in
      near_trans (mul-pos (down_pos e) p) (rw (times_comm w v, times_comm Y v) at f) (near_scale Y g a)

pub mul_within : {k l : ℕ} (i : ℕ) {x y : Float} {X Y : Fraction} → Within (2 ^ 53) k x X → Within (2 ^ 53) l y Y → Small X → Small (X ⊗ Y) → 0 < Y.den → k * size Y ≤ i * Y.den → k ≤ 2 ^ 40 → 2 * l + i ≤ 2 ^ 40 → Within (2 ^ 53) (1 + (2 * l + i)) (mul binary64 x y) (X ⊗ Y)
mul_within {k} {l} i {x = fin s m e} {y = fin t n d} {X} {Y} (within g) (within h) u o p a q r =
    rounds_within (2 * l + i) (mul binary64 (fin s m e) (fin t n d)) (value s m e ⊗ value t n d) (X ⊗ Y) (mul_rounds s t m n e d) (mul-pos (down_pos e) (down_pos d)) (mul_near k l i s t m n e d X Y g h u p a q) o r
mul_within {k = k} {l = l} i {x = lib.Ieee.nan} {y = y} {X = X} {Y = Y} x9 _ u o p a q r = elim x9 [ ]
mul_within {k = k} {l = l} i {x = lib.Ieee.inf _} {y = y} {X = X} {Y = Y} x11 _ u o p a q r = elim x11 [ ]
mul_within {k = k} {l = l} i {x = fin s m e} {y = lib.Ieee.nan} {X = X} {Y = Y} _ x20 u o p a q r = elim x20 [ ]
mul_within {k = k} {l = l} i {x = fin s m e} {y = lib.Ieee.inf _} {X = X} {Y = Y} _ x22 u o p a q r = elim x22 [ ]
