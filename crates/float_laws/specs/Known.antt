-- Floats that are known to lie near to an exact fraction of known size, and their products, sums and differences.
-- `Known k n x X`: x is within k / 2 ^ 53 of X, which is at most n / 1024 in size. k and n are numerals, so every
-- condition on them is one computed test. Assumes nothing.
use Rattle.std.specs.Prelude.{◌≡◌, List, [], ◌∷◌, Bool, true, false, ◌&&◌, ℕ, ◌+◌, ◌*◌, ◌^◌, ◌≤◌, ◌<◌, T, leb, Float}
use Rattle.std.proofs.Common.{◌∙◌, subst, mul_assoc, mul_comm, mul_left_comm, mul-le-mul, mul-le-mul_left, mul-le-mul_right, mul-pos, add-zero, zero-add, le_trans, zero-lt-suc, arith, leb→le}
use Rattle.std.proofs.Math.Nat.{le_of_mul-le-mul_left}
use Rattle.std.specs.Float.{binary64}
use Rattle.std.specs.Float.Ieee.{add, sub, mul, neg}
use Rattle.std.specs.Float.Ieee.Fits.{and_l, and_r}
use Rattle.float_laws.specs.Fraction.{Fraction, signed, opposite, near_opposite, ◌⊕◌, ◌⊗◌, size, Near, near_same, plus_comm, plus_zero_fraction, size_times, size_plus, ring}
use Rattle.float_laws.specs.Rounded.{Within, within}
use Rattle.float_laws.specs.Within.{Small, within_trans, within_weaken, add_within, mul_within}

pub record Known (k n : ℕ) (x : Float) (X : Fraction) : Type 0 where
  pub near : Within (2 ^ 53) k x X
  pub some : 0 < X.den
  pub small : 1024 * size X ≤ n * X.den

-- ---- a fraction of at most 7 / 4 in size
small_of_limit : (n : ℕ) (X : Fraction) → n ≤ 1792 → 0 < X.den → 1024 * size X ≤ n * X.den → Small X
small_of_limit n X h p s = record { some = p; small = le_of_mul-le-mul_left {k = 256} (omega (arith, mul-le-mul_right X.den h)) (zero-lt-suc 255) }

-- ---- a list of numbers, each at most its limit: one test
pub data Limit : Type 0 where
  ◌under◌ : ℕ → ℕ → Limit

infix 5 ◌under◌
abbrev pub tested : List Limit → Bool
tested [] = true
tested ((a under b) ∷ ls) = leb a b && tested ls

abbrev pub Holds : List Limit → Type 0
Holds [] = Unit {0}
Holds ((a under b) ∷ ls) = (a ≤ b) × Holds ls

tested_limits_hold : (ls : List Limit) → T (tested ls) → Holds ls
tested_limits_hold [] t = tt
tested_limits_hold ((a under b) ∷ ls) t = (leb→le a b (and_l (leb a b) (tested ls) t), tested_limits_hold ls (and_r (leb a b) (tested ls) t))

-- ---- products
abbrev pub product : ℕ → ℕ → ℕ → ℕ → ℕ → List Limit
product k l n m p = (n under 1792) ∷ (m under 1792) ∷ (p under 1792) ∷ (n * m under 1024 * p) ∷ (2 * l + 2 * k under 2 ^ 40) ∷ (k under 2 ^ 40) ∷ []

size_product : (n m p s t c d : ℕ) → 1024 * s ≤ n * c → 1024 * t ≤ m * d → n * m ≤ 1024 * p → 1024 * (s * t) ≤ p * (c * d)
size_product n m p s t c d g h e =
    le_of_mul-le-mul_left {k = 1024}
    (le_trans (le_trans (simp mul_assoc (simp (mul_assoc, mul_left_comm) at (mul-le-mul g h))) (mul-le-mul_right (c * d) e)) (simp mul_assoc (omega arith)))
    (zero-lt-suc 1023)

pub mul_known : {k l n m : ℕ} (p : ℕ) {x y : Float} {X Y : Fraction} → Known k n x X → Known l m y Y → T (tested (product k l n m p)) → Known (1 + (2 * l + 2 * k)) p (mul binary64 x y) (X ⊗ Y)
mul_known {k} {l} {n} {m} p {x} {y} {X} {Y} g h t =
    let f = tested_limits_hold (product k l n m p) t in
    let b : 1024 * size (X ⊗ Y) ≤ p * (X.den * Y.den) = rw (size_times X Y) (size_product n m p (size X) (size Y) X.den Y.den g.small h.small f.1.1.1.0) in
    let q = mul-pos g.some h.some in
    let v = small_of_limit m Y f.1.0 h.some h.small in
    let j : k * size Y ≤ 2 * k * Y.den = rw (mul_comm 2 k, mul_assoc k 2 Y.den) (mul-le-mul_left k (omega (arith, v.small))) in
    record {
      near = mul_within (2 * k) g.near h.near (small_of_limit n X f.0 g.some g.small) (small_of_limit p (X ⊗ Y) f.1.1.0 q b) h.some j f.1.1.1.1.1.0 f.1.1.1.1.0;
      some = q;
      small = b;
    }

-- ---- sums
size_sum : (n m s t c d : ℕ) → 1024 * s ≤ n * c → 1024 * t ≤ m * d → 1024 * (s * d + t * c) ≤ (n + m) * (c * d)
size_sum n m s t c d g h =
    let x = simp ring at (mul-le-mul_right d g) in
    let y = simp ring at (mul-le-mul_right c h) in
    simp ring (omega (arith, x, y))

pub add_known : {k l n m : ℕ} {x y : Float} {X Y : Fraction} → Known k n x X → Known l m y Y → T (tested ((n + m under 1792) ∷ (k + l under 2 ^ 40) ∷ [])) → Known (1 + (k + l)) (n + m) (add binary64 x y) (X ⊕ Y)
add_known {k} {l} {n} {m} {x} {y} {X} {Y} g h t =
    let f = tested_limits_hold ((n + m under 1792) ∷ (k + l under 2 ^ 40) ∷ []) t in
    let b : 1024 * size (X ⊕ Y) ≤ (n + m) * (X.den * Y.den) = rw (size_plus X Y) (size_sum n m (size X) (size Y) X.den Y.den g.small h.small) in
    let q = mul-pos g.some h.some in
    record { near = add_within g.near h.near (small_of_limit (n + m) (X ⊕ Y) f.0 q b) f.1.0; some = q; small = b }

-- ---- the opposite
within_opposite : {t k : ℕ} {x : Float} {X : Fraction} → Within t k x X → Within t k (neg x) (opposite X)
unfolding neg
within_opposite (within {s = true} h) = within (near_opposite h)
within_opposite (within {s = false} h) = within (near_opposite h)

pub neg_known : {k n : ℕ} {x : Float} {X : Fraction} → Known k n x X → Known k n (neg x) (opposite X)
neg_known g = record { near = within_opposite g.near; some = g.some; small = omega (arith, g.small) }

pub sub_known : {k l n m : ℕ} {x y : Float} {X Y : Fraction} → Known k n x X → Known l m y Y → T (tested ((n + m under 1792) ∷ (k + l under 2 ^ 40) ∷ [])) → Known (1 + (k + l)) (n + m) (sub binary64 x y) (X ⊕ opposite Y)
unfolding sub
sub_known g h t = add_known g (neg_known h) t

-- ---- another fraction for the same number
known_as_equal_fraction : {k n : ℕ} (m : ℕ) {x : Float} {X Y : Fraction} → Known k n x X → Near (2 ^ 53) 0 X Y → 0 < Y.den → 1024 * size Y ≤ m * Y.den → Known k m x Y
known_as_equal_fraction {k} m {x} {X} {Y} g h p s = record { near = subst (λ (i : ℕ). Within (2 ^ 53) i x Y) (add-zero k) (within_trans g.some g.near h); some = p; small = s }

pub known_weaken : {k n : ℕ} (l : ℕ) {x : Float} {X : Fraction} → Known k n x X → T (leb k l) → Known l n x X
known_weaken {k} l g t = record { near = within_weaken (leb→le k l t) g.near; some = g.some; small = g.small }

-- ---- exact zeros
abbrev pub nothing : Fraction
nothing = signed false 0 1

pub known_nothing : {k : ℕ} {x : Float} {X : Fraction} → Near (2 ^ 53) 0 X nothing → {n : ℕ} → Known k n x X → Known k 0 x nothing
known_nothing h g = known_as_equal_fraction 0 g h (zero-lt-suc 0) (omega arith)

size_zero_is_nothing : (X : Fraction) → 1024 * size X ≤ 0 * X.den → Near (2 ^ 53) 0 X nothing
size_zero_is_nothing X h =
    let z : size X ≡ 0 = omega arith in
    near_same (2 ^ 53) X nothing (let a : X.plus ≡ 0 = omega arith in let b : X.minus ≡ 0 = omega arith in rw (a, b) (omega arith))

known_of_size_zero_is_nothing : {k : ℕ} {x : Float} {X : Fraction} → Known k 0 x X → Known k 0 x nothing
known_of_size_zero_is_nothing {X = X} g = known_nothing (size_zero_is_nothing X g.small) g

-- 0 times y, y times 0, and a sum with 0
pub zero_mul_known : {k l m : ℕ} {x y : Float} {Y : Fraction} → Known k 0 x nothing → Known l m y Y → T (tested (product k l 0 m 0)) → Known (1 + (2 * l + 2 * k)) 0 (mul binary64 x y) nothing
zero_mul_known g h t = known_of_size_zero_is_nothing (mul_known 0 g h t)

pub mul_zero_known : {k l m : ℕ} {x y : Float} {Y : Fraction} → Known l m y Y → Known k 0 x nothing → T (tested (product l k m 0 0)) → Known (1 + (2 * k + 2 * l)) 0 (mul binary64 y x) nothing
mul_zero_known h g t = known_of_size_zero_is_nothing (mul_known 0 h g t)

pub add_zero_known : {k l n : ℕ} {x y : Float} {X : Fraction} → Known k n x X → Known l 0 y nothing → T (tested ((n + 0 under 1792) ∷ (k + l under 2 ^ 40) ∷ [])) → Known (1 + (k + l)) n (add binary64 x y) X
add_zero_known {k} {l} {n} {x} {y} {X} g h t =
    subst (λ (i : ℕ). Known (1 + (k + l)) i (add binary64 x y) X) (add-zero n) (subst (Known (1 + (k + l)) (n + 0) (add binary64 x y)) (plus_zero_fraction X) (add_known g h t))

pub zero_add_known : {k l n : ℕ} {x y : Float} {X : Fraction} → Known l 0 y nothing → Known k n x X → T (tested ((0 + n under 1792) ∷ (l + k under 2 ^ 40) ∷ [])) → Known (1 + (l + k)) n (add binary64 y x) X
zero_add_known {k} {l} {n} {x} {y} {X} h g t =
    subst (λ (i : ℕ). Known (1 + (l + k)) i (add binary64 y x) X) (zero-add n) (subst (Known (1 + (l + k)) (0 + n) (add binary64 y x)) (plus_comm nothing X ∙ plus_zero_fraction X) (add_known h g t))
