-- The exact sum of a series' terms equals the nested one, which starts with the last coefficient and is multiplied by
-- x * x before each further coefficient is added. Assumes nothing.
use Rattle.std.specs.Prelude.{◌≡◌, refl, Bool, true, false, cond, ℕ, zero, suc, ◌+◌, ◌*◌, ◌≤◌, ◌<◌}
use Rattle.std.proofs.Common.{sym, ap, ◌∙◌, subst, mul-pos, mul-le-mul, mul-le-mul_right, mul-le-mul_left, zero-lt-suc, suc-mul, le_trans, arith}
use Rattle.std.proofs.Math.Nat.{mul-mul-mul_comm}
use Rattle.float_laws.specs.Fraction.{Fraction, ◌⊕◌, ◌⊗◌, size, Near, near_refl, near_trans, near_add, times_comm, times_assoc, plus_comm, plus_zero_fraction, distrib, size_times, size_plus, ring, AtMost}
use Rattle.float_laws.specs.Within.{Small}
use Rattle.trig.specs.Series.{factorial, negative, power, inverse, terms}

-- like `horner_of`, but not rounded
unfoldable pub nested : Fraction → ℕ → ℕ → Fraction
nested x zero n = inverse n
nested x (suc j) n = (nested x j (suc (suc n)) ⊗ (x ⊗ x)) ⊕ inverse n

pub factorial_pos : (n : ℕ) → 0 < factorial n
factorial_pos zero = zero-lt-suc 0
factorial_pos (suc n) = mul-pos (zero-lt-suc n) (factorial_pos n)

-- ---- for an x of at most a half the sum from 1 / n! on is at most 4 / 3 of that in size
pub square_at_most : {x : Fraction} → AtMost 2 x → AtMost 4 (x ⊗ x)
square_at_most {x} a = record {
  some = mul-pos a.some a.some;
  small = rw (size_times x x) (rw (mul-mul-mul_comm 2 (size x) 2 (size x)) at (mul-le-mul a.small a.small));
}

size_inverse : (n : ℕ) → size (inverse n) ≡ 1
size_inverse n = go (negative n)
  where
    go : (s : Bool) → cond s 0 1 + cond s 1 0 ≡ 1
    go true = refl
    go false = refl

pub record Shrinks (n : ℕ) (y : Fraction) : Type 0 where
  pub some : 0 < y.den
  pub small : 3 * (size y * factorial n) ≤ 4 * y.den

-- in numbers: the sum so far is a / c, times p / q, plus 1 / f
shrink : (a c p q f g : ℕ) → 3 * (a * g) ≤ 4 * c → 4 * p ≤ q → f ≤ g → 3 * ((a * p * f + 1 * (c * q)) * f) ≤ 4 * (c * q * f)
shrink a c p q f g h l m =
    let x : 3 * (a * g) * (4 * p) ≤ 4 * c * q = mul-le-mul h l in
    let y = mul-le-mul_right f (mul-le-mul_left (a * p) m) in
    let z = mul-le-mul_right f (simp ring at x) in
    simp ring (omega (arith, simp ring at y, simp ring at z))

pub factorial_grows : (n : ℕ) → factorial n ≤ factorial (suc (suc n))
factorial_grows n = le_trans (once n (factorial n)) (once (suc n) (suc n * factorial n))
  where
    once : (k f : ℕ) → f ≤ suc k * f
    once k f = omega (arith, suc-mul k f)

pub nested_shrinks : (x : Fraction) → AtMost 2 x → (j n : ℕ) → Shrinks n (nested x j n)
unfolding nested
nested_shrinks x a zero n = record { some = factorial_pos n; small = rw (size_inverse n) (omega arith) }
nested_shrinks x a (suc j) n = next (nested x j (suc (suc n))) (x ⊗ x) (nested_shrinks x a j (suc (suc n))) (square_at_most a)
  where
    next : (y q : Fraction) → Shrinks (suc (suc n)) y → AtMost 4 q → Shrinks n ((y ⊗ q) ⊕ inverse n)
    next y q u v = record {
      some = mul-pos (mul-pos u.some v.some) (factorial_pos n);
      small = rw (size_plus (y ⊗ q) (inverse n), size_inverse n, size_times y q) (shrink (size y) y.den (size q) q.den (factorial n) (factorial (suc (suc n))) u.small v.small (factorial_grows n));
    }

pub nested_small : (x : Fraction) → AtMost 2 x → (j n : ℕ) → Small (nested x j n)
nested_small x a j n =
    let s = nested_shrinks x a j n in
    record { some = s.some; small = omega (arith, s.small, mul-le-mul_left (size (nested x j n)) (factorial_pos n)) }

-- ---- the two sums are the same number
power_pos : (x : Fraction) → 0 < x.den → (n : ℕ) → 0 < (power x n).den
unfolding power
power_pos x p zero = zero-lt-suc 0
power_pos x p (suc n) = mul-pos (power_pos x p n) p

regroup : (b p x : Fraction) → b ⊗ (p ⊗ x ⊗ x) ≡ b ⊗ (x ⊗ x) ⊗ p
regroup b p x = ap (λ (z : Fraction). b ⊗ z) (times_assoc p x x ∙ times_comm p (x ⊗ x)) ∙ sym (times_assoc b (x ⊗ x) p)

-- c and p stand for the coefficient and the power of the first term, b for the sum of the others
pull_out : (t : ℕ) (c p b x r : Fraction) → 0 < c.den → 0 < p.den → 0 < b.den → 0 < x.den → Near t 0 r (b ⊗ (p ⊗ x ⊗ x)) → Near t 0 ((c ⊗ p) ⊕ r) (((b ⊗ (x ⊗ x)) ⊕ c) ⊗ p)
pull_out t c p b x r C P B X h =
    near_trans {y = (c ⊗ p) ⊕ (b ⊗ (x ⊗ x) ⊗ p)} (mul-pos (mul-pos C P) (mul-pos (mul-pos B (mul-pos X X)) P))
    (near_add (near_refl t (c ⊗ p)) (subst (Near t 0 r) (regroup b p x) h))
    (subst (λ (z : Fraction). Near t 0 z (((b ⊗ (x ⊗ x)) ⊕ c) ⊗ p)) (plus_comm (b ⊗ (x ⊗ x) ⊗ p) (c ⊗ p)) (distrib t (b ⊗ (x ⊗ x)) c p))

pub terms_nested : (t : ℕ) (x : Fraction) → AtMost 2 x → (j n : ℕ) → Near t 0 (terms x (suc j) n) (nested x j n ⊗ power x n)
unfolding terms nested power
terms_nested t x a zero n = subst (λ (z : Fraction). Near t 0 z (inverse n ⊗ power x n)) (sym (plus_zero_fraction (inverse n ⊗ power x n))) (near_refl t (inverse n ⊗ power x n))
terms_nested t x a (suc j) n =
    pull_out t (inverse n) (power x n) (nested x j (suc (suc n))) x (terms x (suc j) (suc (suc n))) (factorial_pos n) (power_pos x a.some n) (nested_small x a j (suc (suc n))).some a.some (terms_nested t x a j (suc (suc n)))

pub terms_pos : (x : Fraction) → 0 < x.den → (k n : ℕ) → 0 < (terms x k n).den
unfolding terms
terms_pos x p zero n = zero-lt-suc 0
terms_pos x p (suc k) n = mul-pos (mul-pos (factorial_pos n) (power_pos x p n)) (terms_pos x p k (suc (suc n)))
