-- Sine and cosine lie within 2 ^ -50 of the exact sum of eight terms. Assumes nothing.
use Rattle.std.proofs.Common.{◌∙◌, subst, one-mul, mul_assoc, mul-pos, mul-le-mul, mul-le-mul_right, le_trans, arith, lit≤}
use Rattle.std.specs.Prelude.{Bool, ℕ, zero, suc, ◌*◌, ◌^◌, ◌≤◌, ◌<◌, ℤ, Float}
use Rattle.std.proofs.Math.Bool.{false}
use Rattle.std.specs.Float.{fin, binary64}
use Rattle.std.specs.Float.Ieee.{up, down, mul, add}
use Rattle.std.specs.Float.Ieee.Fits.{down_pos}
use Rattle.float_laws.specs.Fraction.{Fraction, signed, ◌⊕◌, ◌⊗◌, size, Near, near_sym, times_comm, times_one, size_times, size_signed, AtMost}
use Rattle.float_laws.specs.Rounded.{value, Within, within, round_near, within_own_value}
use Rattle.float_laws.specs.Within.{Small, within_trans, within_weaken, add_within, mul_within}
use Rattle.trig.specs.Series.{Series, cosines, sines, factorial, negative, coefficient_of, horner_of, series_of, power, inverse, terms, exact_of}
use Rattle.trig.specs.Exact.{nested, factorial_pos, square_at_most, nested_small, terms_nested}

coefficient_within : (n : ℕ) → Within (2 ^ 53) 1 (coefficient_of n) (inverse n)
unfolding coefficient_of
coefficient_within n = round_near (negative n) 1 (factorial n) (factorial_pos n) (let p = factorial_pos n in omega arith)

small_times : {b : ℕ} {x y : Fraction} → 0 < b → Small x → AtMost b y → Small (x ⊗ y)
small_times {b} {x} {y} p m a = record {
  some = mul-pos m.some a.some;
  small = rw (size_times x y) (simp (one-mul, mul_assoc) at (mul-le-mul m.small (le_trans (mul-le-mul_right (size y) p) a.small)));
}

-- one step: 8 / 4 from the sum so far, twice 1 from x * x, and 1 each from the rounded product, the coefficient and the
-- rounded sum
horner_step_within : (q acc : Float) (Q A : Fraction) (n : ℕ) → Within (2 ^ 53) 1 q Q → AtMost 4 Q → Within (2 ^ 53) 8 acc A → Small A → Small ((A ⊗ Q) ⊕ inverse n) → Within (2 ^ 53) 8 (add binary64 (mul binary64 acc q) (coefficient_of n)) ((A ⊗ Q) ⊕ inverse n)
horner_step_within q acc Q A n h b w a s =
    within_weaken (lit≤ tt) (add_within (mul_within 2 w h a (small_times (lit≤ tt) a b) b.some (omega (arith, b.small)) (lit≤ tt) (lit≤ tt)) (coefficient_within n) s (lit≤ tt))

horner_within : (q : Float) (x : Fraction) → Within (2 ^ 53) 1 q (x ⊗ x) → AtMost 2 x → (j n : ℕ) → Within (2 ^ 53) 8 (horner_of q j n) (nested x j n)
unfolding horner_of nested
horner_within q x h b zero n = within_weaken (lit≤ tt) (coefficient_within n)
horner_within q x h b (suc j) n = horner_step_within q (horner_of q j (suc (suc n))) (x ⊗ x) (nested x j (suc (suc n))) n h (square_at_most b) (horner_within q x h b j (suc (suc n))) (nested_small x b j (suc (suc n))) (nested_small x b (suc j) n)

-- ---- the whole, for an x of at most a half
within_coarser : {x : Float} {y z : Fraction} → 0 < y.den → Within (2 ^ 53) 8 x y → Near (2 ^ 53) 0 z y → Within (2 ^ 50) 1 x z
within_coarser p w h = go (within_trans p w (near_sym h))
  where
    coarser : {x y : Fraction} → Near (2 ^ 53) 8 x y → Near (2 ^ 50) 1 x y
    coarser n = record { high = omega (arith, n.high); low = omega (arith, n.low) }

    go : {x : Float} {y : Fraction} → Within (2 ^ 53) 8 x y → Within (2 ^ 50) 1 x y
    go (within n) = within (coarser n)

module _ (x : Float) (X : Fraction) (w : Within (2 ^ 53) 0 x X) (a : AtMost 2 X) where
  small : Small X
  small = record { some = a.some; small = omega (arith, a.small) }

  pub sum_within : (j n : ℕ) → Within (2 ^ 53) 8 (horner_of (mul binary64 x x) j n) (nested X j n)
  sum_within j n = horner_within (mul binary64 x x) X (mul_within 0 w w small (small_times (lit≤ tt) small a) a.some (omega arith) (lit≤ tt) (lit≤ tt)) a j n

  pub product_within : (j : ℕ) → Within (2 ^ 53) 8 (mul binary64 (horner_of (mul binary64 x x) j 1) x) (nested X j 1 ⊗ X)
  product_within j =
      within_weaken (lit≤ tt) (mul_within 4 (sum_within j 1) w (nested_small X a j 1) (small_times (lit≤ tt) (nested_small X a j 1) a) a.some (omega (arith, a.small)) (lit≤ tt) (lit≤ tt))

  even_within : (j : ℕ) → Within (2 ^ 50) 1 (horner_of (mul binary64 x x) j 0) (terms X (suc j) 0)
  unfolding power
  even_within j = within_coarser (nested_small X a j 0).some (sum_within j 0) (subst (Near (2 ^ 53) 0 (terms X (suc j) 0)) (times_one (nested X j 0)) (terms_nested (2 ^ 53) X a j 0))

  odd_within : (j : ℕ) → Within (2 ^ 50) 1 (mul binary64 (horner_of (mul binary64 x x) j 1) x) (terms X (suc j) 1)
  unfolding power
  odd_within j =
      within_coarser (mul-pos (nested_small X a j 1).some a.some) (product_within j)
      (subst (λ (z : Fraction). Near (2 ^ 53) 0 (terms X (suc j) 1) (nested X j 1 ⊗ z)) (times_comm (signed false 1 1) X ∙ times_one X) (terms_nested (2 ^ 53) X a j 1))

pub size_at_most_half : (s : Bool) (m : ℕ) (e : ℤ) → 2 * (m * up e) ≤ down e → AtMost 2 (value s m e)
size_at_most_half s m e h = record { some = down_pos e; small = rw (size_signed s (m * up e) (down e)) h }

pub series_within : (w : Series) (s : Bool) (m : ℕ) (e : ℤ) → 2 * (m * up e) ≤ down e → Within (2 ^ 50) 1 (series_of w (fin s m e)) (exact_of w (value s m e))
unfolding series_of
series_within cosines s m e h = even_within (fin s m e) (value s m e) (within_own_value s m e) (size_at_most_half s m e h) 7
series_within sines s m e h = odd_within (fin s m e) (value s m e) (within_own_value s m e) (size_at_most_half s m e h) 7
