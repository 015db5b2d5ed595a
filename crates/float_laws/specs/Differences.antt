-- A lower bound on the size of a rounded value, from one on the exact value. So where two floats lie near two fractions
-- that are far apart, their rounded difference isn't below the fractions' distance less the two errors. No bound on the
-- rounding error is needed, since rounding keeps the order. Assumes nothing.
use Rattle.std.specs.Prelude.{◌≡◌, false, ℕ, ◌+◌, ◌*◌, ◌≤◌, ◌<◌, Float}
use Rattle.std.proofs.Common.{ap, ◌∙◌, mul-add, mul_comm, mul-pos, mul-le-mul_right, mul-le-mul_left, le_of_mul-le-mul_right, arith}
use Rattle.std.specs.Float.{binary64}
use Rattle.std.specs.Float.Ieee.{round, sub, lt}
use Rattle.std.specs.Float.Ieee.Fits.{down_pos}
use Rattle.float.specs.Float.{abs_of}
use Rattle.float_laws.specs.Fraction.{Fraction, near_sym, ring}
use Rattle.float_laws.specs.Rounded.{Within, within, Rounds, sub_rounds}
use Rattle.float_laws.specs.Reaches.{rounds_in_order}
use Rattle.float_laws.specs.Apart.{distance_of_parts, size_of_rounded}
use Rattle.float_laws.specs.Exceeds.{Exceeds, near_exceeds}

-- ---- the exact value, plus less minus over den, is at least p / q in size
module _ {x : Float} {y : Fraction} (r : Rounds x y) (some : 0 < y.den) (p q : ℕ) (o : 0 < q) where
  num_not_below : p * y.den ≤ r.num * q → lt (abs_of x) (round binary64 false p q) ≡ false
  num_not_below h = ap (λ (z : Float). lt z (round binary64 false p q)) (size_of_rounded r) ∙ rounds_in_order binary64 r.num y.den p q some o h

  -- where it is at most -p / q
  pub minus_not_below : q * y.plus + p * y.den ≤ q * y.minus → lt (abs_of x) (round binary64 false p q) ≡ false
  minus_not_below h =
      let d = distance_of_parts r.num y.plus y.minus r.sign r.exact in
      num_not_below (omega (arith, rw (mul-add q y.plus r.num, mul_comm q r.num) at (mul-le-mul_left q d.1)))

  -- where it is at least p / q
  pub plus_not_below : q * y.minus + p * y.den ≤ q * y.plus → lt (abs_of x) (round binary64 false p q) ≡ false
  plus_not_below h =
      let d = distance_of_parts r.num y.plus y.minus r.sign r.exact in
      num_not_below (omega (arith, rw (mul-add q y.minus r.num, mul_comm q r.num) at (mul-le-mul_left q d.0)))

-- ---- k / t is at least p / q, and b + c exceeds a by k / t, all over w
scaled_excess : (t k p q a b c w : ℕ) → 0 < t → p * t ≤ k * q → t * a + k * w ≤ t * (b + c) → q * a + p * w ≤ q * (c + b)
scaled_excess t k p q a b c w z h l =
    let u = simp ring at (mul-le-mul_right w h) in
    let v = simp ring at (mul-le-mul_right q l) in
    le_of_mul-le-mul_right {k = t} (simp ring (omega arith)) z

-- x and y are within i / t and j / t of X and Y, and Y exceeds X by that and by k / t more, which is at least p / q
pub difference_not_below : {t i j : ℕ} {x y : Float} {X Y : Fraction} (k p q : ℕ) → 0 < t → 0 < q → p * t ≤ k * q → 0 < X.den → 0 < Y.den
    → Within t i x X → Within t j y Y → Exceeds t (i + (k + j)) X Y → lt (abs_of (sub binary64 x y)) (round binary64 false p q) ≡ false
difference_not_below {t} k p q z o h X⁺ Y⁺ (within {s = r} {m = m} {e = e} u) (within {s = s} {m = n} {e = d} v) x =
    let f = near_exceeds X⁺ Y⁺ u x (near_sym v) in
    minus_not_below (sub_rounds r s m n e d) (mul-pos (down_pos e) (down_pos d)) p q o
    (scaled_excess t k p q _ _ _ _ z h f.by)
