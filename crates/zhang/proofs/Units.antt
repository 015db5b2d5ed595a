-- What the definition's tests mean: a number passes where it is ± n 2 ^ k with n at most 256, and four numbers pass
-- where they are such numbers in their ranges. Assumes nothing.
use Rattle.std.proofs.Common.{◌≡◌, ℕ, zero, suc, ◌*◌, ◌/◌, ◌%◌, ◌^◌, ◌<◌, ◌≤◌, Bool, true, false, ◌&&◌, eqb, leb, sym, refl, ◌∙◌, true≢false, mul_assoc, mul-pos, arith, pow_pos, ltb-true, eq-eqb, eqb-true, le-leb, leb-true, Float}
use Rattle.std.specs.Float.{nan, inf, fin}
use Rattle.std.specs.Float.Ieee.{up, down, of_bits, lt}
use native.Mathlib.Nat.{mul-mod_left, mul-div_left, div-mul_cancel, dvd_of_mod-eq-zero}
use lib.Ieee.Fits.{down_pos}
use Rattle.common.specs.Tests.{both_true}
use Rattle.float.specs.Literals.{plus_zero}
use Rattle.float.specs.Whole.{Num, whole_above_zero}
use Rattle.camera.specs.declared.intrinsics.FxFyCxCy.{FxFyCxCy}
use Rattle.zhang.specs.Plate.{times_unit, shared_unit}
use Rattle.zhang.specs.Theorem.{Units}

-- ---- one number
record Times (k : ℕ) (x : Float) : Type 0 where
  minus : Bool
  n : ℕ
  small : n ≤ 256
  is : Num x minus n k

pub whole_part : (v d : ℕ) → v % d ≡ 0 → v ≡ v / d * d
whole_part v d h = sym (div-mul_cancel d (dvd_of_mod-eq-zero d h))

times_of_passed : (k : ℕ) (x : Float) → times_unit (2 ^ k) x ≡ true → Times k x
unfolding times_unit
times_of_passed k nan h = absurd (true≢false (sym h))
times_of_passed k (inf s) h = absurd (true≢false (sym h))
times_of_passed k (fin s m e) h =
    let v = m * up e in
    let d = 2 ^ k * down e in
    let hs = both_true (eqb (v % d) 0) (leb (v / d) 256) h in
    record {
      minus = s;
      n = v / d;
      small = leb-true (v / d) 256 hs.1;
      is = (λ p. refl, whole_part v d (eqb-true (v % d) 0 hs.0) ∙ sym (mul_assoc (v / d) (2 ^ k) (down e)));
    }

multiple_passes_in_numbers : (v n d : ℕ) → 0 < d → v ≡ n * d → n ≤ 256 → (eqb (v % d) 0 && leb (v / d) 256) ≡ true
multiple_passes_in_numbers v n d p e h = rw (e, eq-eqb (n * d % d) 0 (mul-mod_left n d), mul-div_left n p) (le-leb n 256 h)

multiple_passes : (k : ℕ) (x : Float) (s : Bool) (n : ℕ) → n ≤ 256 → Num x s n k → times_unit (2 ^ k) x ≡ true
unfolding times_unit
multiple_passes k nan s n h v = absurd v
multiple_passes k (inf t) s n h v = absurd v
multiple_passes k (fin t m e) s n h v = multiple_passes_in_numbers (m * up e) n (2 ^ k * down e) (mul-pos (pow_pos k) (down_pos e)) (v.1 ∙ mul_assoc n (2 ^ k) (down e)) h

-- ---- a focal length: a number above 0 has no minus sign
record Positive (x : Float) (n k : ℕ) : Type 0 where
  least : 1 ≤ n
  is : Num x false n k

multiple_is_positive : (v n d : ℕ) → 0 < v → v ≡ n * d → 1 ≤ n
multiple_is_positive v zero d p e = absurd (omega arith)
multiple_is_positive v (suc n) d p e = omega arith

focal_length_is_positive : (k n : ℕ) (x : Float) (s : Bool) → lt plus_zero x ≡ true → Num x s n k → Positive x n k
unfolding lt of_bits
focal_length_is_positive k n nan s h v = absurd v
focal_length_is_positive k n (inf t) s h v = absurd v
focal_length_is_positive k n (fin true m e) s h v = absurd (true≢false (sym h))
focal_length_is_positive k n (fin false m e) s h v =
    let l : 0 * 1 * down e < m * up e * 1 = ltb-true (0 * 1 * down e) (m * up e * 1) h in
    record {
      least = multiple_is_positive (m * up e) n (2 ^ k * down e) (omega arith) (v.1 ∙ mul_assoc n (2 ^ k) (down e));
      is = (λ p. refl, v.1);
    }

-- ---- the four
six_true : (a b c d e g : Bool) → (a && b && c && d && e && g) ≡ true → (a ≡ true) × (b ≡ true) × (c ≡ true) × (d ≡ true) × (e ≡ true) × (g ≡ true)
six_true true true true true true true h = (refl, refl, refl, refl, refl, refl)
six_true true true true true true false h = absurd (true≢false (sym h))
six_true true true true true false g h = absurd (true≢false (sym h))
six_true true true true false e g h = absurd (true≢false (sym h))
six_true true true false d e g h = absurd (true≢false (sym h))
six_true true false c d e g h = absurd (true≢false (sym h))
six_true false b c d e g h = absurd (true≢false (sym h))

pub units : (k : ℕ) (f : FxFyCxCy) → shared_unit (2 ^ k) f ≡ true → Units k f
unfolding shared_unit
units k f h =
    let u = 2 ^ k in
    let hs = six_true (times_unit u f.fx) (times_unit u f.fy) (times_unit u f.cx) (times_unit u f.cy) (lt plus_zero f.fx) (lt plus_zero f.fy) h in
    let p = times_of_passed k f.fx hs.0 in
    let q = times_of_passed k f.fy hs.1 in
    let x = times_of_passed k f.cx hs.2 in
    let y = times_of_passed k f.cy hs.3 in
    let fx = focal_length_is_positive k p.n f.fx p.minus hs.4 p.is in
    let fy = focal_length_is_positive k q.n f.fy q.minus hs.5 q.is in
    record {
      p = p.n;
      q = q.n;
      x = x.n;
      y = y.n;
      x_minus = x.minus;
      y_minus = y.minus;
      p_range = (fx.least, p.small);
      q_range = (fy.least, q.small);
      x_range = x.small;
      y_range = y.small;
      fx_is = fx.is;
      fy_is = fy.is;
      cx_is = x.is;
      cy_is = y.is;
    }

pub units_are_shared : (k : ℕ) (f : FxFyCxCy) → Units k f → shared_unit (2 ^ k) f ≡ true
unfolding shared_unit
units_are_shared k f s =
    simp (
      multiple_passes k f.fx false s.p s.p_range.1 s.fx_is,
      multiple_passes k f.fy false s.q s.q_range.1 s.fy_is,
      multiple_passes k f.cx s.x_minus s.x s.x_range s.cx_is,
      multiple_passes k f.cy s.y_minus s.y s.y_range s.cy_is,
      whole_above_zero f.fx (s.p * 2 ^ k) (mul-pos s.p_range.0 (pow_pos k)) s.fx_is,
      whole_above_zero f.fy (s.q * 2 ^ k) (mul-pos s.q_range.0 (pow_pos k)) s.fy_is,
    )
