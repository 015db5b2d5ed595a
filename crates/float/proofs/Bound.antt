-- The bound as two comparisons: a number is within max exactly where −max is at most it and it is at most max, as
-- IEEE 754 compares. Assumes nothing.
use Rattle.std.specs.Prelude.{ℕ, zero, suc, ◌+◌, ◌*◌, ◌≡◌, refl, Bool, true, false, not, ◌&&◌, ◌||◌, ltb, eqb, Float}
use Rattle.std.proofs.Common.{arith, sym, ap, lt-ltb, eqb-true, eq-eqb, ne_eqb}
use Rattle.std.proofs.Math.Bool.{and-true, and-false, or-true}
use Rattle.std.proofs.lemmas.Bool.{eqb-false}
use Rattle.std.specs.Float.{nan, inf, fin}
use Rattle.std.specs.Float.Ieee.{up, down, below, level, lt, le, eq, neg}
use Rattle.common.specs.Tests.{case}
use Rattle.float.specs.Float.{abs_of, within}

eqb_sym : (a b : ℕ) → eqb a b ≡ eqb b a
eqb_sym a b = case (eqb a b) (λ e. rw (e, eq-eqb b a (sym (eqb-true a b e)))) (λ e. rw (e, ne_eqb b a (λ q. eqb-false a b e (sym q))))

-- a number with a minus sign is at most one without
minus_at_most_plus : (a b : ℕ) → (ltb 0 (a + b) || (eqb a b && eqb a 0)) ≡ true
minus_at_most_plus zero zero = refl
minus_at_most_plus zero (suc b) = rw (lt-ltb 0 (zero + suc b) (omega arith))
minus_at_most_plus (suc a) b = rw (lt-ltb 0 (suc a + b) (omega arith))

-- a number of size a and sign s beside a bound of size b and sign t
size_at_most_by_order : (s : Bool) (a : ℕ) (t : Bool) (b : ℕ)
    → (below false a t b || level false a t b) ≡ ((below (not t) b s a || level (not t) b s a) && (below s a t b || level s a t b))
size_at_most_by_order false a false b = rw (minus_at_most_plus b a)
size_at_most_by_order true a false b = simp (minus_at_most_plus a b, eqb_sym b a, and-true)
size_at_most_by_order false a true b = case (eqb a b) (λ e. simp (eqb_sym b a, e, or-true)) (λ e. simp (e, and-false))
size_at_most_by_order true a true b = case (eqb a b) (λ e. simp (eqb_sym b a, e, or-true, and-true) (ap (λ (n : ℕ). eqb n 0) (eqb-true a b e))) (λ e. simp (eqb_sym b a, e))

pub abs_at_most_by_order : (max t : Float) → le (abs_of t) max ≡ (le (neg max) t && le t max)
unfolding le lt eq neg abs_of
abs_at_most_by_order nan nan = refl
abs_at_most_by_order (inf u) nan = sym (and-false (le (neg (inf u)) nan))
abs_at_most_by_order (fin u n d) nan = sym (and-false (le (neg (fin u n d)) nan))
abs_at_most_by_order nan (inf s) = refl
abs_at_most_by_order nan (fin s m e) = refl
abs_at_most_by_order (inf true) (inf true) = refl
abs_at_most_by_order (inf true) (inf false) = refl
abs_at_most_by_order (inf false) (inf true) = refl
abs_at_most_by_order (inf false) (inf false) = refl
abs_at_most_by_order (inf true) (fin s m e) = refl
abs_at_most_by_order (inf false) (fin s m e) = refl
abs_at_most_by_order (fin u n d) (inf true) = refl
abs_at_most_by_order (fin u n d) (inf false) = refl
abs_at_most_by_order (fin u n d) (fin s m e) = size_at_most_by_order s (m * up e * down d) u (n * up d * down e)

-- ---- the theorem
pub within_order : (max t : Float) → within max t ≡ (le (neg max) t && le t max)
unfolding within
within_order max t = abs_at_most_by_order max t
