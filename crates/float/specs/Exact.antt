-- A value that fits its format is written in one way, so rounding its number gives the value itself. Assumes nothing.
use Rattle.std.specs.Prelude.{◌≡◌, refl, Bool, true, false, ◌&&◌, ℕ, zero, suc, ◌+◌, ◌-◌, ◌*◌, ◌^◌, ◌%◌, ◌≤◌, ◌<◌, T, ltb, leb, eqb, ℤ, pos, negsuc, Float}
use Rattle.std.proofs.Common.{sym, ap, ◌∙◌, subst, mul_comm, mul_assoc, mul_left_comm, mul-one, mul-pos, mul-lt-mul_of_pos_right, zero-lt-suc, lt_of_lt_of_le, pow-suc, arith, ltb-true, ltb-false, eqb→eq, ltb→lt, leb→le, pow-add, pow_pos, pow_mono, shl_lt}
use Rattle.std.proofs.Math.Nat.{eq_of_mul-eq-mul_right, pow-succ'}
use Rattle.std.proofs.Math.Pow.{pow-lt}
use Rattle.std.specs.Float.{nan, inf, fin, Format, binary32, binary64}
use Rattle.std.specs.Float.Ieee.{prec, low, emax, up, down, fits, round}
use Rattle.std.specs.Float.Ieee.Fits.{and_l, and_r, up_pos, down_pos, round-fits}
use Rattle.std.specs.Float.Ieee.Exact.{HasValue, round_exact}

-- ---- what `fits` says of a number other than 0
pub record Fitting (f : Format) (m : ℕ) (e : ℤ) : Type 0 where
  pub is_odd : m % 2 ≡ 1
  pub short : m < 2 ^ prec f
  pub deep : down e ≤ 2 ^ low f
  pub small : m * up e < 2 ^ suc (emax f) * down e

pub fits_gives_fitting : (f : Format) (s : Bool) (m : ℕ) (e : ℤ) → T (fits f (fin s (suc m) e)) → Fitting f (suc m) e
unfolding fits
fits_gives_fitting f s m e h =
    let A = eqb (suc m % 2) 1 in
    let B = ltb (suc m) (2 ^ prec f) in
    let C = leb (down e) (2 ^ low f) in
    let D = ltb (suc m * up e) (2 ^ suc (emax f) * down e) in
    record {
      is_odd = eqb→eq (suc m % 2) 1 (and_l A B (and_l (A && B) C (and_l (A && B && C) D h)));
      short = ltb→lt (suc m) (2 ^ prec f) (and_r A B (and_l (A && B) C (and_l (A && B && C) D h)));
      deep = leb→le (down e) (2 ^ low f) (and_r (A && B) C (and_l (A && B && C) D h));
      small = ltb→lt (suc m * up e) (2 ^ suc (emax f) * down e) (and_r (A && B && C) D h);
    }

-- ---- a number is an odd number times a power of two in one way only
odd_is_not_even : (m t : ℕ) → m % 2 ≡ 1 → m ≡ 2 * t → ⊥
odd_is_not_even m t o h = omega arith

odd_times_power_unique : (m n a b : ℕ) → m % 2 ≡ 1 → n % 2 ≡ 1 → m * 2 ^ a ≡ n * 2 ^ b → (m ≡ n) × (a ≡ b)
odd_times_power_unique m n zero zero o p h = (sym (mul-one m) ∙ h ∙ mul-one n, refl)
odd_times_power_unique m n zero (suc b) o p h = absurd (odd_is_not_even m (n * 2 ^ b) o (sym (mul-one m) ∙ h ∙ ap (λ (x : ℕ). n * x) (pow-succ' 2 b) ∙ mul_left_comm n 2 (2 ^ b)))
odd_times_power_unique m n (suc a) zero o p h = absurd (odd_is_not_even n (m * 2 ^ a) p (sym (mul-one n) ∙ sym h ∙ ap (λ (x : ℕ). m * x) (pow-succ' 2 a) ∙ mul_left_comm m 2 (2 ^ a)))
odd_times_power_unique m n (suc a) (suc b) o p h =
    let r = odd_times_power_unique m n a b o p (eq_of_mul-eq-mul_right 2 (zero-lt-suc 1) (m * 2 ^ a) (n * 2 ^ b)
    (mul_assoc m (2 ^ a) 2 ∙ ap (λ (x : ℕ). m * x) (sym (pow-suc 2 a)) ∙ h ∙ ap (λ (x : ℕ). n * x) (pow-suc 2 b) ∙ sym (mul_assoc n (2 ^ b) 2)))
    in
    (r.0, ap suc r.1)

odd_value_unique : (m n : ℕ) (e g : ℤ) → m % 2 ≡ 1 → n % 2 ≡ 1 → m * up e * down g ≡ n * up g * down e → (m ≡ n) × (e ≡ g)
odd_value_unique m n (pos a) (pos b) o p h =
    let r = odd_times_power_unique m n a b o p (sym (mul-one (m * 2 ^ a)) ∙ h ∙ mul-one (n * 2 ^ b)) in (r.0, ap pos r.1)
odd_value_unique m n (pos a) (negsuc b) o p h =
    let r = odd_times_power_unique m n (a + suc b) 0 o p (ap (λ (x : ℕ). m * x) (pow-add 2 a (suc b)) ∙ sym (mul_assoc m (2 ^ a) (2 ^ suc b)) ∙ h ∙ mul-one (n * 1)) in
    let z : a + suc b ≡ 0 = r.1 in
    absurd (omega arith)
odd_value_unique m n (negsuc a) (pos b) o p h =
    let r = odd_times_power_unique n m (b + suc a) 0 p o (ap (λ (x : ℕ). n * x) (pow-add 2 b (suc a)) ∙ sym (mul_assoc n (2 ^ b) (2 ^ suc a)) ∙ sym h ∙ mul-one (m * 1)) in
    let z : b + suc a ≡ 0 = r.1 in
    absurd (omega arith)
odd_value_unique m n (negsuc a) (negsuc b) o p h =
    let r = odd_times_power_unique m n (suc b) (suc a) o p (ap (λ (x : ℕ). x * 2 ^ suc b) (sym (mul-one m)) ∙ h ∙ ap (λ (x : ℕ). x * 2 ^ suc a) (mul-one n)) in
    let z : b ≡ a = let q : suc b ≡ suc a = r.1 in omega arith in
    (r.0, ap negsuc (sym z))

-- ---- a number other than 0 that fits is what its own fraction rounds to
pub exponent_le_of_power_le : (i j : ℕ) → 2 ^ i ≤ 2 ^ j → i ≤ j
exponent_le_of_power_le i j h =
    elim (ltb j i) as (λ (v : Bool). ltb j i ≡ v → i ≤ j) [
      | true ↦ λ e. absurd (let p : 2 ^ j < 2 ^ i = pow-lt (ltb-true j i e) in omega arith)
      | false ↦ λ e. ltb-false j i e
    ] refl

rounded_digits_in_format : (f : Format) (k : ℕ) → prec f + (low f - suc k) ≤ low f + suc (emax f)
rounded_digits_in_format binary32 k = omega arith
rounded_digits_in_format binary64 k = omega arith

round_has_own_value : (f : Format) (s : Bool) (m : ℕ) (e : ℤ) → Fitting f m e → HasValue (round f s (m * up e) (down e)) s (m * up e) (down e)
round_has_own_value f s m (pos k) x =
    let l = 2 ^ low f in
    let e : m * 2 ^ (k + low f) ≡ m * 2 ^ k * l = ap (λ (y : ℕ). m * y) (pow-add 2 k (low f)) ∙ sym (mul_assoc m (2 ^ k) l) in
    let b : m * 2 ^ k * l < 2 ^ suc (emax f) * l = mul-lt-mul_of_pos_right (subst (λ (y : ℕ). m * 2 ^ k < y) (mul-one (2 ^ suc (emax f))) x.small) (pow_pos (low f)) in
    let g : 2 ^ suc (emax f) * l ≡ 2 ^ (low f + suc (emax f)) = mul_comm (2 ^ suc (emax f)) l ∙ sym (pow-add 2 (low f) (suc (emax f))) in
    round_exact f s (m * 2 ^ k) 1 m (k + low f) (zero-lt-suc 0) x.short (subst (λ (y : ℕ). y < 2 ^ (low f + suc (emax f))) (sym e) (subst (λ (y : ℕ). m * 2 ^ k * l < y) g b)) (sym e ∙ sym (mul-one (m * 2 ^ (k + low f))))
round_has_own_value f s m (negsuc k) x =
    let j = low f - suc k in
    let d : suc k ≤ low f = exponent_le_of_power_le (suc k) (low f) x.deep in
    let e : j + suc k ≡ low f = omega arith in
    let g : m * 1 * 2 ^ low f ≡ m * 2 ^ j * 2 ^ suc k =
    ap (λ (y : ℕ). y * 2 ^ low f) (mul-one m) ∙ ap (λ (y : ℕ). m * 2 ^ y) (sym e) ∙ ap (λ (y : ℕ). m * y) (pow-add 2 j (suc k)) ∙ sym (mul_assoc m (2 ^ j) (2 ^ suc k))
    in
    round_exact f s (m * 1) (2 ^ suc k) m j (pow_pos (suc k)) x.short (lt_of_lt_of_le (shl_lt (prec f) j x.short) (pow_mono (rounded_digits_in_format f k))) g

fitting_value_unique : (f : Format) (s : Bool) (m : ℕ) (e : ℤ) (y : Float) → T (fits f y) → Fitting f (suc m) e → HasValue y s (suc m * up e) (down e) → y ≡ fin s (suc m) e
fitting_value_unique f s m e nan h x v = absurd v
fitting_value_unique f s m e (inf t) h x v = absurd v
fitting_value_unique f s m e (fin t zero g) h x v =
    absurd (let p : 0 < suc m * up e * down g = mul-pos (mul-pos (zero-lt-suc m) (up_pos e)) (down_pos g) in let q : 0 * up g * down e ≡ suc m * up e * down g = v.1 in omega arith)
fitting_value_unique f s m e (fin t (suc n) g) h x v =
    let r = odd_value_unique (suc n) (suc m) g e (fits_gives_fitting f t n g h).is_odd x.is_odd v.1 in
    λ i. fin (v.0 i) (r.0 i) (r.1 i)

pub round_of_own_fraction : (f : Format) (s : Bool) (m : ℕ) (e : ℤ) → T (fits f (fin s (suc m) e)) → round f s (suc m * up e) (down e) ≡ fin s (suc m) e
round_of_own_fraction f s m e h =
    let x = fits_gives_fitting f s m e h in
    fitting_value_unique f s m e (round f s (suc m * up e) (down e)) (round-fits f s (suc m * up e) (down e)) x (round_has_own_value f s (suc m) e x)
