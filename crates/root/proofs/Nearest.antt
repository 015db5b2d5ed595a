-- The root of a value above zero fits the format, and is nearer to the true root than any other value of the format is.
-- Assumes nothing.
use Rattle.std.specs.Prelude.{◌≡◌, Bool, ◌&&◌, cond, ℤ, pos, negsuc, T, ltb, leb, eqb, Float}
use Rattle.std.proofs.Math.Path.{refl, sym}
use Rattle.std.proofs.Common.{ap, ◌∙◌, subst, ⊎_elim, le-div_iff_mul-le, mul-div_cancel, one-mul, le_trans, le_of_eq, lt_of_lt_of_le, lt_of_le_of_lt, lt_irrefl, zero-lt-suc, zero-mul, add-mul, mul_assoc, mul_comm, mul_left_comm, mul_right_comm, mul-le-mul_right, mul-lt-mul_of_pos_right, lt_of_mul-lt-mul_right, mul-pos, mul-one, eq-zero-or-pos, div-mul-le_self, arith, true≢false, ltb→lt, leb→le, lit≤, pow-add, pow_pos, pow_mono}
use Prim.Native.Nat.{ℕ, zero, suc, ◌+◌, ◌-◌, ◌*◌, ◌/◌, ◌%◌, ◌^◌, ◌≤◌, ◌<◌, compare}
use Rattle.std.proofs.Math.Nat.{sub-add_cancel, eq_of_mul-eq-mul_right, mul-mul-mul_comm, mul-lt-mul_of_pos_left}
use Rattle.std.proofs.Math.Bool.{true, false}
use Rattle.std.proofs.Math.Pow.{pow-lt}
use Rattle.std.specs.Float.Ieee.{nan, prec, emax, low, up, down, odd, units, fits, lt}
use Rattle.std.specs.Float.{inf, fin, Format, binary32, binary64}
use Rattle.std.specs.Float.Ieee.Digits.{size_reaches}
use Rattle.std.specs.Float.Ieee.Fits.{and_l, and_r, down_pos, nearest-le, two, kept-lt, odd-fits, inf-fits, nan-fits, cond-fits}
use Rattle.std.specs.Float.Ieee.Exact.{HasValue, units_val}
use Rattle.std.specs.Float.Ieee.Scale.{finite}
use Rattle.std.specs.Float.Ieee.Nearest.{nearest-ge}
use Rattle.std.specs.Float.Ieee.Positive.{num, den, den_pos, positive, value→cross, positive_of_value}
use Rattle.float.specs.Exact.{exponent_le_of_power_le}
use Rattle.root.specs.Root.{isqrt, dropped, kept, middle, rounded, radicand, root_of, root}
use Rattle.root.specs.Nearer.{Nearer}
use Rattle.root.specs.IntegerRoot.{isqrt_is_root, isqrt_ge, square_lt_back, square_mono}
use Rattle.root.specs.ByValue.{root_value, value_unique}
use Rattle.root.proofs.NearestWhole.{rounded_strictly_nearest, no_tie}
use Rattle.root.proofs.Squares.{root_of_square}

-- ---- a value that fits, in units of the format's smallest value
pub placed_in_smallest_units : (l : ℕ) (m : ℕ) (e : ℤ) → down e ≤ 2 ^ l → (j : ℕ) × (m * up e * 2 ^ l ≡ m * 2 ^ j * down e)
placed_in_smallest_units l m (pos a) h = (a + l, mul_assoc m (2 ^ a) (2 ^ l) ∙ ap (λ (x : ℕ). m * x) (sym (pow-add 2 a l)) ∙ sym (mul-one (m * 2 ^ (a + l))))
placed_in_smallest_units l m (negsuc a) h =
    let g : suc a ≤ l = exponent_le_of_power_le (suc a) l h in
    (l - suc a, ap (λ (x : ℕ). x * 2 ^ l) (mul-one m) ∙ ap (λ (x : ℕ). m * 2 ^ x) (sym (sub-add_cancel g)) ∙ ap (λ (x : ℕ). m * x) (pow-add 2 (l - suc a) (suc a)) ∙ sym (mul_assoc m (2 ^ (l - suc a)) (2 ^ suc a)))

-- its digits, below 2 ^ prec, and their place; it is below the format's end
abbrev pub InUnits : Format → ℕ → ℤ → Type 0
InUnits f m e = (m < 2 ^ prec f) × (down e ≤ 2 ^ low f) × (m * up e < 2 ^ suc (emax f) * down e)

pub fitting_digits_in_units : (f : Format) (s : Bool) (m : ℕ) (e : ℤ) → T (fits f (fin s (suc m) e)) → InUnits f (suc m) e
unfolding fits
fitting_digits_in_units f s m e h =
    let A = eqb (suc m % 2) 1 in
    let B = ltb (suc m) (2 ^ prec f) in
    let C = leb (down e) (2 ^ low f) in
    let D = ltb (suc m * up e) (2 ^ suc (emax f) * down e) in (
      ltb→lt (suc m) (2 ^ prec f) (and_r A B (and_l (A && B) C (and_l (A && B && C) D h))),
      leb→le (down e) (2 ^ low f) (and_r (A && B) C (and_l (A && B && C) D h)),
      ltb→lt (suc m * up e) (2 ^ suc (emax f) * down e) (and_r (A && B && C) D h),
    )

-- as c * 2 ^ j
abbrev Placed : Format → Float → Type 0
Placed f x = (c : ℕ) × (j : ℕ) × (c < 2 ^ prec f) × HasValue x false (c * 2 ^ j) (2 ^ low f)

fitting_value_placed : (f : Format) (m : ℕ) (e : ℤ) → T (fits f (fin false m e)) → Placed f (fin false m e)
fitting_value_placed f zero e h = (zero, zero, pow_pos (prec f), (refl, mul_assoc 0 (up e) (2 ^ low f) ∙ zero-mul (up e * 2 ^ low f) ∙ sym (mul_assoc 0 1 (down e) ∙ zero-mul (1 * down e))))
fitting_value_placed f (suc m) e h =
    let i = fitting_digits_in_units f false m e h in
    let p = placed_in_smallest_units (low f) (suc m) e i.1 in
    (suc m, p.0, i.0, (refl, p.1))

-- ---- the root of z * 2 ^ (j + low), of a value z * 2 ^ j above zero and below 2 ^ (emax + 1)
module _ (f : Format) (P : 2 ≤ prec f) (E : 1 ≤ emax f) (L : 0 < low f) (z j : ℕ) (Z : z < 2 ^ prec f) (Z0 : 0 < z) (small : z * 2 ^ j < 2 ^ (low f + suc (emax f))) where
  abbrev n : ℕ
  n = z * 2 ^ (j + low f)

  radicand_in_units : z * 2 ^ j * 2 ^ low f ≡ n
  radicand_in_units = mul_assoc z (2 ^ j) (2 ^ low f) ∙ ap (λ (x : ℕ). z * x) (sym (pow-add 2 j (low f)))

  root_of_unfolded : root_of f n ≡ units f false (rounded f n) (dropped f n)
  unfolding root_of
  root_of_unfolded = refl

  n_pos : 0 < n
  n_pos = mul-pos Z0 (pow_pos (j + low f))

  dropped_unit_at_most_root : 2 ^ dropped f n ≤ isqrt n
  dropped_unit_at_most_root = ⊎_elim (λ (e : dropped f n ≡ 0). subst (λ (x : ℕ). 2 ^ x ≤ isqrt n) (sym e) (isqrt_ge n 1 n_pos))
      (λ (h : 0 < dropped f n). size_reaches (isqrt n) (dropped f n) (omega arith)) (eq-zero-or-pos (dropped f n))

  rounded_root_positive : 0 < rounded f n * 2 ^ dropped f n
  rounded_root_positive =
      mul-pos (lt_of_lt_of_le ((le-div_iff_mul-le (pow_pos (dropped f n))).1 (le_trans (le_of_eq (one-mul (2 ^ dropped f n))) dropped_unit_at_most_root)) (nearest-ge (kept f n) (compare (4 * n) (middle f n * middle f n))))
      (pow_pos (dropped f n))

  -- the result is at most 2 * w, whose square is at most 4 * n
  rounded_root_below_end : rounded f n * 2 ^ dropped f n < 2 ^ (low f + suc (emax f))
  rounded_root_below_end =
      let w = isqrt n in
      let u = 2 ^ dropped f n in
      let a : rounded f n * u ≤ suc (kept f n) * u = mul-le-mul_right u (nearest-le (kept f n) (compare (4 * n) ((2 * kept f n + 1) * u * ((2 * kept f n + 1) * u)))) in
      let b : kept f n * u ≤ w = div-mul-le_self w u in
      let c : suc (kept f n) * u ≤ 2 * w = omega (arith, dropped_unit_at_most_root, mul_comm u (kept f n)) in
      let M = low f + suc (emax f) in
      let d : 4 * n < 4 * (2 ^ M * 2 ^ low f) = mul-lt-mul_of_pos_left (lt_of_le_of_lt (le_of_eq (sym radicand_in_units)) (mul-lt-mul_of_pos_right small (pow_pos (low f)))) (omega arith) in
      let g : 4 * (2 ^ M * 2 ^ low f) ≤ 2 ^ M * 2 ^ M =
      le_trans (le_of_eq (ap (λ (x : ℕ). 4 * x) (sym (pow-add 2 M (low f))) ∙ sym (pow-add 2 2 (M + low f)))) (le_trans (pow_mono {i = 2 + (M + low f)} {j = M + M} (omega arith)) (le_of_eq (pow-add 2 M M))) in
      lt_of_le_of_lt (le_trans a c) (square_lt_back (2 * w) (2 ^ M) (lt_of_lt_of_le (lt_of_le_of_lt (omega (arith, (isqrt_is_root n).0)) d) g))

  root_value_in_units : (x : Float) → HasValue x false (z * 2 ^ j) (2 ^ low f) → HasValue (root f x) false (rounded f n * 2 ^ dropped f n) (2 ^ low f)
  root_value_in_units x h =
      subst (λ (y : Float). HasValue y false (rounded f n * 2 ^ dropped f n) (2 ^ low f))
      (sym (root_value f x (z * 2 ^ j) h (mul-pos Z0 (pow_pos j)) ∙ ap (root_of f) radicand_in_units ∙ root_of_unfolded))
      (units_val f false (rounded f n) (dropped f n) rounded_root_below_end)

-- ---- from units of the smallest value to fractions
lt_of_values_in_units : (x y : Float) (a b c : ℕ) → 0 < c → HasValue x false a c → HasValue y false b c → T (lt x y) → a < b
unfolding lt
lt_of_values_in_units nan y a b c C p q h = absurd p
lt_of_values_in_units (inf s) y a b c C p q h = absurd p
lt_of_values_in_units (fin true m e) y a b c C p q h = absurd (true≢false p.0)
lt_of_values_in_units (fin false m e) nan a b c C p q h = absurd q
lt_of_values_in_units (fin false m e) (inf s) a b c C p q h = absurd q
lt_of_values_in_units (fin false m e) (fin true n d) a b c C p q h = absurd (true≢false q.0)
lt_of_values_in_units (fin false m e) (fin false n d) a b c C p q h =
    lt_of_mul-lt-mul_right (down e * down d)
    (lt_of_le_of_lt (le_of_eq (sym (mul_assoc a (down e) (down d)) ∙ ap (λ (z : ℕ). z * down d) (sym p.1) ∙ mul_right_comm (m * up e) c (down d)))
    (lt_of_lt_of_le (mul-lt-mul_of_pos_right (ltb→lt (m * up e * down d) (n * up d * down e) h) C)
    (le_of_eq (mul_right_comm (n * up d) (down e) c ∙ ap (λ (z : ℕ). z * down e) q.1 ∙ mul_assoc b (down d) (down e) ∙ ap (λ (z : ℕ). b * z) (mul_comm (down d) (down e))))))

-- with X / dx = a / l, R' / dr = r / l and Y' / dy = y / l
module _ (X dx R' dr Y' dy a r y l : ℕ) (L : 0 < l) (DX : 0 < dx) (DR : 0 < dr) (DY : 0 < dy) (ex : X * l ≡ a * dx) (er : R' * l ≡ r * dr) (ey : Y' * l ≡ y * dy) where
  abbrev S : ℕ
  S = R' * dy + Y' * dr

  abbrev D : ℕ
  D = dr * dy

  sum_over_common_denominator : S * l ≡ (r + y) * D
  sum_over_common_denominator =
      add-mul (R' * dy) (Y' * dr) l
      ∙ ap (λ (z : ℕ). z + Y' * dr * l) (mul_right_comm R' dy l ∙ ap (λ (z : ℕ). z * dy) er ∙ mul_assoc r dr dy)
      ∙ ap (λ (z : ℕ). r * D + z) (mul_right_comm Y' dr l ∙ ap (λ (z : ℕ). z * dr) ey ∙ mul_assoc y dy dr ∙ ap (λ (z : ℕ). y * z) (mul_comm dy dr))
      ∙ sym (add-mul r y D)

  left_square_in_units : 4 * X * (D * D) * (l * l) ≡ 4 * (a * l) * (D * D * dx)
  left_square_in_units = simp (mul_assoc, mul_comm, mul_left_comm) (simp (mul_assoc, mul_comm, mul_left_comm) at (ap (λ (z : ℕ). 4 * z * (D * D) * l) ex))

  right_square_in_units : S * S * dx * (l * l) ≡ (r + y) * (r + y) * (D * D * dx)
  right_square_in_units =
      mul_right_comm (S * S) dx (l * l) ∙ ap (λ (z : ℕ). z * dx) (mul-mul-mul_comm S S l l ∙ ap (λ (z : ℕ). z * z) sum_over_common_denominator ∙ mul-mul-mul_comm (r + y) D (r + y) D) ∙ mul_assoc ((r + y) * (r + y)) (D * D) dx

  pos_scale : 0 < D * D * dx
  pos_scale = mul-pos (mul-pos (mul-pos DR DY) (mul-pos DR DY)) DX

  below_middle_as_fractions : 4 * (a * l) < (r + y) * (r + y) → 4 * X * (D * D) < S * S * dx
  below_middle_as_fractions h = lt_of_mul-lt-mul_right (l * l) (lt_of_le_of_lt (le_of_eq left_square_in_units) (lt_of_lt_of_le (mul-lt-mul_of_pos_right h pos_scale) (le_of_eq (sym right_square_in_units))))

  above_middle_as_fractions : (r + y) * (r + y) < 4 * (a * l) → S * S * dx < 4 * X * (D * D)
  above_middle_as_fractions h = lt_of_mul-lt-mul_right (l * l) (lt_of_le_of_lt (le_of_eq right_square_in_units) (lt_of_lt_of_le (mul-lt-mul_of_pos_right h pos_scale) (le_of_eq (sym left_square_in_units))))

-- ---- a value above zero, in units of the smallest value, is below the format's end

emax_pos : (f : Format) → 1 ≤ emax f
emax_pos binary32 = lit≤ tt
emax_pos binary64 = lit≤ tt

low_pos : (f : Format) → 0 < low f
low_pos binary32 = lit≤ tt
low_pos binary64 = lit≤ tt

value_below_format_end : (f : Format) (m : ℕ) (e : ℤ) (j : ℕ) → m * up e < 2 ^ suc (emax f) * down e → m * up e * 2 ^ low f ≡ m * 2 ^ j * down e → m * 2 ^ j < 2 ^ (low f + suc (emax f))
value_below_format_end f m e j h p =
    lt_of_mul-lt-mul_right (down e)
    (lt_of_le_of_lt (le_of_eq (sym p))
    (lt_of_lt_of_le (mul-lt-mul_of_pos_right h (pow_pos (low f)))
    (le_of_eq (mul_right_comm (2 ^ suc (emax f)) (down e) (2 ^ low f) ∙ ap (λ (x : ℕ). x * down e) (mul_comm (2 ^ suc (emax f)) (2 ^ low f) ∙ sym (pow-add 2 (low f) (suc (emax f))))))))

-- The root is a value of the format.
root_of_fits : (f : Format) (n : ℕ) → T (fits f (root_of f n))
unfolding root_of
root_of_fits f n = go (ltb (rounded f n * 2 ^ dropped f n) end) (ltb→lt (rounded f n * 2 ^ dropped f n) end)
  where
    end : ℕ
    end = 2 ^ (low f + suc (emax f))

    small : rounded f n ≤ 2 ^ prec f
    small = le_trans (nearest-le (kept f n) (compare (4 * n) ((2 * kept f n + 1) * 2 ^ dropped f n * ((2 * kept f n + 1) * 2 ^ dropped f n)))) (kept-lt (prec f) (isqrt n))

    go : (b : Bool) → (T b → rounded f n * 2 ^ dropped f n < end) → T (fits f (cond b (odd (suc (prec f)) false (rounded f n) (dropped f n) (low f)) (inf false)))
    go true h = odd-fits f (suc (prec f)) false (rounded f n) (dropped f n) (lt_of_le_of_lt small (pow-lt (omega arith))) small (h tt)
    go false h = inf-fits f false

pub root_fits : (f : Format) (x : Float) → T (fits f x) → T (fits f (root f x))
unfolding root
root_fits f nan h = nan-fits f
root_fits f (inf s) h = cond-fits f s nan (inf s) (nan-fits f) (inf-fits f s)
root_fits f (fin s zero e) h = h
root_fits f (fin true (suc m) e) h = nan-fits f
root_fits f (fin false (suc m) e) h = root_of_fits f (suc m * up e * 2 ^ low f / down e * 2 ^ low f)

-- ---- squares

-- with X / dx = a / l and Y / dy = y / l, and X / dx the square of Y / dy: a / l is the square of y / l
square_in_units : (X dx Y dy a y l : ℕ) → 0 < dx → 0 < dy → X * l ≡ a * dx → Y * l ≡ y * dy → X * (dy * dy) ≡ Y * Y * dx → a * l ≡ y * y
square_in_units X dx Y dy a y l DX DY ex ey e =
    eq_of_mul-eq-mul_right (dx * (dy * dy)) (mul-pos DX (mul-pos DY DY)) (a * l) (y * y)
    (mul-mul-mul_comm a l dx (dy * dy)
    ∙ ap (λ (q : ℕ). q * (l * (dy * dy))) (sym ex)
    ∙ gather X l dy
    ∙ ap (λ (q : ℕ). q * (l * l)) e
    ∙ spread Y l dx
    ∙ ap (λ (q : ℕ). q * q * dx) ey
    ∙ out y dy dx)
  where
    gather : (X l d : ℕ) → X * l * (l * (d * d)) ≡ X * (d * d) * (l * l)
    gather X l d = omega arith

    spread : (Y l d : ℕ) → Y * Y * d * (l * l) ≡ Y * l * (Y * l) * d
    spread Y l d = omega arith

    out : (y d c : ℕ) → y * d * (y * d) * c ≡ y * y * (c * (d * d))
    out y d c = omega arith

-- no number from 0 up is below a negative one, or below -0
not_below_minus : (r : Float) (a c m : ℕ) (e : ℤ) → HasValue r false a c → T (lt r (fin true m e)) → ⊥
unfolding lt
not_below_minus nan a c m e h t = absurd h
not_below_minus (inf s) a c m e h t = absurd h
not_below_minus (fin true q d) a c m e h t = absurd (true≢false h.0)
not_below_minus (fin false q d) a c m e h t = t

square_le : (a b d : ℕ) → a ≤ b → a * a * d ≤ b * b * d
square_le a b d h = mul-le-mul_right d (square_mono a b h)

-- x is the value (z + 1) * 2 ^ a of the format
module _ (f : Format) (z : ℕ) (a : ℤ) (h : T (fits f (fin false (suc z) a))) where
  abbrev x : Float
  x = fin false (suc z) a

  abbrev r : Float
  r = root f x

  abbrev inside : InUnits f (suc z) a
  inside = fitting_digits_in_units f false z a h

  abbrev at : (j : ℕ) × (suc z * up a * 2 ^ low f ≡ suc z * 2 ^ j * down a)
  at = placed_in_smallest_units (low f) (suc z) a inside.1

  abbrev j : ℕ
  j = at.0

  abbrev small : suc z * 2 ^ j < 2 ^ (low f + suc (emax f))
  small = value_below_format_end f (suc z) a j inside.2 at.1

  -- the number under the root, and the root, in units of the smallest value
  abbrev N : ℕ
  N = suc z * 2 ^ (j + low f)

  abbrev R : ℕ
  R = rounded f N * 2 ^ dropped f N

  N-is : suc z * 2 ^ j * 2 ^ low f ≡ N
  N-is = radicand_in_units f (two f) (emax_pos f) (low_pos f) (suc z) j inside.0 (zero-lt-suc z) small

  radicand_is : radicand f (suc z) a ≡ N
  radicand_is = ap (λ (q : ℕ). q * 2 ^ low f) (ap (λ (q : ℕ). q / down a) at.1 ∙ mul-div_cancel (suc z * 2 ^ j) (down_pos a)) ∙ N-is

  r_value : HasValue r false R (2 ^ low f)
  r_value = root_value_in_units f (two f) (emax_pos f) (low_pos f) (suc z) j inside.0 (zero-lt-suc z) small x (refl, at.1)

  r_pos : 0 < R
  r_pos = rounded_root_positive f (two f) (emax_pos f) (low_pos f) (suc z) j inside.0 (zero-lt-suc z) small

  -- no number c * 2 ^ i of the format's digits is as near to √N as R is
  root_strictly_nearest : (c i : ℕ) → c < 2 ^ prec f → (R < c * 2 ^ i → 4 * N < (R + c * 2 ^ i) * (R + c * 2 ^ i)) × (c * 2 ^ i < R → (R + c * 2 ^ i) * (R + c * 2 ^ i) < 4 * N)
  root_strictly_nearest c i C = rounded_strictly_nearest f (two f) (suc z) (j + low f) inside.0 (omega (arith, low_pos f)) c i C

  root_never_in_middle : 4 * N ≡ middle f N * middle f N → ⊥
  root_never_in_middle = no_tie f (two f) (suc z) (j + low f) inside.0 (omega (arith, low_pos f))

  root_cross_product : num r * 2 ^ low f ≡ R * den r
  root_cross_product = value→cross r R (2 ^ low f) r_value

  nearer_than_plus : (m : ℕ) (e : ℤ) → T (fits f (fin false m e)) → Nearer x r (fin false m e)
  nearer_than_plus m e g =
      let y = fitting_value_placed f m e g in
      let Y = y.0 * 2 ^ y.1 in
      record {
        below = λ t.
            below_middle_as_fractions (suc z * up a) (down a) (num r) (den r) (m * up e) (down e) (suc z * 2 ^ j) R Y (2 ^ low f) (pow_pos (low f)) (down_pos a) (den_pos r) (down_pos e) at.1 root_cross_product y.3.1
            (subst (λ (k : ℕ). 4 * k < (R + Y) * (R + Y)) (sym N-is) ((root_strictly_nearest y.0 y.1 y.2).0 (lt_of_values_in_units r (fin false m e) R Y (2 ^ low f) (pow_pos (low f)) r_value y.3 t)));
        above = λ t.
            above_middle_as_fractions (suc z * up a) (down a) (num r) (den r) (m * up e) (down e) (suc z * 2 ^ j) R Y (2 ^ low f) (pow_pos (low f)) (down_pos a) (den_pos r) (down_pos e) at.1 root_cross_product y.3.1
            (subst (λ (k : ℕ). (R + Y) * (R + Y) < 4 * k) (sym N-is) ((root_strictly_nearest y.0 y.1 y.2).1 (lt_of_values_in_units (fin false m e) r Y R (2 ^ low f) (pow_pos (low f)) y.3 r_value t)));
      }

  -- a negative number is no nearer than 0 is
  nearer_than_minus : (m : ℕ) (e : ℤ) → Nearer x r (fin true m e)
  nearer_than_minus m e =
      record {
        below = λ t. absurd (not_below_minus r R (2 ^ low f) m e r_value t);
        above = λ t.
            lt_of_le_of_lt (square_le (num r * down e - m * up e * den r) (num r * down e + 0 * den r) (down a) (omega arith))
            (above_middle_as_fractions (suc z * up a) (down a) (num r) (den r) 0 (down e) (suc z * 2 ^ j) R (0 * 2 ^ 0) (2 ^ low f) (pow_pos (low f)) (down_pos a) (den_pos r) (down_pos e) at.1 root_cross_product (nothing (2 ^ low f) (down e))
            (subst (λ (k : ℕ). (R + 0 * 2 ^ 0) * (R + 0 * 2 ^ 0) < 4 * k) (sym N-is) ((root_strictly_nearest 0 0 (pow_pos (prec f))).1 r_pos)));
      }
    where
      nothing : (l d : ℕ) → 0 * l ≡ 0 * 2 ^ 0 * d
      nothing l d = omega arith

  -- where x is the square of a value y, the root is y
  root_of_square_is_value : (y : Float) → T (positive y) → T (fits f y) → num x * (den y * den y) ≡ num y * num y * den x → r ≡ y
  unfolding root
  root_of_square_is_value nan p g e = absurd p
  root_of_square_is_value (inf s) p g e = absurd p
  root_of_square_is_value (fin true m d) p g e = absurd p
  root_of_square_is_value (fin false zero d) p g e = absurd p
  root_of_square_is_value (fin false (suc m) d) p g e =
      let y = fitting_digits_in_units f false m d g in
      let q = placed_in_smallest_units (low f) (suc m) d y.1 in
      let Y = suc m * 2 ^ q.0 in
      let same : radicand f (suc z) a ≡ Y * Y =
      radicand_is ∙ sym N-is ∙ square_in_units (suc z * up a) (down a) (suc m * up d) (down d) (suc z * 2 ^ j) Y (2 ^ low f) (down_pos a) (down_pos d) at.1 q.1 e in
      let v = root_of_square f Y (suc m) q.0 y.0 refl (value_below_format_end f (suc m) d q.0 y.2 q.1) in
      value_unique f r (fin false (suc m) d) Y (root_fits f x h) g (subst (λ (n : ℕ). HasValue (root_of f n) false Y (2 ^ low f)) (sym same) v) (refl, q.1)

-- ---- the theorems

-- Of every other number of the format, x's root is nearer than that one: no number of the format is as near.
pub root_nearest : (f : Format) (x : Float) → T (positive x) → T (fits f x) → (y : Float) → T (finite y) → T (fits f y) → Nearer x (root f x) y
root_nearest f nan p h y t g = absurd p
root_nearest f (inf s) p h y t g = absurd p
root_nearest f (fin true z a) p h y t g = absurd p
root_nearest f (fin false zero a) p h y t g = absurd p
root_nearest f (fin false (suc z) a) p h nan t g = absurd t
root_nearest f (fin false (suc z) a) p h (inf s) t g = absurd t
root_nearest f (fin false (suc z) a) p h (fin false m e) t g = nearer_than_plus f z a h m e g
root_nearest f (fin false (suc z) a) p h (fin true m e) t g = nearer_than_minus f z a h m e

-- The true root is never in the middle between two neighbours, so the rule for that case is never used.
pub root_no_tie : (f : Format) (m : ℕ) (e : ℤ) → 0 < m → T (fits f (fin false m e)) → 4 * radicand f m e ≡ middle f (radicand f m e) * middle f (radicand f m e) → ⊥
root_no_tie f zero e p h = absurd (lt_irrefl 0 p)
root_no_tie f (suc m) e p h = subst (λ (n : ℕ). 4 * n ≡ middle f n * middle f n → ⊥) (sym (radicand_is f m e h)) (root_never_in_middle f m e h)

-- The root of the square of a value of the format is that value.
pub root_exact : (f : Format) (x y : Float) → T (positive x) → T (fits f x) → T (positive y) → T (fits f y) → num x * (den y * den y) ≡ num y * num y * den x → root f x ≡ y
root_exact f nan y p h q g e = absurd p
root_exact f (inf s) y p h q g e = absurd p
root_exact f (fin true z a) y p h q g e = absurd p
root_exact f (fin false zero a) y p h q g e = absurd p
root_exact f (fin false (suc z) a) y p h q g e = root_of_square_is_value f z a h y q g e

-- The root of a number above zero is one.
pub root_positive : (f : Format) (x : Float) → T (positive x) → T (fits f x) → T (positive (root f x))
root_positive f nan p h = absurd p
root_positive f (inf s) p h = absurd p
root_positive f (fin true z a) p h = absurd p
root_positive f (fin false zero a) p h = absurd p
root_positive f (fin false (suc z) a) p h = positive_of_value (root f (fin false (suc z) a)) (R f z a h) (2 ^ low f) (r_value f z a h) (r_pos f z a h)
