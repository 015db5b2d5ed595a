-- The code's test of one number is the definition's: a whole number is tested as such, and a number with a fraction or
-- a too large one fails. Assumes nothing.
use Rattle.std.proofs.Common.{◌≡◌, ℕ, ◌+◌, ◌*◌, ◌/◌, ◌%◌, ◌^◌, ◌<◌, ◌≤◌, Bool, true, false, ◌&&◌, ◌||◌, T, eqb, leb, ℤ, pos, sym, refl, ap, ◌∙◌, true≢false, lt_of_lt_of_le, mul-le-mul_right, mul_assoc, div-lt_iff_lt-mul, mul-le-mul, mul-one, mul_right_comm, arith, le→leb, lt→ltb, pow_mono, ltb-false, ltb-true, eq-eqb, ne_eqb, eqb-true, leb-true, Float}
use Rattle.std.specs.Float.{nan, inf, fin, binary64}
use Rattle.std.specs.Float.Ieee.{up, down, of_bits, of_int, lt, eq, ne, to_unsigned, in_float}
use native.Mathlib.Nat.{mul-div_left, mul-mod_left, mul-div-mul_right, min-eq_left, eq_of_mul-eq-mul_right}
use mathlib.Core.Bool.{beq}
use borrow.Author.Tests.{eqb-false, not-true, not-false}
use lib.Ieee.Fits.{down_pos}
use Rattle.common.specs.Tests.{case, both_true}
use Rattle.float.specs.Float.{abs_of}
use Rattle.float.specs.Whole.{Is, whole_round, wholes_compare_equal}
use Rattle.zhang.specs.Plate.{times_unit}
use Rattle.zhang.proofs.Units.{whole_part}

-- ---- v / D in units of u
module _ (v D u : ℕ) (d : 0 < D) (high : u ≤ 256) where
  test : Bool
  test = eqb (v % (u * D)) 0 && leb (v / (u * D)) 256

  record Passed : Type 0 where
    c : ℕ
    small : c ≤ 256
    is : v ≡ c * u * D

  multiple_of_passed : test ≡ true → Passed
  unfolding test
  multiple_of_passed h =
      let hs = both_true (eqb (v % (u * D)) 0) (leb (v / (u * D)) 256) h in
      record {
        c = v / (u * D);
        small = leb-true (v / (u * D)) 256 hs.1;
        is = whole_part v (u * D) (eqb-true (v % (u * D)) 0 hs.0) ∙ sym (mul_assoc (v / (u * D)) u D);
      }

  large_number_fails : 65537 * D ≤ v → test ≡ false
  large_number_fails h =
      case test
      (λ t. let p = multiple_of_passed t in
      let l : p.c * u * D ≤ 65536 * D = mul-le-mul_right D (mul-le-mul p.small high) in
      absurd (omega (arith, p.is)))
      (λ t. t)

  number_with_fraction_fails : (v ≡ v / D * D → ⊥) → test ≡ false
  number_with_fraction_fails n =
      case test
      (λ t. let p = multiple_of_passed t in
      let e : v / D ≡ p.c * u = ap (λ (i : ℕ). i / D) p.is ∙ mul-div_left (p.c * u) d in
      absurd (n (p.is ∙ ap (λ (i : ℕ). i * D) (sym e))))
      (λ t. t)

  whole_number_by_itself : (n : ℕ) → v ≡ n * D → test ≡ (eqb (n % u) 0 && leb (n / u) 256)
  unfolding test
  whole_number_by_itself n e = rw (e, same_rest n, mul-div-mul_right n u d)
    where
      same_rest : (n : ℕ) → eqb (n * D % (u * D)) 0 ≡ eqb (n % u) 0
      same_rest n =
          case (eqb (n % u) 0)
          (λ t. let f : n * D ≡ n / u * (u * D) = ap (λ (i : ℕ). i * D) (whole_part n u (eqb-true (n % u) 0 t)) ∙ mul_assoc (n / u) u D in
          eq-eqb (n * D % (u * D)) 0 (rw f (mul-mod_left (n / u) (u * D))) ∙ sym t)
          (λ t. ne_eqb (n * D % (u * D)) 0
          (λ z. let f : n ≡ n * D / (u * D) * u = eq_of_mul-eq-mul_right D d n (n * D / (u * D) * u) (whole_part (n * D) (u * D) z ∙ sym (mul_assoc (n * D / (u * D)) u D)) in
          eqb-false (n % u) 0 t (ap (λ (i : ℕ). i % u) f ∙ mul-mod_left (n * D / (u * D)) u)) ∙ sym t)

-- ---- 65537
abbrev pub limit : Float
limit = of_bits binary64 0x40f0_0010_0000_0000

below_limit : (m : ℕ) (e : ℤ) → lt (fin false m e) limit ≡ true → m * up e < 65537 * down e
unfolding lt of_bits
below_limit m e h = let l = ltb-true (m * up e * 1) (65537 * 1 * down e) h in omega arith

from_limit : (m : ℕ) (e : ℤ) → lt (fin false m e) limit ≡ false → 65537 * down e ≤ m * up e
unfolding lt of_bits
from_limit m e h = let l = ltb-false (m * up e * 1) (65537 * 1 * down e) h in omega arith

-- ---- the whole part of a number below 65537
whole_part_below_limit : (m : ℕ) (e : ℤ) → m * up e < 65537 * down e → m * up e / down e < 65537
whole_part_below_limit m e h = (div-lt_iff_lt-mul (down_pos e)).1 h

cut_is : (m : ℕ) (e : ℤ) → m * up e < 65537 * down e → to_unsigned 64 (fin false m e) ≡ m * up e / down e
unfolding to_unsigned
cut_is m e h = let l = whole_part_below_limit m e h in min-eq_left (omega arith)

size_in_cast_range : (x : Float) → lt (abs_of x) limit ≡ true → T (lt (fin true 1 (pos 0)) (abs_of x)) × T (lt (abs_of x) (fin false 1 (pos 64)))
unfolding lt abs_of of_bits
size_in_cast_range nan h = absurd (true≢false (sym h))
size_in_cast_range (inf s) h = absurd (true≢false (sym h))
size_in_cast_range (fin s m e) h =
    let d = down_pos e in
    let l = below_limit m e h in
    (lt→ltb 0 (1 * down e + m * up e * 1) (omega arith), lt→ltb (m * up e * 1) (18446744073709551616 * down e) (omega arith))

cast_at_most_65536 : (x : Float) → lt (abs_of x) limit ≡ true → to_unsigned 64 (abs_of x) ≤ 65536
unfolding lt abs_of of_bits
cast_at_most_65536 nan h = absurd (true≢false (sym h))
cast_at_most_65536 (inf s) h = absurd (true≢false (sym h))
cast_at_most_65536 (fin s m e) h = let l = below_limit m e h in rw (cut_is m e l) (omega (arith, whole_part_below_limit m e l))

-- ---- a whole number and its float
float_of_count_is_exact : (n : ℕ) → n ≤ 65536 → Is (of_int binary64 (pos n)) false n
unfolding of_int
float_of_count_is_exact n h =
    let l : n < 2 ^ 17 = omega arith in
    let g : 17 ≤ 1024 = omega arith in
    whole_round false n n 1 (record { digits = n; zeros = 0; short = omega arith; value = mul-one n; small = lt_of_lt_of_le l (pow_mono g) }) (omega arith) (sym (mul-one n))

whole_of_equal_float : (y : Float) (n m : ℕ) (e : ℤ) → Is y false n → eq y (fin false m e) ≡ true → m * up e ≡ n * down e
unfolding eq
whole_of_equal_float nan n m e v h = absurd v
whole_of_equal_float (inf t) n m e v h = absurd v
whole_of_equal_float (fin t a d) n m e v h =
    let l : a * up d * down e ≡ m * up e * down d = eqb-true (a * up d * down e) (m * up e * down d) (both_true (eqb (a * up d * down e) (m * up e * down d)) (beq t false || eqb (a * up d * down e) 0) h).0 in
    eq_of_mul-eq-mul_right (down d) (down_pos d) (m * up e) (n * down e) (sym l ∙ ap (λ (i : ℕ). i * down e) v.1 ∙ mul_right_comm n (down d) (down e))

-- ---- the three ways through the test
module _ (u : ℕ) (high : u ≤ 256) where
  too_large_is_no_multiple : (x : Float) → lt (abs_of x) limit ≡ false → times_unit u x ≡ false
  unfolding times_unit abs_of test
  too_large_is_no_multiple nan h = refl
  too_large_is_no_multiple (inf s) h = refl
  too_large_is_no_multiple (fin s m e) h = large_number_fails (m * up e) (down e) u (down_pos e) high (from_limit m e h)

  fraction_is_no_multiple : (x : Float) → lt (abs_of x) limit ≡ true → ne (of_int binary64 (pos (to_unsigned 64 (abs_of x)))) (abs_of x) ≡ true → times_unit u x ≡ false
  unfolding times_unit abs_of test ne
  fraction_is_no_multiple nan h k = refl
  fraction_is_no_multiple (inf s) h k = refl
  fraction_is_no_multiple (fin s m e) h k =
      let n = m * up e / down e in
      let l = below_limit m e h in
      let k' : eq (of_int binary64 (pos n)) (fin false m e) ≡ false = rw (cut_is m e l) at (not-true (eq (of_int binary64 (pos (to_unsigned 64 (fin false m e)))) (fin false m e)) k) in
      number_with_fraction_fails (m * up e) (down e) u (down_pos e) high
      (λ z. true≢false (sym (wholes_compare_equal (of_int binary64 (pos n)) (fin false m e) false n (float_of_count_is_exact n (omega (arith, whole_part_below_limit m e l))) (λ p. refl, z)) ∙ k'))

  whole_number_multiple_test : (x : Float) → lt (abs_of x) limit ≡ true → ne (of_int binary64 (pos (to_unsigned 64 (abs_of x)))) (abs_of x) ≡ false
      → times_unit u x ≡ (eqb (to_unsigned 64 (abs_of x) % u) 0 && leb (to_unsigned 64 (abs_of x) / u) 256)
  unfolding times_unit abs_of test ne lt of_bits
  whole_number_multiple_test nan h k = absurd (true≢false (sym h))
  whole_number_multiple_test (inf s) h k = absurd (true≢false (sym h))
  whole_number_multiple_test (fin s m e) h k =
      let n = to_unsigned 64 (fin false m e) in
      let l = below_limit m e h in
      whole_number_by_itself (m * up e) (down e) u (down_pos e) high n
      (whole_of_equal_float (of_int binary64 (pos n)) n m e (float_of_count_is_exact n (cast_at_most_65536 (fin s m e) h)) (not-false (eq (of_int binary64 (pos n)) (fin false m e)) k))

-- ---- the same for the code's values: a is the size, and n its whole part
module _ (x a : Float) (is-abs : a ≡ abs_of x) where
  pub too_large_fails : (u : ℕ) → u ≤ 256 → lt a limit ≡ false → false ≡ times_unit u x
  too_large_fails u high h = sym (too_large_is_no_multiple u high x (rw is-abs at h))

  module _ (below : lt a limit ≡ true) where
    abs_below_limit : lt (abs_of x) limit ≡ true
    abs_below_limit = rw is-abs at below

    pub size_is_castable : T (lt (fin true 1 (pos 0)) a) × T (lt a (fin false 1 (pos 64)))
    size_is_castable = rw is-abs (size_in_cast_range x abs_below_limit)

    module _ (n : ℕ) (is_cut : n ≡ to_unsigned 64 a) where
      whole_is_cast_of_size : n ≡ to_unsigned 64 (abs_of x)
      whole_is_cast_of_size = rw is-abs at is_cut

      pub whole_fits_float : T (in_float binary64 (pos n))
      unfolding in_float
      whole_fits_float = le→leb n (2 ^ 53) (let l : n ≤ 65536 = rw whole_is_cast_of_size (cast_at_most_65536 x abs_below_limit) in omega arith)

      module _ (u : ℕ) (high : u ≤ 256) where
        pub with_fraction_fails : ne (of_int binary64 (pos n)) a ≡ true → false ≡ times_unit u x
        with_fraction_fails h = sym (fraction_is_no_multiple u high x abs_below_limit (rw (whole_is_cast_of_size, is-abs) at h))

        pub whole_number_test_agrees : ne (of_int binary64 (pos n)) a ≡ false → (eqb (n % u) 0 && leb (n / u) 256) ≡ times_unit u x
        whole_number_test_agrees h = sym (rw whole_is_cast_of_size (whole_number_multiple_test u high x abs_below_limit (rw (whole_is_cast_of_size, is-abs) at h)))
