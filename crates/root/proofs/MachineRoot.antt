-- The machine's square root, `f64::sqrt` as the kit's IEEE 754 library defines it, is the root of specs/Root.antt for
-- every value of binary64. The library takes the whole root of a number with many more binary places, doubles it, adds
-- 1 where the root is not exact, and rounds the quotient by a power of two. The definition rounds the whole root of a
-- shorter number by comparing squares. Assumes nothing.
use Rattle.std.specs.Prelude.{◌≡◌, refl, Bool, true, false, cond, ℤ, T, eqb, Float}
use Rattle.std.proofs.Common.{sym, ap, ◌∙◌, subst, le_antisymm, le_trans, le_of_eq, lt_of_lt_of_le, lt_of_le_of_lt, lt_irrefl, lt_of_not-le, le_of_suc-le-suc, le-div_iff_mul-le, div-lt_iff_lt-mul, div-add-mod', mul-div_cancel, mul_assoc, mul_comm, mul_right_comm, mul_left_comm, mul-lt-mul_of_pos_right, lt_of_mul-lt-mul_right, mul-le-mul_right, mul-pos, arith, true≢false, eqb→eq, pow-add, pow-suc, pow_pos}
use Rattle.std.proofs.Math.Nat.{div-div-eq-div-mul, mul-mul-mul_comm, eq_of_mul-eq-mul_right}
use Rattle.std.proofs.Math.Dec.{eqb_refl}
use Prim.Native.Nat.{ℕ, zero, suc, ◌+◌, ◌-◌, ◌*◌, ◌/◌, ◌%◌, ◌^◌, ◌≤◌, ◌<◌, compare, Ordering}
use Rattle.std.specs.Float.{nan, inf, fin, Format, binary64, sqrt}
use Rattle.std.specs.Float.Ieee.{prec, low, up, down, size, nearest, units, round, root_twice, root_below, fits}
use lib.Ieee.Root.{whole_part}
use lib.Ieee.Fits.{down_pos}
use Rattle.root.specs.Root.{isqrt, dropped, rounded, radicand, root_of, root}
use Rattle.root.specs.IntegerRoot.{isqrt_is_root, square_mono, square_lt, square_lt_back}
use Rattle.root.specs.Compare.{compare_lt, compare_gt}
use Rattle.root.proofs.Nearest.{placed_in_smallest_units, fitting_digits_in_units}
use Rattle.root.proofs.NearestWhole.{Compared, compare_is_right}

-- ---- the doubled root, 1 more where the root is not exact, compares with an even number as the squares do

abbrev twice : ℕ → Bool → ℕ
twice r b = 2 * r + cond b 0 1

half_twice : (r : ℕ) (b : Bool) → twice r b / 2 ≡ r
half_twice r true = omega arith
half_twice r false = omega arith

twice_below : (N r h : ℕ) (b : Bool) → r * r ≤ N → N < h * h → twice r b < 2 * h
twice_below N r h true a l = let g = square_lt_back r h (lt_of_le_of_lt a l) in omega (arith, g)
twice_below N r h false a l = let g = square_lt_back r h (lt_of_le_of_lt a l) in omega (arith, g)

equal_of_eqb : (a b : ℕ) → eqb a b ≡ true → a ≡ b
equal_of_eqb a b e = eqb→eq a b (subst T (sym e) tt)

twice_above : (N r h : ℕ) (b : Bool) → eqb (r * r) N ≡ b → N < suc r * suc r → h * h < N → 2 * h < twice r b
twice_above N r h true e a l = let g = square_lt_back h r (lt_of_lt_of_le l (le_of_eq (sym (equal_of_eqb (r * r) N e)))) in omega (arith, g)
twice_above N r h false e a l = let g = square_lt_back h (suc r) (lt_of_le_of_lt (omega (arith, l)) a) in omega (arith, g)

root_of_square_unique : (r h : ℕ) → r * r ≡ h * h → r ≡ h
root_of_square_unique r h e = le_antisymm (go r h e) (go h r (sym e))
  where
    go : (r h : ℕ) → r * r ≡ h * h → r ≤ h
    go r h e = le_of_suc-le-suc (lt_of_not-le (λ (g : suc h ≤ r). lt_irrefl (h * h) (lt_of_lt_of_le (square_lt h r g) (le_of_eq e))))

twice_equal : (N r h : ℕ) (b : Bool) → eqb (r * r) N ≡ b → r * r ≤ N → N < suc r * suc r → N ≡ h * h → twice r b ≡ 2 * h
twice_equal N r h true e a c l = let g = root_of_square_unique r h (equal_of_eqb (r * r) N e ∙ l) in omega (arith, g)
twice_equal N r h false e a c l =
    let g = square_lt_back h (suc r) (lt_of_le_of_lt (le_of_eq (sym l)) c) in
    let s : N ≤ r * r = le_trans (le_of_eq l) (square_mono h r (omega (arith, g))) in
    absurd (true≢false (sym (subst (λ (x : ℕ). eqb (r * r) x ≡ true) (le_antisymm a s) (whole (eqb (r * r) (r * r)) (eqb_refl (r * r)))) ∙ e))
  where
    whole : (b : Bool) → T b → b ≡ true
    whole true t = refl
    whole false t = absurd t

compared_by_squares : (N r h : ℕ) (b : Bool) → eqb (r * r) N ≡ b → r * r ≤ N → N < suc r * suc r → (o : Ordering) → Compared o N (h * h) → Compared o (twice r b) (2 * h)
compared_by_squares N r h b e a c Ordering.lt k = twice_below N r h b a k
compared_by_squares N r h b e a c Ordering.eq k = twice_equal N r h b e a c k
compared_by_squares N r h b e a c Ordering.gt k = twice_above N r h b e c k

compare_of_cmp : (o : Ordering) (a b : ℕ) → Compared o a b → compare a b ≡ o
compare_of_cmp Ordering.lt a b h = compare_lt a b h
compare_of_cmp Ordering.eq a b h = go (compare a b) (compare_is_right a b)
  where
    go : (o : Ordering) → Compared o a b → o ≡ Ordering.eq
    go Ordering.lt k = absurd (lt_irrefl a (lt_of_lt_of_le k (le_of_eq (sym h))))
    go Ordering.eq k = refl
    go Ordering.gt k = absurd (lt_irrefl b (lt_of_lt_of_le k (le_of_eq h)))
compare_of_cmp Ordering.gt a b h = compare_gt a b h

-- a comparison stays where both sides are multiplied, or divided, by one number
cmp_times : (o : Ordering) (a b z : ℕ) → 0 < z → Compared o a b → Compared o (a * z) (b * z)
cmp_times Ordering.lt a b z p h = mul-lt-mul_of_pos_right h p
cmp_times Ordering.eq a b z p h = ap (λ (x : ℕ). x * z) h
cmp_times Ordering.gt a b z p h = mul-lt-mul_of_pos_right h p

cmp_over : (o : Ordering) (a b z : ℕ) → 0 < z → Compared o (a * z) (b * z) → Compared o a b
cmp_over Ordering.lt a b z p h = lt_of_mul-lt-mul_right z h
cmp_over Ordering.eq a b z p h = eq_of_mul-eq-mul_right z p a b h
cmp_over Ordering.gt a b z p h = lt_of_mul-lt-mul_right z h

square_of_twice : (a : ℕ) → 2 * a * (2 * a) ≡ a * a * 4
square_of_twice a = mul_assoc 2 a (2 * a) ∙ ap (λ (x : ℕ). 2 * x) (mul_left_comm a 2 a) ∙ sym (mul_assoc 2 2 (a * a)) ∙ mul_comm 4 (a * a)

-- twice the remainder compares with the divisor as the doubled dividend does with the odd multiple in the middle
compared_remainder : (o : Ordering) (a q u m : ℕ) → q * u + m ≡ a → Compared o (2 * a) ((2 * q + 1) * u) → Compared o (m * 2) u
compared_remainder Ordering.lt a q u m e h = omega (arith, e, h)
compared_remainder Ordering.eq a q u m e h = omega (arith, e, h)
compared_remainder Ordering.gt a q u m e h = omega (arith, e, h)

-- ---- the whole root of n * c * c, divided by c, is that of n
module _ (n c r : ℕ) (C : 0 < c) (lo : r * r ≤ n * (c * c)) (hi : n * (c * c) < suc r * suc r) where
  abbrev w : ℕ
  w = isqrt n

  scaled_root_at_most : w * c ≤ r
  scaled_root_at_most =
      le_of_suc-le-suc (square_lt_back (w * c) (suc r)
      (lt_of_le_of_lt (le_trans (le_of_eq (mul-mul-mul_comm w c w c)) (mul-le-mul_right (c * c) (isqrt_is_root n).0)) hi))

  scaled_root_above : r < suc w * c
  scaled_root_above =
      square_lt_back r (suc w * c)
      (lt_of_lt_of_le (lt_of_le_of_lt lo (mul-lt-mul_of_pos_right (isqrt_is_root n).1 (mul-pos C C))) (le_of_eq (sym (mul-mul-mul_comm (suc w) c (suc w) c))))

  scaled_root_over_scale : r / c ≡ w
  scaled_root_over_scale = le_antisymm (le_of_suc-le-suc ((div-lt_iff_lt-mul C).1 scaled_root_above)) ((le-div_iff_mul-le C).1 scaled_root_at_most)

-- ---- so the library's quotient is the root of n, its remainder lies on the same side, and both round to one value
module _ (f : Format) (n g q den : ℕ) (C : 0 < g) (Q : 0 < q) (Q_is : q ≡ 2 ^ low f) (den_is : den ≡ 2 * (2 * g) * q) where
  abbrev c : ℕ
  c = 2 * g

  abbrev N : ℕ
  N = n * (c * c)

  abbrev r : ℕ
  r = root_below (size N) N

  abbrev t : ℕ
  t = twice r (eqb (r * r) N)

  c_pos : 0 < c
  c_pos = omega (arith, C)

  lo : r * r ≤ N
  lo = (whole_part N).0

  hi : N < suc r * suc r
  hi = lt_of_lt_of_le (whole_part N).1 (le_of_eq (ap (λ (x : ℕ). x * x) (next r)))
    where
      next : (r : ℕ) → r + 1 ≡ suc r
      next r = omega arith

  quotient_is_root : t * q / den ≡ isqrt n
  quotient_is_root =
      ap (λ (x : ℕ). t * q / x) (den_is ∙ mul_comm (2 * c) q)
      ∙ sym (div-div-eq-div-mul (t * q) q (2 * c))
      ∙ ap (λ (x : ℕ). x / (2 * c)) (mul-div_cancel t Q)
      ∙ sym (div-div-eq-div-mul t 2 c)
      ∙ ap (λ (x : ℕ). x / c) (half_twice r (eqb (r * r) N))
      ∙ scaled_root_over_scale n c r c_pos lo hi

  module _ (k : ℕ) where
    abbrev u : ℕ
    u = den * 2 ^ k

    abbrev whole : ℕ
    whole = isqrt n / 2 ^ k

    -- half of the middle, times c
    abbrev h : ℕ
    h = (2 * whole + 1) * 2 ^ k * g

    abbrev M : ℕ
    M = (2 * whole + 1) * 2 ^ k

    quotient_part_is_kept : t * q / u ≡ whole
    quotient_part_is_kept = sym (div-div-eq-div-mul (t * q) den (2 ^ k)) ∙ ap (λ (x : ℕ). x / 2 ^ k) quotient_is_root

    squares_compare_alike : (o : Ordering) → Compared o (4 * n) (M * M) → Compared o N (h * h)
    squares_compare_alike o s = cmp_over o N (h * h) 4 (omega arith) (subst (λ (x : ℕ). Compared o x (h * h * 4)) left (subst (λ (y : ℕ). Compared o (4 * n * (c * c)) y) right (cmp_times o (4 * n) (M * M) (c * c) (mul-pos c_pos c_pos) s)))
      where
        left : 4 * n * (c * c) ≡ N * 4
        left = mul_assoc 4 n (c * c) ∙ mul_comm 4 N

        right : M * M * (c * c) ≡ h * h * 4
        right = mul-mul-mul_comm M M c c ∙ ap (λ (x : ℕ). x * x) (mul_left_comm M 2 g) ∙ square_of_twice h

    doubled_root_compares_alike : (o : Ordering) → Compared o t (2 * h) → Compared o (2 * (t * q)) ((2 * whole + 1) * u)
    doubled_root_compares_alike o s = subst (λ (x : ℕ). Compared o x ((2 * whole + 1) * u)) left (subst (λ (y : ℕ). Compared o (t * (2 * q)) y) right (cmp_times o t (2 * h) (2 * q) (omega (arith, Q)) s))
      where
        left : t * (2 * q) ≡ 2 * (t * q)
        left = mul_left_comm t 2 q

        right : 2 * h * (2 * q) ≡ (2 * whole + 1) * u
        right = rw den_is (simp (mul_assoc, mul_comm, mul_left_comm) refl)

    remainder_on_same_side : compare (t * q % u * 2) u ≡ compare (4 * n) (M * M)
    remainder_on_same_side = go (compare (4 * n) (M * M)) (compare_is_right (4 * n) (M * M))
      where
        go : (o : Ordering) → Compared o (4 * n) (M * M) → compare (t * q % u * 2) u ≡ o
        go o s =
            compare_of_cmp o (t * q % u * 2) u
            (compared_remainder o (t * q) whole u (t * q % u) (ap (λ (x : ℕ). x * u + t * q % u) (sym quotient_part_is_kept) ∙ div-add-mod' (t * q) u)
            (doubled_root_compares_alike o (compared_by_squares N r h (eqb (r * r) N) refl lo hi o (squares_compare_alike o s))))

    both_round_to_one_value : units f false (nearest (t * q / u) (compare (t * q % u * 2) u)) k ≡ units f false (nearest whole (compare (4 * n) (M * M))) k
    both_round_to_one_value = ap (λ (x : ℕ). units f false (nearest x (compare (t * q % u * 2) u)) k) quotient_part_is_kept ∙ ap (λ (o : Ordering). units f false (nearest whole o) k) remainder_on_same_side

  rounds_to_root : round f false t den ≡ root_of f n
  unfolding round root_of
  rounds_to_root =
      subst (λ (x : ℕ). units f false (nearest (t * x / (den * 2 ^ (size (t * x / den) - prec f))) (compare (t * x % (den * 2 ^ (size (t * x / den) - prec f)) * 2) (den * 2 ^ (size (t * x / den) - prec f)))) (size (t * x / den) - prec f) ≡ units f false (rounded f n) (dropped f n))
      Q_is
      (subst (λ (x : ℕ). units f false (nearest (t * q / (den * 2 ^ (size x - prec f))) (compare (t * q % (den * 2 ^ (size x - prec f)) * 2) (den * 2 ^ (size x - prec f)))) (size x - prec f) ≡ units f false (rounded f n) (dropped f n))
      (sym quotient_is_root)
      (both_round_to_one_value (dropped f n)))

-- ---- the machine's root

root_twice_unfolded : (N : ℕ) → root_twice N ≡ twice (root_below (size N) N) (eqb (root_below (size N) N * root_below (size N) N) N)
unfolding root_twice
root_twice_unfolded N = refl

-- the two numbers under the root, both for the same value: the library's has 4542 binary places, the definition's 2148
library_radicand_is_scaled : (m : ℕ) (e : ℤ) → T (fits binary64 (fin false (suc m) e)) → suc m * up e * 2 ^ 4542 / down e ≡ radicand binary64 (suc m) e * (2 ^ 1197 * 2 ^ 1197)
library_radicand_is_scaled m e h =
    let p = placed_in_smallest_units 1074 (suc m) e (fitting_digits_in_units binary64 false m e h).1 in
    let a = suc m * up e in
    ap (λ (x : ℕ). x / down e) (ap (λ (x : ℕ). a * x) (powers) ∙ sym (mul_assoc a (2 ^ 1074) (2 ^ 3468)) ∙ ap (λ (x : ℕ). x * 2 ^ 3468) p.1 ∙ mul_right_comm (suc m * 2 ^ p.0) (down e) (2 ^ 3468))
    ∙ mul-div_cancel (suc m * 2 ^ p.0 * 2 ^ 3468) (down_pos e)
    ∙ sym (ap (λ (x : ℕ). x * 2 ^ 1074 * (2 ^ 1197 * 2 ^ 1197)) (ap (λ (x : ℕ). x / down e) p.1 ∙ mul-div_cancel (suc m * 2 ^ p.0) (down_pos e))
    ∙ mul_assoc (suc m * 2 ^ p.0) (2 ^ 1074) (2 ^ 1197 * 2 ^ 1197) ∙ ap (λ (x : ℕ). suc m * 2 ^ p.0 * x) rest)
  where
    powers : 2 ^ 4542 ≡ 2 ^ 1074 * 2 ^ 3468
    powers = pow-add 2 1074 3468

    rest : 2 ^ 1074 * (2 ^ 1197 * 2 ^ 1197) ≡ 2 ^ 3468
    rest = refl

machine_root_of_positive : (m : ℕ) (e : ℤ) → T (fits binary64 (fin false (suc m) e)) → sqrt binary64 (fin false (suc m) e) ≡ root binary64 (fin false (suc m) e)
unfolding sqrt root
machine_root_of_positive m e h =
    ap (λ (x : ℕ). round binary64 false (root_twice x) (2 ^ 2272)) (library_radicand_is_scaled m e h)
    ∙ ap (λ (x : ℕ). round binary64 false x (2 ^ 2272)) (root_twice_unfolded (radicand binary64 (suc m) e * (2 ^ 1197 * 2 ^ 1197)))
    ∙ rounds_to_root binary64 (radicand binary64 (suc m) e) (2 ^ 1196) (2 ^ 1074) (2 ^ 2272) (pow_pos 1196) (pow_pos 1074) refl refl

exponent_of_zero : (s : Bool) (e : ℤ) → T (fits binary64 (fin s zero e)) → e ≡ ℤ.pos 0
unfolding fits
exponent_of_zero s (ℤ.pos zero) h = refl
exponent_of_zero s (ℤ.pos (suc k)) h = absurd (not_one k (eqb→eq (2 ^ suc k * 1) 1 h))
  where
    not_one : (k : ℕ) → 2 ^ suc k * 1 ≡ 1 → ⊥
    not_one k e = omega (arith, pow-suc 2 k, e)
exponent_of_zero s (ℤ.negsuc k) h = absurd (not_one k (eqb→eq (1 * 2 ^ suc k) 1 h))
  where
    not_one : (k : ℕ) → 1 * 2 ^ suc k ≡ 1 → ⊥
    not_one k e = omega (arith, pow-suc 2 k, e)

pub machine_root : (x : Float) → T (fits binary64 x) → sqrt binary64 x ≡ root binary64 x
unfolding sqrt root
machine_root nan h = refl
machine_root (inf false) h = refl
machine_root (inf true) h = refl
machine_root (fin s zero e) h = ap (λ (d : ℤ). fin s zero d) (sym (exponent_of_zero s e h))
machine_root (fin true (suc m) e) h = refl
machine_root (fin false (suc m) e) h = machine_root_of_positive m e h
