-- From the whole root of a number of 105 or 106 digits to the value that `root_of` names and its bits. Assumes nothing.
use Rattle.std.proofs.Common.{◌≡◌, ℕ, zero, suc, ◌+◌, ◌-◌, ◌*◌, ◌/◌, ◌^◌, ◌<◌, ◌≤◌, Bool, true, false, cond, not, T, ltb, sym, ap, ◌∙◌, subst, le_trans, le_of_eq, lt_of_lt_of_le, le_of_suc-le-suc, lt_irrefl, mul-le-mul_right, mul_assoc, div-lt_iff_lt-mul, le_antisymm, mul-lt-mul_of_pos_right, mul-pos, lt_of_not-le, le-div_iff_mul-le, mul-div_cancel, add-one, arith, ltb→lt, lt→ltb, nltb→le, pow_pos, pow_mono, pow-add, shl_lt}
use Rattle.std.specs.Float.{inf, Format, binary64}
use Rattle.std.specs.Float.Ieee.{prec, emax, low, size, nearest, odd, units, fits, to_bits, of_bits}
use Prim.Native.Nat.{compare, Ordering}
use native.Mathlib.Nat.{mul-mul-mul_comm}
use lib.Ieee.Digits.{size-lt, size-le}
use lib.Ieee.Fits.{odd-fits}
use lib.Ieee.Exact.{units_val}
use lib.Ieee.Bits.{of_bits-to_bits}
use Rattle.root.specs.Root.{isqrt, root_of}
use Rattle.root.specs.NearestRoot.{NearestRoot}
use Rattle.root.specs.ByValue.{to_bits_of_value}
use Rattle.root.specs.Compare.{compare_lt, compare_gt}
use Rattle.root.specs.IntegerRoot.{isqrt_ge, isqrt_lt, square_mono, square_lt_back, four_pow}

-- ---- sizes and quotients from bounds

pub size_between_powers : (n a : ℕ) → 2 ^ a ≤ n → n < 2 ^ suc a → size n ≡ suc a
size_between_powers n a lo hi =
    le_antisymm (size-le n (suc a) hi) (lt_of_not-le (λ (g : size n ≤ a). lt_irrefl n (lt_of_lt_of_le (size-lt n) (le_trans (pow_mono g) lo))))

pub quotient_between_multiples : (w u r : ℕ) → 0 < u → r * u ≤ w → w < suc r * u → w / u ≡ r
quotient_between_multiples w u r p lo hi = le_antisymm (le_of_suc-le-suc ((div-lt_iff_lt-mul p).1 hi)) ((le-div_iff_mul-le p).1 lo)

-- ---- `root_of` at v * u * u, for the root r of v with the rest t
module _ (f : Format) (v k r t : ℕ) (P : 0 < prec f) (e : r * r + t ≡ v) (T≤ : t ≤ 2 * r) (lo : 2 ^ (prec f - 1) ≤ r) (hi : r < 2 ^ prec f) where
  abbrev u : ℕ
  u = 2 ^ k

  abbrev n : ℕ
  n = v * (u * u)

  square_u : (a : ℕ) → a * u * (a * u) ≡ a * a * (u * u)
  square_u a = mul-mul-mul_comm a u a u

  multiple_at_most_root : r * u ≤ isqrt n
  multiple_at_most_root = isqrt_ge n (r * u) (le_trans (le_of_eq (square_u r)) (mul-le-mul_right (u * u) (omega arith)))

  root_below_next_multiple : isqrt n < suc r * u
  root_below_next_multiple = isqrt_lt n (suc r * u) (lt_of_lt_of_le (mul-lt-mul_of_pos_right {m = v} {n = suc r * suc r} (omega arith) (mul-pos (pow_pos k) (pow_pos k))) (le_of_eq (sym (square_u (suc r)))))

  quotient_is_whole_root : isqrt n / u ≡ r
  quotient_is_whole_root = quotient_between_multiples (isqrt n) u r (pow_pos k) multiple_at_most_root root_below_next_multiple

  dropped_digits : size (isqrt n) - prec f ≡ k
  dropped_digits = less (prec f) k (size (isqrt n)) P
      (size_between_powers (isqrt n) (prec f - 1 + k)
      (le_trans (le_of_eq (pow-add 2 (prec f - 1) k)) (le_trans (mul-le-mul_right u lo) multiple_at_most_root))
      (lt_of_lt_of_le root_below_next_multiple (le_trans (mul-le-mul_right u hi) (le_of_eq (sym (pow-add 2 (prec f) k) ∙ ap (λ (x : ℕ). 2 ^ x) (grow (prec f) k P))))))
    where
      less : (p k z : ℕ) → 0 < p → z ≡ suc (p - 1 + k) → z - p ≡ k
      less p k z P e = omega arith

      grow : (p k : ℕ) → 0 < p → p + k ≡ suc (p - 1 + k)
      grow p k P = omega arith

  -- `root_of` from its w on, with the quotient and the digits as they are
  root_of_by_quotient : root_of f n ≡ units f false (nearest r (compare (4 * n) ((2 * r + 1) * u * ((2 * r + 1) * u)))) k
  unfolding root_of
  root_of_by_quotient =
      ap (λ (j : ℕ). units f false (nearest (isqrt n / 2 ^ j) (compare (4 * n) ((2 * (isqrt n / 2 ^ j) + 1) * 2 ^ j * ((2 * (isqrt n / 2 ^ j) + 1) * 2 ^ j)))) j) dropped_digits
      ∙ ap (λ (x : ℕ). units f false (nearest x (compare (4 * n) ((2 * x + 1) * u * ((2 * x + 1) * u)))) k) quotient_is_whole_root

  four_n : 4 * n ≡ 4 * v * (u * u)
  four_n = sym (mul_assoc 4 v (u * u))

  pub root_rounds_down : t ≤ r → root_of f n ≡ units f false r k
  root_rounds_down h =
      root_of_by_quotient
      ∙ ap (λ (o : Ordering). units f false (nearest r o) k)
      (compare_lt (4 * n) ((2 * r + 1) * u * ((2 * r + 1) * u))
      (subst (λ (x : ℕ). 4 * n < x) (sym (square_u (2 * r + 1))) (subst (λ (x : ℕ). x < (2 * r + 1) * (2 * r + 1) * (u * u)) (sym four_n)
      (mul-lt-mul_of_pos_right {m = 4 * v} {n = (2 * r + 1) * (2 * r + 1)} (omega arith) (mul-pos (pow_pos k) (pow_pos k))))))

  pub root_rounds_up : r < t → root_of f n ≡ units f false (suc r) k
  root_rounds_up h =
      root_of_by_quotient
      ∙ ap (λ (o : Ordering). units f false (nearest r o) k)
      (compare_gt (4 * n) ((2 * r + 1) * u * ((2 * r + 1) * u))
      (subst (λ (x : ℕ). x < 4 * n) (sym (square_u (2 * r + 1))) (subst (λ (x : ℕ). (2 * r + 1) * (2 * r + 1) * (u * u) < x) (sym four_n)
      (mul-lt-mul_of_pos_right {m = (2 * r + 1) * (2 * r + 1)} {n = 4 * v} (omega arith) (mul-pos (pow_pos k) (pow_pos k))))))

-- ---- the bits of q * 2 ^ k smallest values, for a q with all the digits of the format

units_fit : (f : Format) (q k : ℕ) → q < 2 ^ prec f → q * 2 ^ k < 2 ^ (low f + suc (emax f)) → T (fits f (units f false q k))
unfolding units
units_fit f q k h l = go (ltb (q * 2 ^ k) (2 ^ (low f + suc (emax f)))) (lt→ltb (q * 2 ^ k) (2 ^ (low f + suc (emax f))) l)
  where
    go : (b : Bool) → T b → T (fits f (cond b (odd (suc (prec f)) false q k (low f)) (inf false)))
    go true t = odd-fits f (suc (prec f)) false q k (lt_of_lt_of_le h (pow_mono (omega arith))) (omega arith) l
    go false t = absurd t

pub bits_of_units : (q k : ℕ) → 2 ^ 52 ≤ q → q < 2 ^ 53 → k < 2045 → of_bits binary64 (k * 2 ^ 52 + q) ≡ units binary64 false q k
bits_of_units q k lo hi K =
    let a = q * 2 ^ k in
    let l : 2 ^ (52 + k) ≤ a = le_trans (le_of_eq (pow-add 2 52 k)) (mul-le-mul_right (2 ^ k) lo) in
    let h : a < 2 ^ suc (52 + k) = lt_of_lt_of_le (shl_lt 53 k hi) (pow_mono (omega arith)) in
    let fine : a < 2 ^ (low binary64 + suc (emax binary64)) = lt_of_lt_of_le h (pow_mono {i = suc (52 + k)} {j = low binary64 + suc (emax binary64)} (omega arith)) in
    let z : size a - 53 ≡ k = omega (arith, size_between_powers a (52 + k) l h) in
    let b : to_bits binary64 (units binary64 false q k) ≡ k * 2 ^ 52 + q =
    to_bits_of_value binary64 (units binary64 false q k) a (units_val binary64 false q k fine)
    ∙ ap (λ (j : ℕ). j * 2 ^ 52 + a / 2 ^ j) z
    ∙ ap (λ (x : ℕ). k * 2 ^ 52 + x) (mul-div_cancel q (pow_pos k)) in
    ap (of_bits binary64) (sym b) ∙ of_bits-to_bits binary64 (units binary64 false q k) (units_fit binary64 q k hi fine)

-- what `rounded` needs of its pattern b
abbrev pub Answer : ℕ → ℕ → ℕ → Type 0
Answer m h b = (b < 0x7ff0_0000_0000_0000) × (of_bits binary64 b ≡ root_of binary64 (m * 4 ^ h))

-- ---- the answers of `rounded`, for the root r of m * 4 ^ 26 with the remainder t
module _ (m h r t : ℕ) (m-lo : 2 ^ 52 ≤ m) (m-hi : m ≤ 2 ^ 54 - 2) (h-lo : 26 ≤ h) (h-hi : h < 1560) (e : r * r + t ≡ m * 4 ^ 26) (T≤ : t ≤ 2 * r) where
  abbrev k : ℕ
  k = h - 26

  abbrev v : ℕ
  v = m * 4 ^ 26

  root_lo : 2 ^ 52 ≤ r
  root_lo = le_of_suc-le-suc (square_lt_back (2 ^ 52) (suc r) (omega arith))

  root_hi : r < 2 ^ 53
  root_hi = square_lt_back r (2 ^ 53) (omega arith)

  -- with a remainder above the root, the root is not the greatest
  next_root_below : r < t → suc r < 2 ^ 53
  next_root_below g = lt_of_not-le (λ (l : 2 ^ 53 ≤ suc r). no l (square_mono (2 ^ 53 - 1) r (omega arith)))
    where
      no : 2 ^ 53 ≤ suc r → (2 ^ 53 - 1) * (2 ^ 53 - 1) ≤ r * r → ⊥
      no l s = omega arith

  radicand_is_scaled : m * 4 ^ h ≡ v * (2 ^ k * 2 ^ k)
  radicand_is_scaled =
      ap (λ (x : ℕ). m * 4 ^ x) (parts h h-lo)
      ∙ ap (λ (x : ℕ). m * x) (pow-add 4 26 k ∙ ap (λ (x : ℕ). 4 ^ 26 * x) (four_pow k))
      ∙ sym (mul_assoc m (4 ^ 26) (2 ^ k * 2 ^ k))
    where
      parts : (h : ℕ) → 26 ≤ h → h ≡ 26 + (h - 26)
      parts h l = omega arith

  answer_of_root_rounded_down : t ≤ r → Answer m h (k * 2 ^ 52 + r)
  answer_of_root_rounded_down g = (
    omega (arith, root_hi),
    bits_of_units r k root_lo root_hi (omega arith) ∙ sym (root_rounds_down binary64 v k r t (omega arith) e T≤ root_lo root_hi g) ∙ ap (root_of binary64) (sym radicand_is_scaled),
  )

  answer_of_root_rounded_up : r < t → Answer m h (k * 2 ^ 52 + (r + 1))
  answer_of_root_rounded_up g = (
    omega (arith, next_root_below g),
    ap (λ (x : ℕ). of_bits binary64 (k * 2 ^ 52 + x)) (add-one r)
        ∙ bits_of_units (suc r) k (omega (arith, root_lo)) (next_root_below g) (omega arith)
        ∙ sym (root_rounds_up binary64 v k r t (omega arith) e T≤ root_lo root_hi g)
        ∙ ap (root_of binary64) (sym radicand_is_scaled),
  )

-- the same for the whole number nearest to the root: the root's whole part or one more
pub answer_of_nearest_root : (m h q : ℕ) → 2 ^ 52 ≤ m → m ≤ 2 ^ 54 - 2 → 26 ≤ h → h < 1560 → NearestRoot (m * 4 ^ 26) q → Answer m h ((h - 26) * 2 ^ 52 + q)
answer_of_nearest_root m h q m-lo m-hi h-lo h-hi n = go (ltb (m * 4 ^ 26) (q * q)) (ltb→lt (m * 4 ^ 26) (q * q)) (nltb→le (m * 4 ^ 26) (q * q))
  where
    up : (q : ℕ) → NearestRoot (m * 4 ^ 26) q → m * 4 ^ 26 < q * q → Answer m h ((h - 26) * 2 ^ 52 + q)
    up zero n g = absurd (omega (arith, g))
    up (suc r) n g = subst (λ (x : ℕ). Answer m h ((h - 26) * 2 ^ 52 + x)) (add-one r) (answer_of_root_rounded_up m h r (m * 4 ^ 26 - r * r) m-lo m-hi h-lo h-hi (omega (arith, n, g)) (omega (arith, n, g)) (omega (arith, n, g)))

    go : (b : Bool) → (T b → m * 4 ^ 26 < q * q) → (T (not b) → q * q ≤ m * 4 ^ 26) → Answer m h ((h - 26) * 2 ^ 52 + q)
    go true g l = up q n (g tt)
    go false g l =
        let k = l tt in
        answer_of_root_rounded_down m h q (m * 4 ^ 26 - q * q) m-lo m-hi h-lo h-hi (omega (arith, k)) (omega (arith, n, k)) (omega (arith, n, k))
