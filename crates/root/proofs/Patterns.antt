-- `root` by the bits of its argument. Assumes nothing.
use Rattle.std.proofs.Common.{◌≡◌, ℕ, zero, suc, ◌+◌, ◌-◌, ◌*◌, ◌/◌, ◌%◌, ◌^◌, ◌<◌, ◌≤◌, Bool, true, false, cond, eqb, leb, sym, refl, ap, ◌∙◌, subst, ap₂, le_trans, le_of_eq, lt_of_lt_of_le, lt_irrefl, mul-le-mul_right, mod-eq_of_lt, mul_assoc, mul-pos, lt_of_not-le, mul-one, arith, le→leb, eqb→eq, leb→le, pow_pos, pow_mono, pow-add, shl_lt, Float}
use Rattle.std.specs.Float.{nan, inf, binary64}
use Rattle.std.specs.Float.Ieee.{odd, ne, neg, of_fields, of_bits, to_bits}
use lib.Dec.{not_T}
use lib.Count.{count_leading_zeros, leading_top}
use lib.Ieee.Exact.{odd_sign}
use lib.Ieee.Bits.{is_true, is_false, cond_no}
use Rattle.float.specs.Order.{ne_self}
use Rattle.float.specs.Nan.{is_nan_gives_nan}
use Rattle.root.specs.Root.{root_of, root}
use Rattle.root.specs.ByValue.{root_value, root_below}

-- ---- the values that are found by a test

pub root_at_nan : (x : Float) → ne x x ≡ true → root binary64 x ≡ nan
unfolding root
root_at_nan x t = rw (is_nan_gives_nan x (sym (ne_self x) ∙ t))

pub root_at_zero : (x : Float) → of_bits binary64 (to_bits binary64 x) ≡ x → to_bits binary64 x ≡ 0 → of_bits binary64 0 ≡ root binary64 x
unfolding root of_bits
root_at_zero x e z = subst (λ (y : Float). of_bits binary64 0 ≡ root binary64 y) (ap (of_bits binary64) (sym z) ∙ e) refl

pub root_at_minus_zero : (x : Float) → of_bits binary64 (to_bits binary64 x) ≡ x → to_bits binary64 x ≡ 2 ^ 63 → neg (of_bits binary64 0) ≡ root binary64 x
unfolding root of_bits neg
root_at_minus_zero x e z = subst (λ (y : Float). neg (of_bits binary64 0) ≡ root binary64 y) (ap (of_bits binary64) (sym z) ∙ e) refl

-- ---- by the fields of a binary64's pattern

abbrev field : ℕ → ℕ
field b = b % 2 ^ 63 / 2 ^ 52

of_bits_by_fields : (b : ℕ) (s : Bool) (x t : ℕ) → leb (2 ^ 63) b ≡ s → field b ≡ x → b % 2 ^ 52 ≡ t → of_bits binary64 b ≡ of_fields binary64 s x t
unfolding of_bits
of_bits_by_fields b s x t p q r =
    ap (λ (z : Bool). of_fields binary64 z (field b) (b % 2 ^ 52)) p ∙ ap (λ (z : ℕ). of_fields binary64 s z (b % 2 ^ 52)) q ∙ ap (of_fields binary64 s x) r

no_sign_below_two_pow_63 : (b : ℕ) → b < 2 ^ 63 → leb (2 ^ 63) b ≡ false
no_sign_below_two_pow_63 b h = is_false (leb (2 ^ 63) b) (not_T (leb (2 ^ 63) b) (λ t. no (leb→le (2 ^ 63) b t)))
  where
    no : 2 ^ 63 ≤ b → ⊥
    no g = omega arith

-- a subnormal value
pub root_of_subnormal_pattern : (b : ℕ) → 0 < b → b < 2 ^ 52 → root binary64 (of_bits binary64 b) ≡ root_of binary64 (b * 2 ^ 1074)
unfolding of_fields
root_of_subnormal_pattern b p h =
    ap (root binary64) (of_bits_by_fields b false 0 b (no_sign_below_two_pow_63 b (omega arith)) (omega arith) (omega arith))
    ∙ root_value binary64 (odd 53 false b 0 1074) (b * 1) (odd_sign 53 false b 0 1074) (omega arith)
    ∙ ap (λ (x : ℕ). root_of binary64 (x * 2 ^ 1074)) (mul-one b)

-- a normal value
pub root_of_normal_pattern : (b : ℕ) → 2 ^ 52 ≤ b → b < 0x7ff0_0000_0000_0000 → root binary64 (of_bits binary64 b) ≡ root_of binary64 ((b % 2 ^ 52 + 2 ^ 52) * 2 ^ (b / 2 ^ 52 + 1073))
unfolding of_fields
root_of_normal_pattern b l h =
    let x = b / 2 ^ 52 - 1 in
    let q = 2 ^ 52 + b % 2 ^ 52 in
    ap (root binary64) (of_bits_by_fields b false (suc x) (b % 2 ^ 52) (no_sign_below_two_pow_63 b (omega arith)) (omega arith) refl)
    ∙ ap (root binary64) (cond_no (eqb (suc x) 0x7ff) (cond (eqb (b % 2 ^ 52) 0) (inf false) nan) (odd 53 false q x 1074) (not_T (eqb (suc x) 0x7ff) (λ t. no x (omega arith) (eqb→eq (suc x) 0x7ff t))))
    ∙ root_value binary64 (odd 53 false q x 1074) (q * 2 ^ x) (odd_sign 53 false q x 1074) (mul-pos (omega arith) (pow_pos x))
    ∙ ap (root_of binary64) (mul_assoc q (2 ^ x) (2 ^ 1074) ∙ ap (λ (z : ℕ). q * z) (sym (pow-add 2 x 1074)) ∙ ap₂ (λ (y z : ℕ). y * 2 ^ z) (omega arith) (omega arith))
  where
    no : (x : ℕ) → x < 0x7fe → suc x ≡ 0x7ff → ⊥
    no x l e = omega arith

-- an infinity and the NaNs
root_of_infinity_or_nan : (s : Bool) → root binary64 (cond s (inf false) nan) ≡ cond s (inf false) nan
unfolding root
root_of_infinity_or_nan true = refl
root_of_infinity_or_nan false = refl

pub root_of_top_pattern : (b : ℕ) → 0x7ff0_0000_0000_0000 ≤ b → b < 2 ^ 63 → root binary64 (of_bits binary64 b) ≡ of_bits binary64 b
unfolding of_fields
root_of_top_pattern b l h = subst (λ (x : Float). root binary64 x ≡ x) (sym same) (root_of_infinity_or_nan (eqb (b % 2 ^ 52) 0))
  where
    same : of_bits binary64 b ≡ cond (eqb (b % 2 ^ 52) 0) (inf false) nan
    same = of_bits_by_fields b false 0x7ff (b % 2 ^ 52) (no_sign_below_two_pow_63 b h) (omega arith) refl

-- a pattern with a sign, other than that of -0
root_of_fields_with_sign : (x t : ℕ) → 0 < x + t → root binary64 (of_fields binary64 true x t) ≡ nan
unfolding of_fields
root_of_fields_with_sign zero t p = root_below binary64 (odd 53 true t 0 1074) (t * 1) (odd_sign 53 true t 0 1074) (omega arith)
root_of_fields_with_sign (suc x) t p = go (eqb (suc x) 0x7ff) (eqb t 0)
  where
    go : (y z : Bool) → root binary64 (cond y (cond z (inf true) nan) (odd 53 true (2 ^ 52 + t) x 1074)) ≡ nan
    go true true = unfold root in refl
    go true false = unfold root in refl
    go false z = root_below binary64 (odd 53 true (2 ^ 52 + t) x 1074) ((2 ^ 52 + t) * 2 ^ x) (odd_sign 53 true (2 ^ 52 + t) x 1074) (mul-pos (omega arith) (pow_pos x))

pub root_of_pattern_with_sign : (b : ℕ) → 2 ^ 63 < b → b < 2 ^ 64 → root binary64 (of_bits binary64 b) ≡ nan
root_of_pattern_with_sign b l h =
    ap (root binary64) (of_bits_by_fields b true (field b) (b % 2 ^ 52) (is_true (leb (2 ^ 63) b) (le→leb (2 ^ 63) b (omega arith))) refl refl)
    ∙ root_of_fields_with_sign (field b) (b % 2 ^ 52) (omega arith)

-- ---- a subnormal's digits, moved up to the place of the leading one
module _ (b : ℕ) (p : 0 < b) (h : b < 2 ^ 52) where
  abbrev lz : ℕ
  lz = count_leading_zeros 64 b

  abbrev top_digit : (j : ℕ) × (lz + suc j ≡ 64) × (2 ^ j ≤ b) × (b < 2 ^ suc j)
  top_digit = leading_top 64 b p (omega arith)

  digit_lt : top_digit.0 < 52
  digit_lt = lt_of_not-le (λ (g : 52 ≤ top_digit.0). lt_irrefl b (lt_of_lt_of_le h (le_trans (pow_mono g) top_digit.2)))

  pub leading_zeros_in_range : (12 ≤ lz) × (lz ≤ 63)
  leading_zeros_in_range = (omega (arith, digit_lt, top_digit.1), omega (arith, top_digit.1))

  leading_digit_moves_to_52 : top_digit.0 + (lz - 11) ≡ 52
  leading_digit_moves_to_52 = omega (arith, top_digit.1, leading_zeros_in_range)

  pub moved_lo : 2 ^ 52 ≤ b * 2 ^ (lz - 11)
  moved_lo = le_trans (le_of_eq (ap (λ (x : ℕ). 2 ^ x) (sym leading_digit_moves_to_52) ∙ pow-add 2 top_digit.0 (lz - 11))) (mul-le-mul_right (2 ^ (lz - 11)) top_digit.2)

  pub moved_hi : b * 2 ^ (lz - 11) < 2 ^ 53
  moved_hi = lt_of_lt_of_le (shl_lt (suc top_digit.0) (lz - 11) top_digit.3) (pow_mono {i = suc top_digit.0 + (lz - 11)} {j = 53} (omega (arith, leading_digit_moves_to_52)))

  pub moving_loses_no_digit : b * 2 ^ (lz - 11) % 2 ^ 64 ≡ b * 2 ^ (lz - 11)
  moving_loses_no_digit = mod-eq_of_lt (omega (arith, moved_hi))

  pub root_moved : root_of binary64 (b * 2 ^ (lz - 11) % 2 ^ 64 * 2 ^ (1074 - (lz - 11))) ≡ root binary64 (of_bits binary64 b)
  root_moved =
      ap (λ (x : ℕ). root_of binary64 (x * 2 ^ (1074 - (lz - 11)))) moving_loses_no_digit
      ∙ ap (root_of binary64) (mul_assoc b (2 ^ (lz - 11)) (2 ^ (1074 - (lz - 11))) ∙ ap (λ (x : ℕ). b * x) (sym (pow-add 2 (lz - 11) (1074 - (lz - 11))) ∙ ap (λ (x : ℕ). 2 ^ x) (back (lz - 11) (omega (arith, leading_zeros_in_range)))))
      ∙ sym (root_of_subnormal_pattern b p h)
    where
      back : (z : ℕ) → z ≤ 1074 → z + (1074 - z) ≡ 1074
      back z h = omega arith
