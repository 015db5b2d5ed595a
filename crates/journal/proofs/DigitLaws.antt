-- Digits written and read back, over the base and the width: once for the 16 hexadecimal digits of a real and for decimals. Assumes nothing.
use Prim.Native.Nat.{ℕ, zero, suc, ◌+◌, ◌*◌, ◌/◌, ◌%◌, ◌^◌, ◌<◌, ◌≤◌}
use Rattle.std.specs.Prelude.{◌≡◌, refl, false, List, [], ◌∷◌, ◌++◌, ltb, eqb, length, get_or}
use Rattle.std.proofs.Common.{sym, ◌∙◌, append_assoc, div-lt_iff_lt-mul, pow-suc, mul-le-mul_right, arith, ltb-true, ne_eqb, length-append}
use Rattle.std.proofs.Math.Nat.{mod-lt, div-add-mod, pow-zero}
use Rattle.std.proofs.Math.Seq.{get_or_at}
use Rattle.common.specs.Table.{table_at}
use Rattle.common.specs.Tests.{case}
use Rattle.journal.specs.Line.{digit_byte, digits, decimal_width, decimal}
use Rattle.journal.specs.Reading.{digit_of, number_at, decimal_width_at}

-- ---- one digit: antt computes all sixteen
pub digit_read_back : (d : ℕ) → d < 16 → digit_of (digit_byte d) ≡ d
unfolding digit_of digit_byte
digit_read_back d h = sym (table_at (λ (e : ℕ). digit_of (digit_byte e)) 16 d 0 h) ∙ table_at (λ (e : ℕ). e) 16 d 0 h

-- no digit is a comma
pub digit_no_comma : (d : ℕ) → eqb (digit_byte d) 44 ≡ false
unfolding digit_byte
digit_no_comma d = case (ltb d 10) (λ e. simp e (ne_eqb (48 + d) 44 (λ h. omega arith))) (λ e. simp e (ne_eqb (87 + d) 44 (λ h. omega arith)))

pub digit_of_lt_16 : (c : ℕ) → digit_of c < 16
unfolding digit_of
digit_of_lt_16 c = mod-lt (c % 16 + 9 * (c / 64)) (omega arith)

-- ---- w digits
pub digits_length : (base w n : ℕ) → length (digits base w n) ≡ w
unfolding digits
digits_length base zero n = refl
digits_length base (suc w) n = omega (arith, length-append (digits base w (n / base)) (digit_byte (n % base) ∷ []), digits_length base w (n / base))

-- the last of the digits stands behind the others
digits_suc_append : (base w n : ℕ) (s : List ℕ) → digits base (suc w) n ++ s ≡ digits base w (n / base) ++ digit_byte (n % base) ∷ s
unfolding digits
digits_suc_append base w n s = append_assoc (digits base w (n / base)) (digit_byte (n % base) ∷ []) s

module _ (base : ℕ) (pos : 0 < base) (low : base ≤ 16) where
  number_at_of_digits_suc : (w n : ℕ) (s : List ℕ) → number_at base w (digits base w (n / base) ++ digit_byte (n % base) ∷ s) ≡ n / base
      → number_at base (suc w) (digits base (suc w) n ++ s) ≡ n
  unfolding number_at
  number_at_of_digits_suc w n s ih =
      let k : n % base < base = mod-lt n pos in
      rw (digits_suc_append base w n s, ih, get_or_at (digits base w (n / base)) (digit_byte (n % base)) s 0 w (digits_length base w (n / base)), digit_read_back (n % base) (omega arith)) (div-add-mod n base)

  pub number_at_of_digits : (w n : ℕ) (s : List ℕ) → n < base ^ w → number_at base w (digits base w n ++ s) ≡ n
  unfolding number_at digits
  number_at_of_digits zero n s h = omega (arith, pow-zero base)
  number_at_of_digits (suc w) n s h = number_at_of_digits_suc w n s (number_at_of_digits w (n / base) (digit_byte (n % base) ∷ s) ((div-lt_iff_lt-mul pos).1 (rw (pow-suc base w) at h)))

-- what was read fits as many hexadecimal digits
pub number_at_lt_pow_16 : (base w : ℕ) (s : List ℕ) → base ≤ 16 → number_at base w s < 16 ^ w
unfolding number_at
number_at_lt_pow_16 base zero s h = omega arith
number_at_lt_pow_16 base (suc w) s h =
    omega (arith, pow-suc 16 w, number_at_lt_pow_16 base w s h, digit_of_lt_16 (get_or s w 0), mul-le-mul_right (number_at base w s) h)

-- ---- decimals, below 1000
-- as many of them as were written stand before the comma
decimal_width_at_of_digits : (w n : ℕ) (s : List ℕ) → 1 ≤ w → w ≤ 3 → decimal_width_at (digits 10 w n ++ 44 ∷ s) ≡ w
unfolding decimal_width_at digits
decimal_width_at_of_digits zero n s h k = absurd (omega arith)
decimal_width_at_of_digits (suc zero) n s h k = refl
decimal_width_at_of_digits (suc (suc zero)) n s h k = simp digit_no_comma
decimal_width_at_of_digits (suc (suc (suc zero))) n s h k = simp digit_no_comma
decimal_width_at_of_digits (suc (suc (suc (suc w)))) n s h k = absurd (omega arith)

pub record DecimalWidth (n w : ℕ) : Type 0 where
  pub some : 1 ≤ w
  pub few : w ≤ 3
  pub room : n < 10 ^ w

pub decimal_width_fits : (n : ℕ) → n < 1000 → DecimalWidth n (decimal_width n)
unfolding decimal_width
decimal_width_fits n h =
    case (ltb n 10) (λ e. let k : n < 10 = ltb-true n 10 e in simp e (record { some = omega arith; few = omega arith; room = omega arith })) (λ e.
    case (ltb n 100) (λ f. let k : n < 100 = ltb-true n 100 f in simp (e, f) (record { some = omega arith; few = omega arith; room = omega arith })) (λ f.
    simp (e, f) (record { some = omega arith; few = omega arith; room = omega arith })))

pub decimal_length : (n : ℕ) → length (decimal n) ≡ decimal_width n
unfolding decimal
decimal_length n = digits_length 10 (decimal_width n) n

module _ (n : ℕ) (h : n < 1000) (s : List ℕ) where
  pub decimal_width_read_back : decimal_width_at (decimal n ++ 44 ∷ s) ≡ decimal_width n
  unfolding decimal
  decimal_width_read_back = let d = decimal_width_fits n h in decimal_width_at_of_digits (decimal_width n) n s d.some d.few

  pub decimal_read_back : number_at 10 (decimal_width n) (decimal n ++ 44 ∷ s) ≡ n
  unfolding decimal
  decimal_read_back = number_at_of_digits 10 (omega arith) (omega arith) (decimal_width n) n (44 ∷ s) (decimal_width_fits n h).room
