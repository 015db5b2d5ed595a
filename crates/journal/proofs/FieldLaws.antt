-- Fields parted by commas, written and read back; the lengths of them. Assumes nothing.
use Rattle.std.specs.Prelude.{ℕ, suc, ◌+◌, ◌*◌, ◌≡◌, length, drop, Float}
use Rattle.std.proofs.Math.Path.{refl}
use Rattle.std.proofs.Common.{sym, ap, ◌∙◌, arith, length-append, drop_at, drop-drop}
use mathlib.Core.List.{List, [], ◌∷◌, ◌++◌, map, append_assoc}
use Rattle.float.specs.Float.{bits_of}
use Rattle.float.specs.Bits.{bits_lt_two_pow_64, reading_bits_gives_value}
use Rattle.common.specs.Each.{All}
use Rattle.journal.specs.Line.{real, rest_of_line, Fits}
use Rattle.journal.specs.Reading.{real_at, reals}
use Rattle.journal.specs.Steps.{comma_fields}
use Rattle.journal.proofs.DigitLaws.{digits_length, number_at_of_digits}

-- ---- one real
module _ (x : Float) (h : Fits x) where
  pub real_read_back : (s : List ℕ) → real_at (real x ++ s) ≡ x
  unfolding real_at real
  real_read_back s = rw (number_at_of_digits 16 (omega arith) (omega arith) 16 (bits_of x) s (omega (arith, bits_lt_two_pow_64 x h))) (reading_bits_gives_value x h)

pub real_length : (x : Float) → length (real x) ≡ 16
unfolding real
real_length x = digits_length 16 16 (bits_of x)

-- ---- fields parted by commas
-- behind a field: a comma, the next field, and what stands behind that
pub rest_of_line_cons_append : (f : List ℕ) (fs : List (List ℕ)) (s : List ℕ) → rest_of_line (f ∷ fs) ++ s ≡ 44 ∷ f ++ (rest_of_line fs ++ s)
unfolding rest_of_line
rest_of_line_cons_append f fs s = ap (λ (r : List ℕ). 44 ∷ r) (append_assoc f (rest_of_line fs) s)

-- past a field of n bytes with its comma
pub drop_past_field : (f : List ℕ) (fs : List (List ℕ)) (s : List ℕ) (n : ℕ) → length f ≡ n → drop (suc n) (rest_of_line (f ∷ fs) ++ s) ≡ rest_of_line fs ++ s
drop_past_field f fs s n e = rw (rest_of_line_cons_append f fs s) (drop_at f (rest_of_line fs ++ s) n e)

-- the reals xs, and other fields behind them
module _ (fs : List (List ℕ)) (s : List ℕ) where
  drop_past_real : (x : Float) (xs : List Float) → drop 17 (rest_of_line (map real (x ∷ xs) ++ fs) ++ s) ≡ rest_of_line (map real xs ++ fs) ++ s
  drop_past_real x xs = drop_past_field (real x) (map real xs ++ fs) s 16 (real_length x)

  reals_cons_read_back : (x : Float) (xs : List Float) → Fits x → reals (length xs) (rest_of_line (map real xs ++ fs) ++ s) ≡ xs
      → reals (suc (length xs)) (rest_of_line (map real (x ∷ xs) ++ fs) ++ s) ≡ x ∷ xs
  unfolding reals
  reals_cons_read_back x xs h ih = rw (drop_past_real x xs, ih, rest_of_line_cons_append (real x) (map real xs ++ fs) s, real_read_back x h (rest_of_line (map real xs ++ fs) ++ s))

  pub reals_read_back : (xs : List Float) → All Fits xs → reals (length xs) (rest_of_line (map real xs ++ fs) ++ s) ≡ xs
  unfolding reals
  reals_read_back [] h = refl
  reals_read_back (x ∷ xs) h = reals_cons_read_back x xs h.0 (reals_read_back xs h.1)

  pub drop_past_reals : (xs : List Float) → drop (17 * length xs) (rest_of_line (map real xs ++ fs) ++ s) ≡ rest_of_line fs ++ s
  drop_past_reals [] = refl
  drop_past_reals (x ∷ xs) =
      let e : 17 * suc (length xs) ≡ 17 + 17 * length xs = omega arith in
      rw e (sym (drop-drop (17 * length xs) 17 (rest_of_line (map real (x ∷ xs) ++ fs) ++ s)) ∙ ap (drop (17 * length xs)) (drop_past_real x xs) ∙ drop_past_reals xs)

pub rest_of_line_append : (fs gs : List (List ℕ)) → rest_of_line (fs ++ gs) ≡ comma_fields fs ++ rest_of_line gs
unfolding comma_fields rest_of_line
rest_of_line_append [] gs = refl
rest_of_line_append (f ∷ fs) gs = rw (rest_of_line_append fs gs) (ap (λ (r : List ℕ). 44 ∷ r) (sym (append_assoc f (comma_fields fs) (rest_of_line gs))))

-- ---- lengths: a byte for each field's separator
unfoldable pub rest_width : List (List ℕ) → ℕ
rest_width [] = 1
rest_width (f ∷ fs) = suc (length f) + rest_width fs

pub rest_of_line_length : (fs : List (List ℕ)) → length (rest_of_line fs) ≡ rest_width fs
unfolding rest_of_line rest_width
rest_of_line_length [] = refl
rest_of_line_length (f ∷ fs) = omega (arith, length-append f (rest_of_line fs), rest_of_line_length fs)

pub rest_width_of_reals : (xs : List Float) (fs : List (List ℕ)) → rest_width (map real xs ++ fs) ≡ 17 * length xs + rest_width fs
unfolding rest_width
rest_width_of_reals [] fs = omega arith
rest_width_of_reals (x ∷ xs) fs = omega (arith, real_length x, rest_width_of_reals xs fs)
