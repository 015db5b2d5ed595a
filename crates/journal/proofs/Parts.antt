-- The parts of a line, stored one after the other. Assumes nothing.
use Rattle.std.proofs.Common.{ℕ, Ok, Err, ◌+◌, ◌*◌, ◌≤◌, ◌≡◌, refl, sym, ap, ◌∙◌, Bool, false, not, ◌||◌, List, [], ◌∷◌, ◌++◌, map, append_assoc, arith, ltb-false, ltb, Float, length, replicate, length-append}
use borrow.Author.Tests.{not-false}
use lib.Seq.{append_snoc}
use Rattle.common.specs.Tests.{both_false}
use Rattle.seeds.specs.Layout.{six}
use Rattle.journal.specs.declared.ScoredFields.{ScoredFields}
use Rattle.score.specs.declared.outcome.SkipReason.{SkipReason}
use Rattle.journal.specs.Outcome.{Recorded}
use Rattle.journal.specs.declared.Line.{Line}
use Rattle.journal.specs.Line.{decimal_width, decimal, real, reason_letter, eight, outcome_fields, rest_of_line, line_bytes, writable, Writable}
use Rattle.journal.specs.Steps.{comma_fields, Stored}
use Rattle.journal.proofs.DigitLaws.{decimal_length}
use Rattle.journal.proofs.FieldLaws.{real_length, rest_of_line_append, rest_of_line_length}
use Rattle.journal.proofs.Unique.{line_length, line_length_bounds}
use Rattle.journal.specs.Writing.{refuses_line, write_reply, write_into}
use Rattle.journal.proofs.Stores.{stored_append, stored_same_bytes, stored_front}

-- ---- number and round
module _ (number round n : ℕ) (o o₁ o₂ o₃ : List ℕ) (en : n ≡ decimal_width number) where
  pub head_stored : Stored o 0 (decimal number) o₁ → Stored o₁ n (44 ∷ []) o₂ → Stored o₂ (n + 1) (decimal round) o₃ → Stored o 0 (decimal number ++ 44 ∷ decimal round) o₃
  head_stored a b c =
      let d = decimal number in
      let e = decimal round in
      let k = decimal_length number in
      let s = stored_append d (44 ∷ []) o o₁ o₂ 0 n a b (omega arith) in
      let t = stored_append (d ++ (44 ∷ [])) e o o₂ o₃ 0 (n + 1) s c (omega (arith, length-append d (44 ∷ []))) in
      stored_same_bytes o 0 ((d ++ (44 ∷ [])) ++ e) (d ++ 44 ∷ e) o₃ (append_snoc d 44 e) t

-- ---- the outcome
comma_fields_length : (xs : List Float) → length (comma_fields (map real xs)) ≡ 17 * length xs
unfolding comma_fields
comma_fields_length [] = refl
comma_fields_length (x ∷ xs) = omega (arith, length-append (real x) (comma_fields (map real xs)), real_length x, comma_fields_length xs)

-- a letter, fields and the newline behind it
letter_and_fields_end_with_newline : (a b : ℕ) (fs : List (List ℕ)) → rest_of_line ((b ∷ []) ∷ (fs ++ [])) ≡ ((44 ∷ b ∷ []) ++ comma_fields fs) ++ (10 ∷ [])
unfolding rest_of_line
letter_and_fields_end_with_newline a b fs = ap (λ (r : List ℕ). 44 ∷ b ∷ r) (rest_of_line_append fs [])

module _ (at w : ℕ) (b : ℕ) (fs : List (List ℕ)) (k : length (comma_fields fs) ≡ w) (o o₁ o₂ o₃ o₄ : List ℕ) where
  letter_and_fields_stored : Stored o at (44 ∷ []) o₁ → Stored o₁ (at + 1) (b ∷ []) o₂ → Stored o₂ (at + 2) (comma_fields fs) o₃ → Stored o₃ (at + (2 + w)) (10 ∷ []) o₄
      → (length (rest_of_line ((b ∷ []) ∷ (fs ++ []))) ≡ 3 + w) × Stored o at (rest_of_line ((b ∷ []) ∷ (fs ++ []))) o₄
  letter_and_fields_stored p q r s =
      let t = stored_append (44 ∷ []) (b ∷ []) o o₁ o₂ at (at + 1) p q refl in
      let u = stored_append (44 ∷ b ∷ []) (comma_fields fs) o o₂ o₃ at (at + 2) t r refl in
      let v = stored_append ((44 ∷ b ∷ []) ++ comma_fields fs) (10 ∷ []) o o₃ o₄ at (at + (2 + w)) u s (omega arith) in (
        ap length (letter_and_fields_end_with_newline 0 b fs) ∙ omega (arith, length-append ((44 ∷ b ∷ []) ++ comma_fields fs) (10 ∷ [])),
        stored_same_bytes o at (((44 ∷ b ∷ []) ++ comma_fields fs) ++ (10 ∷ [])) (rest_of_line ((b ∷ []) ∷ (fs ++ []))) o₄ (sym (letter_and_fields_end_with_newline 0 b fs)) v,
      )

module _ (at : ℕ) (o o₁ o₂ o₃ o₄ : List ℕ) (out : Recorded) where
  pub scored_stored : (r : ScoredFields) (xs : List Float) → out ≡ Ok r → xs ≡ eight r
      → Stored o at (44 ∷ []) o₁ → Stored o₁ (at + 1) (83 ∷ []) o₂ → Stored o₂ (at + 2) (comma_fields (map real xs)) o₃ → Stored o₃ (at + 138) (10 ∷ []) o₄
      → (at + 139 ≡ at + length (rest_of_line (outcome_fields out))) × Stored o at (rest_of_line (outcome_fields out)) o₄
  unfolding outcome_fields
  scored_stored r xs e f p q s t =
      let z = letter_and_fields_stored at 136 83 (map real (eight r)) (comma_fields_length (eight r)) o o₁ o₂ o₃ o₄ p q (rw f at s) t in
      rw e (omega (arith, z.0), z.1)

  pub skipped_stored : (n : SkipReason) (b : ℕ) → out ≡ Err n → b ≡ reason_letter n
      → Stored o at (44 ∷ []) o₁ → Stored o₁ (at + 1) (b ∷ []) o₂ → Stored o₂ (at + 2) (comma_fields (replicate 8 (45 ∷ []))) o₃ → Stored o₃ (at + 18) (10 ∷ []) o₄
      → (at + 19 ≡ at + length (rest_of_line (outcome_fields out))) × Stored o at (rest_of_line (outcome_fields out)) o₄
  unfolding outcome_fields comma_fields
  skipped_stored n b e f p q s t =
      let z = letter_and_fields_stored at 16 (reason_letter n) (replicate 8 (45 ∷ [])) refl o o₁ o₂ o₃ o₄ p (rw f at q) s t in
      rw e (omega (arith, z.0), z.1)

-- ---- the whole line
line_bytes_of_parts : (l : Line) → ((decimal l.number ++ 44 ∷ decimal l.round) ++ comma_fields (map real (six l.seed))) ++ rest_of_line (outcome_fields l.outcome) ≡ line_bytes l
unfolding line_bytes rest_of_line
line_bytes_of_parts l =
    let d = decimal l.number in
    let e = decimal l.round in
    let a = comma_fields (map real (six l.seed)) in
    let b = rest_of_line (outcome_fields l.outcome) in
    append_assoc (d ++ 44 ∷ e) a b ∙ append_assoc d (44 ∷ e) (a ++ b) ∙ ap (λ (r : List ℕ). d ++ 44 ∷ (e ++ r)) (sym (rest_of_line_append (map real (six l.seed)) (outcome_fields l.outcome)))

-- what the writer's test says, and what is known where it passes
pub refuses_line_by_test : (l : Line) (o : List ℕ) (b : Bool) → b ≡ writable l → (ltb (length o) 256 || not b) ≡ refuses_line l o
unfolding refuses_line
refuses_line_by_test l o b e = rw e

pub taken_line_has_room_and_is_writable : (l : Line) (o : List ℕ) → refuses_line l o ≡ false → (256 ≤ length o) × Writable l
unfolding refuses_line
taken_line_has_room_and_is_writable l o e = let b = both_false (ltb (length o) 256) (not (writable l)) e in (ltb-false (length o) 256 b.0, not-false (writable l) b.1)

module _ (l : Line) (o o₁ o₂ o₃ : List ℕ) (taken : refuses_line l o ≡ false) where
  stored_line_is_written : (n : ℕ) → n ≡ length (line_bytes l) → Stored o 0 (line_bytes l) o₃ → (Ok n ≡ write_reply l o) × (o₃ ≡ write_into l o)
  unfolding write_reply write_into
  stored_line_is_written n e s =
      let k = taken_line_has_room_and_is_writable l o taken in
      let b = line_length_bounds l k.1 in
      (rw (taken, e), rw taken (stored_front (line_bytes l) o o₃ (omega arith) s))

  pub line_stored : (at n : ℕ) (xs : List Float) → at ≡ decimal_width l.number + (decimal_width l.round + 1) → xs ≡ six l.seed
      → Stored o 0 (decimal l.number ++ 44 ∷ decimal l.round) o₁ → Stored o₁ at (comma_fields (map real xs)) o₂
      → n ≡ at + 102 + length (rest_of_line (outcome_fields l.outcome)) → Stored o₂ (at + 102) (rest_of_line (outcome_fields l.outcome)) o₃
      → (Ok n ≡ write_reply l o) × (o₃ ≡ write_into l o)
  line_stored at n xs e f p q g r =
      let h = decimal l.number ++ 44 ∷ decimal l.round in
      let a = comma_fields (map real (six l.seed)) in
      let w = rest_of_line (outcome_fields l.outcome) in
      let k = decimal_length l.number in
      let m = decimal_length l.round in
      let hl = length-append (decimal l.number) (44 ∷ decimal l.round) in
      let s = stored_append h a o o₁ o₂ 0 at p (rw f at q) (omega arith) in
      let t = stored_append (h ++ a) w o o₂ o₃ 0 (at + 102) s r (omega (arith, length-append h a, comma_fields_length (six l.seed))) in
      stored_line_is_written n (omega (arith, line_length l, rest_of_line_length (outcome_fields l.outcome))) (stored_same_bytes o 0 ((h ++ a) ++ w) (line_bytes l) o₃ (line_bytes_of_parts l) t)
