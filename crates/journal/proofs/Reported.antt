-- The parts of a report, stored one after the other, and the test before them. Assumes nothing.
use Rattle.std.proofs.Common.{ℕ, Ok, Err, ◌+◌, ◌≤◌, ◌≡◌, sym, ap, false, List, [], ◌∷◌, ◌++◌, map, arith, rules, le-ltb, ltb-false, ltb, length, length-append}
use Rattle.std.specs.Option.{ok_or}
use Rattle.common.specs.Tests.{both_false, case}
use Rattle.common.specs.declared.Refusal.TheVariants.{NotWritable}
use Rattle.journal.specs.declared.Counts.{Counts}
use Rattle.journal.specs.Line.{decimal_width, decimal}
use Rattle.journal.specs.Steps.{comma_fields, Stored}
use Rattle.journal.specs.Report.{total, small_total, report_bytes, refuses_report, report_reply, report_into}
use Rattle.journal.proofs.DigitLaws.{decimal_length}
use Rattle.journal.specs.Theorem.{others, report_front}
use Rattle.journal.proofs.ReportLaws.{report_ends_with_newline, report_length_bounds}
use Rattle.journal.proofs.Stores.{stored_append, stored_same_bytes, stored_front}

-- ---- the report
pub report_taken : (c : Counts) (o : List ℕ) → 24 ≤ length o → ltb 656 (total c) ≡ false → refuses_report c o ≡ false
unfolding refuses_report
report_taken c o e f = simp (le-ltb (length o) 24 e, f)

pub taken_report_has_room_and_small_total : (c : Counts) (o : List ℕ) → refuses_report c o ≡ false → (24 ≤ length o) × (total c ≤ 656)
unfolding refuses_report
taken_report_has_room_and_small_total c o e = let b = both_false (ltb (length o) 24) (ltb 656 (total c)) e in (ltb-false (length o) 24 b.0, ltb-false 656 (total c) b.1)

-- the sum that is given is the total
pub given_sum_is_total : (c : Counts) (sum : ℕ) → Ok sum ≡ ok_or (small_total c) NotWritable → (ltb 656 (total c) ≡ false) × (sum ≡ total c)
given_sum_is_total c sum e =
    case (ltb 656 (total c))
    (λ t. let f : Ok sum ≡ Err NotWritable = rw t at e in search rules)
    (λ t. let f : Ok sum ≡ Ok (total c) = rw t at e in (t, cc))

module _ (c : Counts) (o o₁ o₂ o₃ : List ℕ) (taken : refuses_report c o ≡ false) where
  stored_report_is_written : (n : ℕ) → n ≡ length (report_bytes c) → Stored o 0 (report_bytes c) o₃ → (Ok n ≡ report_reply c o) × (o₃ ≡ report_into c o)
  unfolding report_reply report_into
  stored_report_is_written n e s =
      let k = taken_report_has_room_and_small_total c o taken in
      let b = report_length_bounds c k.1 in
      (rw (taken, e), rw taken (stored_front (report_bytes c) o o₃ (omega arith) s))

  pub report_stored : (at end sum : ℕ) → at ≡ decimal_width c.scored → sum ≡ total c → end ≡ at + length (comma_fields (map decimal (others c sum)))
      → Stored o 0 (decimal c.scored) o₁ → Stored o₁ at (comma_fields (map decimal (others c sum))) o₂ → Stored o₂ end (10 ∷ []) o₃
      → (Ok (end + 1) ≡ report_reply c o) × (o₃ ≡ report_into c o)
  unfolding report_front
  report_stored at end sum e f g p q r =
      let d = decimal c.scored in
      let a = comma_fields (map decimal (others c (total c))) in
      let k = decimal_length c.scored in
      let l = length-append d a in
      let m : end ≡ at + length a = rw f at g in
      let s = stored_append d a o o₁ o₂ 0 at p (rw f at q) (omega arith) in
      let t = stored_append (d ++ a) (10 ∷ []) o o₂ o₃ 0 end s r (omega arith) in
      stored_report_is_written (end + 1) (omega (arith, ap length (report_ends_with_newline c), length-append (d ++ a) (10 ∷ []))) (stored_same_bytes o 0 ((d ++ a) ++ (10 ∷ [])) (report_bytes c) o₃ (sym (report_ends_with_newline c)) t)
