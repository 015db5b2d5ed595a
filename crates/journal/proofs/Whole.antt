-- Whole journals: the lines that were written are read, then End; and bytes that are read to the end with no NotALine are those lines'. Assumes nothing.
use Rattle.std.specs.Prelude.{ℕ, zero, suc, ◌+◌, ◌<◌, ◌≤◌, ◌≡◌, List, [], ◌∷◌, ◌++◌, length, drop}
use Rattle.std.proofs.Common.{ap, ◌∙◌, append_assoc, arith, le-ltb, length-append, length-drop, drop_of_length-le}
use Rattle.common.specs.Each.{All}
use Rattle.journal.specs.declared.Line.{Line}
use Rattle.journal.specs.declared.Read.{Read}
use Rattle.journal.specs.declared.Read.TheVariants.{Got, End, NotALine}
use Rattle.journal.specs.Line.{line_bytes, LineFits, Writable, journal_bytes}
use Rattle.journal.specs.Reading.{read_line, Ending, ended, refused, unread, Lines, goes_on, read_all, read_journal}
use Rattle.journal.specs.Theorem.{Correct}
use Rattle.journal.proofs.Unique.{read_correct, written_line_is_read, line_length_bounds}
use Rattle.journal.specs.Theorem.{Written}

-- ---- what was written is read
read_line_at_end : (s : List ℕ) (at : ℕ) → length s ≤ at → read_line s at ≡ End
unfolding read_line
read_line_at_end s at h = rw (le-ltb at (length s) h)

read_all_at_end : (n : ℕ) (s : List ℕ) (at : ℕ) → read_line s at ≡ End → read_all (suc n) s at ≡ record { lines = []; ending = ended }
unfolding read_all goes_on
read_all_at_end n s at e = rw e

read_all_cons : (n : ℕ) (s : List ℕ) (at : ℕ) (l : Line) (next : ℕ) (ls : List Line) (f : Ending) → read_line s at ≡ Got l next → read_all n s next ≡ record { lines = ls; ending = f }
    → read_all (suc n) s at ≡ record { lines = l ∷ ls; ending = f }
unfolding read_all goes_on
read_all_cons n s at l next ls f e g = rw (e, g)

written_lines_are_read : (ls : List Line) → All LineFits ls → All Writable ls → (before : List ℕ) (n : ℕ) → length ls < n
    → read_all n (before ++ journal_bytes ls) (length before) ≡ record { lines = ls; ending = ended }
unfolding journal_bytes
written_lines_are_read [] ok can before zero h = absurd (omega arith)
written_lines_are_read [] ok can before (suc n) h = read_all_at_end n (before ++ []) (length before) (read_line_at_end (before ++ []) (length before) (omega (arith, length-append before (journal_bytes []))))
written_lines_are_read (l ∷ ls) ok can before zero h = absurd (omega arith)
written_lines_are_read (l ∷ ls) ok can before (suc n) h =
    let s = before ++ (line_bytes l ++ journal_bytes ls) in
    let e : (before ++ line_bytes l) ++ journal_bytes ls ≡ s = append_assoc before (line_bytes l) (journal_bytes ls) in
    let ih = written_lines_are_read ls ok.1 can.1 (before ++ line_bytes l) n (omega arith) in
    read_all_cons n s (length before) l (length before + length (line_bytes l)) ls ended (written_line_is_read l ok.0 can.0 before (journal_bytes ls)) (rw (e, length-append before (line_bytes l)) at ih)

lines_le_journal_bytes : (ls : List Line) → All Writable ls → length ls ≤ length (journal_bytes ls)
unfolding journal_bytes
lines_le_journal_bytes [] can = omega arith
lines_le_journal_bytes (l ∷ ls) can = omega (arith, length-append (line_bytes l) (journal_bytes ls), line_length_bounds l can.0, lines_le_journal_bytes ls can.1)

pub written_journal_is_read : (ls : List Line) → All LineFits ls → All Writable ls → read_journal (journal_bytes ls) ≡ record { lines = ls; ending = ended }
written_journal_is_read ls ok can = written_lines_are_read ls ok can [] (suc (length (journal_bytes ls))) (omega (arith, lines_le_journal_bytes ls can))

-- ---- what is read was written
-- what was read up to the end, or up to a line that was refused
abbrev Wrote : List ℕ → ℕ → Lines → Type 0
Wrote s at r = r.ending ≡ ended → Written (drop at s) r.lines

refused_is_not_ended : (k : ℕ) → refused k ≡ ended → ⊥
refused_is_not_ended k h = let z : ◌≡◌ {A = ℕ} 0 1 = cc in omega arith

unread_is_not_ended : unread ≡ ended → ⊥
unread_is_not_ended h = let z : ◌≡◌ {A = ℕ} 0 1 = cc in omega arith

lines_read_were_written : (n : ℕ) (s : List ℕ) (at : ℕ) → Wrote s at (read_all n s at)
unfolding read_all goes_on journal_bytes
lines_read_were_written zero s at = λ h. absurd (unread_is_not_ended h)
lines_read_were_written (suc n) s at = one (read_line s at) (read_correct s at) (lines_read_were_written n s)
  where
    one : (r : Read) → Correct s at r → ((next : ℕ) → Wrote s next (read_all n s next)) → Wrote s at (goes_on (read_all n s) r)
    one End t ih = λ h. record { lines_fit = tt; can_be_written = tt; bytes_are = drop_of_length-le s t }
    one (NotALine m) t ih = λ h. absurd (refused_is_not_ended m h)
    one (Got l next) t ih = λ h.
        let w = ih next h in
        record { lines_fit = (t.line_fits, w.lines_fit); can_be_written = (t.can_be_written, w.can_be_written); bytes_are = t.bytes_are ∙ ap (λ (r : List ℕ). line_bytes l ++ r) w.bytes_are }

pub lines_read_to_the_end_were_written : (s : List ℕ) → (read_journal s).ending ≡ ended → Written s (read_journal s).lines
lines_read_to_the_end_were_written s h = lines_read_were_written (suc (length s)) s 0 h

-- ---- the reading of a whole journal ends with End or with NotALine
abbrev Stops : Lines → Type 0
Stops r = r.ending ≡ unread → ⊥

read_stops : (n : ℕ) (s : List ℕ) (at : ℕ) → length s < at + n → at ≤ length s → Stops (read_all n s at)
unfolding read_all goes_on
read_stops zero s at h k = λ e. omega arith
read_stops (suc n) s at h k = one (read_line s at) (read_correct s at) (read_stops n s)
  where
    one : (r : Read) → Correct s at r → ((next : ℕ) → length s < next + n → next ≤ length s → Stops (read_all n s next)) → Stops (goes_on (read_all n s) r)
    one End t ih = λ e. let z : ◌≡◌ {A = ℕ} 0 1 = cc in omega arith
    one (NotALine j) t ih = λ e. let z : ◌≡◌ {A = ℕ} 0 1 = cc in omega arith
    one (Got l next) t ih =
        let b = line_length_bounds l t.can_be_written in
        let f = t.next_is in
        let g = ap length t.bytes_are in
        ih next (omega arith) (omega (arith, length-drop at s, length-append (line_bytes l) (drop next s)))

pub whole_stops : (s : List ℕ) → (read_journal s).ending ≡ unread → ⊥
whole_stops s = read_stops (suc (length s)) s 0 (omega arith) (omega arith)
