-- The journal and the report, as types: each line has one reading and each reading one line, for lines and for whole journals; a report is one line of at most 24
-- bytes, with one reading. `proofs/Summary.antt` proves them, and `proofs/Examples.antt` some that are computed. Definitions only.
use Rattle.std.specs.Prelude.{ℕ, suc, ◌+◌, ◌<◌, ◌≤◌, ◌≡◌, List, [], ◌∷◌, ◌++◌, map, length, take, drop, replicate, Ok, Err}
use Rattle.std.specs.Float.{nan, binary64}
use Rattle.std.specs.Float.Ieee.{of_bits}
use Rattle.common.specs.Each.{All}
use Rattle.common.specs.declared.Refusal.TheVariants.{NotWritable}
use Rattle.score.specs.declared.outcome.SkipReason.TheVariants.{HostFailed, BadCamera, NoMean, NoNumber}
use Rattle.journal.specs.declared.Counts.{Counts}
use Rattle.journal.specs.declared.Line.{Line}
use Rattle.journal.specs.declared.Read.{Read}
use Rattle.journal.specs.declared.Read.TheVariants.{Got, End, NotALine}
use Rattle.journal.specs.Line.{decimal, real, reason_letter, line_bytes, LineFits, Writable, journal_bytes}
use Rattle.journal.specs.Reading.{newlines, line_number_of, read_line, ended, refused, unread, read_journal}
use Rattle.journal.specs.Steps.{comma_fields}
use Rattle.journal.specs.Report.{total, report_bytes, report_reply, report_into}

-- ---- what is read as a line
pub record LineAt (s : List ℕ) (at next : ℕ) (l : Line) : Type 0 where
  pub can_be_written : Writable l
  pub line_fits : LineFits l
  pub next_is : next ≡ at + length (line_bytes l)
  pub bytes_are : drop at s ≡ line_bytes l ++ drop next s

-- what holds where the reader answers so
abbrev pub Correct : List ℕ → ℕ → Read → Type 0
Correct s at (Got l next) = LineAt s at next l
Correct s at End = length s ≤ at
Correct s at (NotALine n) = (n ≡ line_number_of s at) × (at < length s) × ((l : Line) (rest : List ℕ) → LineFits l → Writable l → drop at s ≡ line_bytes l ++ rest → ⊥)

-- no line that the writer takes begins here
abbrev pub NoLine : List ℕ → Type 0
NoLine s = (l : Line) (rest : List ℕ) → LineFits l → Writable l → s ≡ line_bytes l ++ rest → ⊥

-- what is read to the end was written
pub record Written (s : List ℕ) (ls : List Line) : Type 0 where
  pub lines_fit : All LineFits ls
  pub can_be_written : All Writable ls
  pub bytes_are : s ≡ journal_bytes ls

-- `LineFits l` says that the numbers of l are values of the format, as every f64 of a program is; `Writable l` is what the writer takes.
pub record JournalIsExact : Type 0 where
  -- the bytes of a line, wherever they stand and whatever follows, are read as that line, and the next place is behind them
  pub read_as_written : (l : Line) → LineFits l → Writable l → (before rest : List ℕ) → read_line (before ++ (line_bytes l ++ rest)) (length before) ≡ Got l (length before + length (line_bytes l))
  -- what is read as a line is that line's bytes, and the writer takes the line
  pub written_as_read : (s : List ℕ) (at : ℕ) (l : Line) (next : ℕ) → read_line s at ≡ Got l next → LineAt s at next l
  -- each answer: End from the end on only; 29 only where no line's bytes stand, with the line's number
  pub each_answer : (s : List ℕ) (at : ℕ) → Correct s at (read_line s at)
  -- no line's bytes begin another's
  pub no_two_alike : (l m : Line) → LineFits l → Writable l → LineFits m → Writable m → (s t : List ℕ) → line_bytes l ++ s ≡ line_bytes m ++ t → (l ≡ m) × (s ≡ t)
  pub short : (l : Line) → Writable l → (124 ≤ length (line_bytes l)) × (length (line_bytes l) ≤ 247)
  -- whole journals: the lines that were written, then End; bytes that are read to the end are those of the lines read
  pub all_read : (ls : List Line) → All LineFits ls → All Writable ls → read_journal (journal_bytes ls) ≡ record { lines = ls; ending = ended }
  pub all_written : (s : List ℕ) → (read_journal s).ending ≡ ended → Written s (read_journal s).lines
  -- a reading that doesn't end at the end ends with a 29, whose number is one more than the number of lines before
  pub reads_all : (s : List ℕ) → (read_journal s).ending ≡ unread → ⊥
  pub numbered : (s : List ℕ) (k : ℕ) → (read_journal s).ending ≡ refused k → k ≡ suc (length (read_journal s).lines)
  -- and so wherever lines stand before it
  pub counted : (ls : List Line) (rest : List ℕ) → line_number_of (journal_bytes ls ++ rest) (length (journal_bytes ls)) ≡ suc (length ls)
  -- a line that was cut off has no newline
  pub cut_off : (l : Line) (k : ℕ) → k < length (line_bytes l) → newlines (take k (line_bytes l)) ≡ 0

-- ---- the report
-- the numbers behind the first one, of which the last is the total
abbrev pub others : Counts → ℕ → List ℕ
others c sum = c.host_failed ∷ c.bad_camera ∷ c.no_mean ∷ c.no_number ∷ sum ∷ []

-- a report without its last byte
unfoldable pub report_front : Counts → List ℕ
report_front c = decimal c.scored ++ comma_fields (map decimal (others c (total c)))

-- A total above 656 is refused, so these are all the reports that are written.
pub record ReportIsExact : Type 0 where
  -- 24 bytes suffice
  pub short : (c : Counts) → total c ≤ 656 → (12 ≤ length (report_bytes c)) × (length (report_bytes c) ≤ 24)
  -- the last byte is a newline, and no other is
  pub ends : (c : Counts) → report_bytes c ≡ report_front c ++ (10 ∷ [])
  pub no_other : (c : Counts) → newlines (report_front c) ≡ 0
  -- one report has one reading
  pub no_two_alike : (c d : Counts) → total c ≤ 656 → total d ≤ 656 → report_bytes c ≡ report_bytes d → c ≡ d

-- ---- computed
abbrev pub counts_of : ℕ → ℕ → ℕ → ℕ → ℕ → Counts
counts_of s h c e n = record { scored = s; host_failed = h; bad_camera = c; no_mean = e; no_number = n }

pub record FieldsWritten : Type 0 where
  -- "0", "10", "655"; 1.0 is 3ff0000000000000 and NaN is 7ff8000000000000; H, C, E, N
  pub numbers : map decimal (0 ∷ 10 ∷ 655 ∷ []) ≡ (48 ∷ []) ∷ (49 ∷ 48 ∷ []) ∷ (54 ∷ 53 ∷ 53 ∷ []) ∷ []
  pub one : real (of_bits binary64 0x3ff0_0000_0000_0000) ≡ 51 ∷ 102 ∷ 102 ∷ replicate 13 48
  pub not_a_number : real nan ≡ 55 ∷ 102 ∷ 102 ∷ 56 ∷ replicate 12 48
  pub letters : map reason_letter (HostFailed ∷ BadCamera ∷ NoMean ∷ NoNumber ∷ []) ≡ 72 ∷ 67 ∷ 69 ∷ 78 ∷ []
  -- "0,0,0,0,0,0" and a newline, "7,1,20,300,0,328" and a newline; 24 bytes are the most
  pub nothing_yet : report_bytes (counts_of 0 0 0 0 0) ≡ 48 ∷ 44 ∷ 48 ∷ 44 ∷ 48 ∷ 44 ∷ 48 ∷ 44 ∷ 48 ∷ 44 ∷ 48 ∷ 10 ∷ []
  pub in_order : report_bytes (counts_of 7 1 20 300 0) ≡ 55 ∷ 44 ∷ 49 ∷ 44 ∷ 50 ∷ 48 ∷ 44 ∷ 51 ∷ 48 ∷ 48 ∷ 44 ∷ 48 ∷ 44 ∷ 51 ∷ 50 ∷ 56 ∷ 10 ∷ []
  pub longest : length (report_bytes (counts_of 100 100 100 100 100)) ≡ 24
  -- a total of 656 is written, 657 isn't, nor is 2^64; a buffer of 23 bytes is refused and left as it was
  pub totals : map (λ (c : Counts). report_reply c (replicate 24 0)) (counts_of 656 0 0 0 0 ∷ counts_of 600 20 20 10 6 ∷ counts_of 656 1 0 0 0 ∷ counts_of 0 0 0 0 657 ∷ []) ≡ Ok 16 ∷ Ok 19 ∷ Err NotWritable ∷ Err NotWritable ∷ []
  pub no_wrap : report_reply (counts_of 18446744073709551615 0 0 0 1) (replicate 24 0) ≡ Err NotWritable
  pub small_buffer : (report_reply (counts_of 0 0 0 0 0) (replicate 23 7) ≡ Err NotWritable) × (report_into (counts_of 0 0 0 0 0) (replicate 23 7) ≡ replicate 23 7)
