-- Reading a line: the line that the bytes would be is made from them by place alone, and it is the reading if it can be written and the bytes
-- begin as it is written. So nothing but a line's own bytes is read as that line. Definitions only.
use Rattle.std.specs.Prelude.{ℕ, zero, suc, ◌+◌, ◌*◌, ◌/◌, ◌%◌, Bool, true, false, ◌&&◌, cond, List, [], ◌∷◌, ltb, eqb, length, get_or, take, drop, Float, Ok, Err, Option, Some, None}
use Rattle.std.specs.Option.{option_map}
use Rattle.std.specs.Float.{nan, binary64}
use Rattle.std.specs.Float.Ieee.{of_bits}
use Rattle.seeds.specs.Layout.{seed_at}
use Rattle.journal.specs.declared.ScoredFields.{ScoredFields}
use Rattle.score.specs.declared.outcome.SkipReason.{SkipReason}
use Rattle.score.specs.declared.outcome.SkipReason.TheVariants.{HostFailed, BadCamera, NoMean, NoNumber}
use Rattle.journal.specs.declared.Line.{Line}
use Rattle.journal.specs.declared.Read.{Read}
use Rattle.journal.specs.declared.Read.TheVariants.{Got, End, NotALine}
use Rattle.journal.specs.Outcome.{Recorded}
use Rattle.journal.specs.Line.{line_bytes, writable}

-- ---- what the bytes at a place would be
-- a digit's value, and of any other byte some number below 16: 0 to 9 are 48 to 57, a to f are 97 to 102
unfoldable pub digit_of : ℕ → ℕ
digit_of c = (c % 16 + 9 * (c / 64)) % 16

-- the number of the first w bytes, to a base
unfoldable pub number_at : ℕ → ℕ → List ℕ → ℕ
number_at base zero s = 0
number_at base (suc w) s = base * number_at base w s + digit_of (get_or s w 0)

-- how many decimals stand here: a comma follows 1 or 2 of them, or they are 3
unfoldable pub decimal_width_at : List ℕ → ℕ
decimal_width_at s = cond (eqb (get_or s 1 0) 44) 1 (cond (eqb (get_or s 2 0) 44) 2 3)

unfoldable pub real_at : List ℕ → Float
real_at s = of_bits binary64 (number_at 16 16 s)

-- n reals, each behind a comma
unfoldable pub reals : ℕ → List ℕ → List Float
reals zero s = []
reals (suc n) s = real_at (drop 1 s) ∷ reals n (drop 17 s)

abbrev pub scored_at : List Float → ScoredFields
scored_at l = record {
  score = get_or l 0 nan;
  mean = get_or l 1 nan;
  k = record { fx = get_or l 2 nan; fy = get_or l 3 nan; cx = get_or l 4 nan; cy = get_or l 5 nan };
  p1 = get_or l 6 nan;
  p2 = get_or l 7 nan;
}

-- the skip reason of a letter
unfoldable pub reason_of : ℕ → Option SkipReason
reason_of c = cond (eqb c 72) (Some HostFailed) (cond (eqb c 67) (Some BadCamera) (cond (eqb c 69) (Some NoMean) (cond (eqb c 78) (Some NoNumber) None)))

-- the outcome, from the comma before its letter on; there is none where the letter is neither S nor a reason's
unfoldable pub outcome_at : List ℕ → Option Recorded
outcome_at s = cond (eqb (get_or s 1 0) 83) (Some (Ok (scored_at (reals 8 (drop 2 s))))) (option_map Err (reason_of (get_or s 1 0)))

-- from the round on, and from the comma before the seed on
unfoldable pub from_round : List ℕ → List ℕ
from_round s = drop (decimal_width_at s + 1) s

unfoldable pub from_seed : List ℕ → List ℕ
from_seed s = drop (decimal_width_at (from_round s)) (from_round s)

-- the line with this outcome
abbrev pub line_with : List ℕ → Recorded → Line
line_with s outcome = record {
  number = number_at 10 (decimal_width_at s) s;
  round = number_at 10 (decimal_width_at (from_round s)) (from_round s);
  seed = seed_at (reals 6 (from_seed s)) 0;
  outcome = outcome;
}

unfoldable pub unchecked_line : List ℕ → Option Line
unchecked_line s = option_map (line_with s) (outcome_at (drop 102 (from_seed s)))

-- ---- reading
-- whether s begins with w
unfoldable pub begins : List ℕ → List ℕ → Bool
begins [] s = true
begins (c ∷ w) [] = false
begins (c ∷ w) (d ∷ s) = eqb c d && begins w s

-- whether s begins with the line
unfoldable pub of_form : List ℕ → Line → Bool
of_form s l = writable l && begins (line_bytes l) s

unfoldable pub newlines : List ℕ → ℕ
newlines [] = 0
newlines (c ∷ s) = cond (eqb c 10) 1 0 + newlines s

-- the number of the line that stands at a place, from 1
abbrev pub line_number_of : List ℕ → ℕ → ℕ
line_number_of s at = newlines (take at s) + 1

-- what stands at a place of a journal: End from its end on; a line, the one that the bytes would be, and the place behind it; or the line's number
unfoldable pub read_line : List ℕ → ℕ → Read
read_line s at =
    cond (ltb at (length s))
    (elim (unchecked_line (drop at s)) [
      | Some l ↦ cond (of_form (drop at s) l) (Got l (at + length (line_bytes l))) (NotALine (line_number_of s at))
      | None ↦ NotALine (line_number_of s at)
    ])
    End

-- the place from which the next line is read: behind a line, else where it was
abbrev pub position_after : Read → ℕ → ℕ
position_after (Got l next) at = next
position_after End at = at
position_after (NotALine n) at = at

-- ---- all lines from a place on, as many as n, and what came last
pub data Ending : Type 0 where
  ended : Ending
  refused : ℕ → Ending
  unread : Ending

pub record Lines : Type 0 where
  pub lines : List Line
  pub ending : Ending

-- what comes of one answer, where r reads the rest from a place
unfoldable pub goes_on : (ℕ → Lines) → Read → Lines
goes_on r End = record { lines = []; ending = ended }
goes_on r (NotALine line) = record { lines = []; ending = refused line }
goes_on r (Got l next) = record { lines = l ∷ (r next).lines; ending = (r next).ending }

unfoldable pub read_all : ℕ → List ℕ → ℕ → Lines
read_all zero s at = record { lines = []; ending = unread }
read_all (suc n) s at = goes_on (read_all n s) (read_line s at)

-- all of a journal: every line takes a byte at least
abbrev pub read_journal : List ℕ → Lines
read_journal s = read_all (suc (length s)) s 0
