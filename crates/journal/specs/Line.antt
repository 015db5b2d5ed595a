-- A line of the journal as a value and as bytes. Definitions only.
use Rattle.std.specs.Prelude.{ℕ, zero, suc, ◌+◌, ◌/◌, ◌%◌, ◌≡◌, Bool, true, not, ◌&&◌, cond, List, [], ◌∷◌, ◌++◌, map, T, ltb, leb, replicate, Float, Ok, Err}
use Rattle.std.specs.Float.{binary64}
use Rattle.std.specs.Float.Ieee.{is_nan, fits}
use Rattle.common.specs.Each.{All}
use Rattle.float.specs.Float.{bits_of}
use Rattle.seeds.specs.Layout.{six}
use Rattle.journal.specs.declared.ScoredFields.{ScoredFields}
use Rattle.score.specs.declared.outcome.SkipReason.{SkipReason}
use Rattle.score.specs.declared.outcome.SkipReason.TheVariants.{HostFailed, BadCamera, NoMean, NoNumber}
use Rattle.journal.specs.declared.Line.{Line}
use Rattle.journal.specs.Outcome.{Recorded}

-- ---- the bytes of a field
abbrev pub newline : ℕ
newline = 10

abbrev pub comma : ℕ
comma = 44

abbrev pub minus_sign : ℕ
minus_sign = 45

-- a digit: 0 to 9 are 48 to 57, a to f are 97 to 102
unfoldable pub digit_byte : ℕ → ℕ
digit_byte d = cond (ltb d 10) (48 + d) (87 + d)

-- w digits of n to a base, from the highest down
unfoldable pub digits : ℕ → ℕ → ℕ → List ℕ
digits base zero n = []
digits base (suc w) n = digits base w (n / base) ++ (digit_byte (n % base) ∷ [])

-- decimal without leading zeros, of a number below 1000
unfoldable pub decimal_width : ℕ → ℕ
decimal_width n = cond (ltb n 10) 1 (cond (ltb n 100) 2 3)

unfoldable pub decimal : ℕ → List ℕ
decimal n = digits 10 (decimal_width n) n

-- a real: the 16 hexadecimal digits of its bits, which for any NaN are 7ff8000000000000
unfoldable pub real : Float → List ℕ
real x = digits 16 16 (bits_of x)

-- S for scored; H, C, E, N for the skip reasons 1 to 4
abbrev pub scored_letter : ℕ
scored_letter = 83

unfoldable pub reason_letter : SkipReason → ℕ
reason_letter HostFailed = 72
reason_letter BadCamera = 67
reason_letter NoMean = 69
reason_letter NoNumber = 78

-- ---- fields parted by commas, and a newline at the end
-- what stands behind a field, where these fields follow it
unfoldable pub rest_of_line : List (List ℕ) → List ℕ
rest_of_line [] = newline ∷ []
rest_of_line (f ∷ fs) = comma ∷ f ++ rest_of_line fs

abbrev pub line_of : List (List ℕ) → List ℕ
line_of [] = newline ∷ []
line_of (f ∷ fs) = f ++ rest_of_line fs

-- ---- the line: number, round, the seed's six numbers, outcome, score, mean, fx, fy, cx, cy, p1, p2
abbrev pub eight : ScoredFields → List Float
eight s = s.score ∷ s.mean ∷ s.k.fx ∷ s.k.fy ∷ s.k.cx ∷ s.k.cy ∷ s.p1 ∷ s.p2 ∷ []

-- S and the eight numbers, or the reason's letter and eight minus signs
unfoldable pub outcome_fields : Recorded → List (List ℕ)
outcome_fields (Ok s) = (scored_letter ∷ []) ∷ map real (eight s)
outcome_fields (Err r) = (reason_letter r ∷ []) ∷ replicate 8 (minus_sign ∷ [])

unfoldable pub line_bytes : Line → List ℕ
line_bytes l = line_of (decimal l.number ∷ decimal l.round ∷ map real (six l.seed) ++ outcome_fields l.outcome)

-- a whole journal: its lines, one after the other
unfoldable pub journal_bytes : List Line → List ℕ
journal_bytes [] = []
journal_bytes (l ∷ ls) = line_bytes l ++ journal_bytes ls

-- ---- what can be written: number at most 655, round at most 16, no score that is NaN
unfoldable pub recordable : Recorded → Bool
recordable (Ok s) = not (is_nan s.score)
recordable (Err r) = true

unfoldable pub writable : Line → Bool
writable l = leb l.number 655 && leb l.round 16 && recordable l.outcome

abbrev pub Writable : Line → Type 0
Writable l = writable l ≡ true

-- ---- a line whose numbers are values of the format, as every f64 of a program is
abbrev pub Fits : Float → Type 0
Fits x = T (fits binary64 x)

abbrev pub recorded_numbers : Recorded → List Float
recorded_numbers (Ok s) = eight s
recorded_numbers (Err r) = []

pub record LineFits (l : Line) : Type 0 where
  pub seed_fits : All Fits (six l.seed)
  pub outcome_fits : All Fits (recorded_numbers l.outcome)
