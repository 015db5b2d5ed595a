-- A line whose reason is a number: the line that it is, if it is one, what the writer replies to it, and what it leaves of
-- the lent buffer. Definitions only.
use Rattle.std.specs.Prelude.{ℕ, List, [], Float, Result, Ok, Err}
use Rattle.common.specs.Each.{All}
use Rattle.seeds.specs.Layout.{six}
use Rattle.journal.specs.Line.{eight, Fits}
use Rattle.common.specs.declared.Refusal.{Refusal}
use Rattle.score.specs.Reasons.{reason_numbered}
use Rattle.journal.specs.declared.Line.{Line}
use Rattle.journal.specs.declared.NumberedLine.{NumberedLine}
use Rattle.journal.specs.declared.ScoredFields.{ScoredFields}
use Rattle.journal.specs.Outcome.{Recorded}
use Rattle.journal.specs.Writing.{write_reply, write_into}

-- 1 to 4 are the reasons' numbers; another one is refused, as a line that can't be written
abbrev pub outcome_numbered : Result ScoredFields ℕ → Result Recorded Refusal
outcome_numbered (Ok f) = Ok (Ok f)
outcome_numbered (Err n) = elim (reason_numbered n) [ Ok reason ↦ Ok (Err reason) | Err e ↦ Err e ]

abbrev pub line_numbered : NumberedLine → Result Line Refusal
line_numbered l = elim (outcome_numbered l.outcome) [
  | Ok outcome ↦ Ok (record { number = l.number; round = l.round; seed = l.seed; outcome = outcome })
  | Err e ↦ Err e
]

abbrev pub numbered_reply : NumberedLine → List ℕ → Result ℕ Refusal
numbered_reply l out = elim (line_numbered l) [ Ok line ↦ write_reply line out | Err e ↦ Err e ]

-- where the line is refused, the buffer as it was
abbrev pub numbered_into : NumberedLine → List ℕ → List ℕ
numbered_into l out = elim (line_numbered l) [ Ok line ↦ write_into line out | Err e ↦ out ]

-- such a line's numbers are values of the format, also where its reason's number is none
abbrev pub numbered_reals : Result ScoredFields ℕ → List Float
numbered_reals (Ok f) = eight f
numbered_reals (Err n) = []

pub record NumberedFits (l : NumberedLine) : Type 0 where
  pub seed_fits : All Fits (six l.seed)
  pub outcome_fits : All Fits (numbered_reals l.outcome)
