-- The calls that follow Start, and their replies. Definitions only.
use Rattle.std.specs.Prelude.{ℕ, Bool, List, Float}
use Rattle.common.specs.declared.Refusal.{Refusal}
use Rattle.score.specs.declared.outcome.Finding.{Finding}
use Rattle.score.specs.declared.outcome.SkipReason.{SkipReason}
use Rattle.score.specs.declared.best.Candidate.{Candidate}
use Rattle.score.specs.Best.{Chosen}
use Rattle.journal.specs.declared.Counts.{Counts}
use Rattle.journal.specs.declared.Line.{Line}

-- A call, with its arguments. n is how many numbers of the lent list the host lends, from its front; it may lend too
-- few.
pub data Call : Type 0 where
  next : ℕ → Call
  seed : ℕ → Call
  answer : ℕ → Finding → List Float → List ℕ → Call
  ask : Call
  progress : Call
  stop : ℕ → Call
  last : Call
  counts : Call

-- how far a run has come: its round, the rounds asked for, how many seeds of this round are answered, how many it has,
-- and how many are answered in the whole run
pub record Progress : Type 0 where
  pub round : ℕ
  pub rounds : ℕ
  pub answered : ℕ
  pub total : ℕ
  pub in_run : ℕ

-- what is left of a round: nothing, or the floor of the seeds left and whether the round can gain nothing
pub data Rest : Type 0 where
  nothing_left : Rest
  floor : Float → Bool → Rest

-- the replies: of Next a candidate's number or Over, of the seed call its part of the lent list, of Answer Scored or
-- Skipped, of Result the winner, of the other calls what they ask for; and of each call a refusal
pub data Reply : Type 0 where
  candidate : ℕ → Reply
  over : Reply
  part : List Float → Reply
  scored : Float → Reply
  skipped : SkipReason → Reply
  result : Candidate → Reply
  bar : Progress → Reply
  stopped : Chosen → Rest → Reply
  line : Line → Reply
  no_line : Reply
  counted : Counts → Reply
  refused : Refusal → Reply
