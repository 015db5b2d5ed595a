-- What a line records of an outcome: of a scored one its score, its mean and its camera, whose radial coefficients are 0 and not written;
-- of a skipped one the reason. The outcome that a line records, and what a skip number says is recorded. Definitions only.
use Rattle.std.specs.Prelude.{ℕ, cond, eqb, Result, Ok, Err}
use Rattle.common.specs.declared.Refusal.{Refusal}
use Rattle.float.specs.Literals.{plus_zero}
use Rattle.score.specs.declared.outcome.Scoring.{Scoring}
use Rattle.score.specs.declared.outcome.SkipReason.{SkipReason}
use Rattle.score.specs.Reasons.{Outcome, reason_numbered}
use Rattle.journal.specs.declared.ScoredFields.{ScoredFields}

abbrev pub Recorded : Type 0
Recorded = Result ScoredFields SkipReason

abbrev pub fields_of : Scoring → ScoredFields
fields_of s = record { score = s.score; mean = s.mean; k = s.camera.k; p1 = s.camera.dist.p1; p2 = s.camera.dist.p2 }

abbrev pub recorded_as : Outcome → Recorded
recorded_as (Ok s) = Ok (fields_of s)
recorded_as (Err reason) = Err reason

abbrev pub scoring_in : ScoredFields → Scoring
scoring_in f = record {
  camera = record { k = f.k; dist = record { k1 = plus_zero; k2 = plus_zero; k3 = plus_zero; p1 = f.p1; p2 = f.p2 } };
  mean = f.mean;
  score = f.score;
}

abbrev pub outcome_in : Recorded → Outcome
outcome_in (Ok f) = Ok (scoring_in f)
outcome_in (Err reason) = Err reason

-- 0 says that it was scored, with these fields, 1 to 4 the reason that it was skipped for; another number is refused
abbrev pub recorded_with : ℕ → ScoredFields → Result Recorded Refusal
recorded_with skipped f = cond (eqb skipped 0) (Ok (Ok f)) (elim (reason_numbered skipped) [ Ok reason ↦ Ok (Err reason) | Err e ↦ Err e ])
