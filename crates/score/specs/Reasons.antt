-- Why a finding is skipped, as numbers that other languages are told, and an outcome: scored, or skipped for a reason. Definitions only.
use Rattle.std.specs.Prelude.{ℕ, cond, eqb, Result, Ok, Err}
use Rattle.common.specs.declared.Refusal.{Refusal}
use Rattle.common.specs.declared.Refusal.TheVariants.{NotWritable}
use Rattle.score.specs.declared.outcome.Scoring.{Scoring}
use Rattle.score.specs.declared.outcome.SkipReason.{SkipReason}
use Rattle.score.specs.declared.outcome.SkipReason.TheVariants.{HostFailed, BadCamera, NoMean, NoNumber}

abbrev pub reason_number : SkipReason → ℕ
reason_number HostFailed = 1
reason_number BadCamera = 2
reason_number NoMean = 3
reason_number NoNumber = 4

-- the reason of a number; of one that is no reason's, the refusal of a line that has it
abbrev pub reason_numbered : ℕ → Result SkipReason Refusal
reason_numbered n = cond (eqb n 1) (Ok HostFailed) (cond (eqb n 2) (Ok BadCamera) (cond (eqb n 3) (Ok NoMean) (cond (eqb n 4) (Ok NoNumber) (Err NotWritable))))

abbrev pub Outcome : Type 0
Outcome = Result Scoring SkipReason
