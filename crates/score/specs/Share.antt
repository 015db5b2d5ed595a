-- What it is to rest on a share of the rows, and the outcome that asks for no share. Definitions only.
use Rattle.std.specs.Prelude.{ℕ, ◌*◌, ◌≤◌, ◌≡◌, not, cond, List, length, Float, Err}
use Rattle.float.specs.Float.{is_finite}
use Rattle.camera.specs.declared.math.Pt2.{Pt2}
use Rattle.camera.specs.declared.sensor.ScheimpflugParams.{ScheimpflugParams}
use Rattle.score.specs.Camera.{damped_camera, valid_camera}
use Rattle.score.specs.Evaluation.{solved_at, errors_with, mean_with, scoring_of, scored_as}
use Rattle.score.specs.declared.outcome.SolvedCamera.{SolvedCamera}
use Rattle.score.specs.declared.outcome.Finding.{Finding}
use Rattle.score.specs.declared.outcome.Finding.TheVariants.{Failed, Solved}
use Rattle.score.specs.declared.outcome.SkipReason.TheVariants.{HostFailed, BadCamera, NoMean}
use Rattle.score.specs.Reasons.{Outcome}

-- ---- a mean of these rows over at least this share of them, in whole numbers
pub record RestsOn (share : ℕ) (s : SolvedCamera) (rows : List Float) (flags : List ℕ) (mean : Float) : Type 0 where
  pub mean_is : mean ≡ mean_with s rows flags
  pub enough_counted : share * length flags ≤ (errors_with s rows flags).count * 100

-- ---- the outcome that asks for no share
abbrev pub evaluated_without_share : SolvedCamera → ScheimpflugParams → Pt2 → List Float → List ℕ → Outcome
evaluated_without_share s sensor center rows flags =
    cond (not (valid_camera (damped_camera s.camera))) (Err BadCamera)
    (cond (not (is_finite (mean_with s rows flags))) (Err NoMean) (scored_as (scoring_of s sensor center rows flags)))

abbrev pub outcome_without_share : Finding → ScheimpflugParams → Pt2 → List Float → List ℕ → Outcome
outcome_without_share Failed sensor center rows flags = Err HostFailed
outcome_without_share (Solved c) sensor center rows flags = evaluated_without_share (solved_at c sensor) sensor center rows flags
