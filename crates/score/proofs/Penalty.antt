-- The theorems on specs/Penalty.antt: a scored candidate's score, beside the penalty of its tilt. Assumes nothing.
use Rattle.std.specs.Prelude.{◌≡◌}
use Rattle.std.proofs.Math.Bool.{false}
use Rattle.std.specs.Float.Ieee.{lt, is_nan}
use Rattle.camera.specs.declared.math.Pt2.{Pt2}
use Rattle.camera.specs.declared.sensor.ScheimpflugParams.{ScheimpflugParams}
use Rattle.score.specs.Penalties.{tilt_penalty}
use Rattle.score.specs.declared.outcome.Scoring.{Scoring}
use Rattle.score.specs.Facts.{ScoredFacts}
use Rattle.score.specs.Penalty.{score_not_below_tilt_penalty, tilt_penalty_is_number}

-- ---- of whatever is scored: by what holds of every scored finding, whichever camera and rows the host sent
module _ (sensor : ScheimpflugParams) (center : Pt2) (g : Scoring) (s : ScoredFacts sensor center g) where
  pub scored_not_below : lt g.score (tilt_penalty sensor) ≡ false
  scored_not_below = rw s.score_is (score_not_below_tilt_penalty g.mean g.camera sensor center s.mean_not_below)

  pub scored_tilt_penalty_is_number : is_nan (tilt_penalty sensor) ≡ false
  scored_tilt_penalty_is_number = tilt_penalty_is_number g.mean g.camera sensor center (rw s.score_is at s.score_number)
