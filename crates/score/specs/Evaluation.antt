-- What Answer refuses of a finding, and the outcome of one that it takes. Definitions only.
use Rattle.std.specs.Prelude.{ℕ, ◌*◌, Bool, not, ◌||◌, cond, List, [], ◌∷◌, ◌++◌, eqb, ltb, leb, length, Float, Result, Ok, Err, ⊤}
use Rattle.std.specs.List.{list_any}
use Rattle.std.specs.Float.Ieee.{is_nan}
use Rattle.common.specs.declared.Refusal.{Refusal}
use Rattle.common.specs.declared.Refusal.TheVariants.{BadRows, TiltTooLarge}
use Rattle.common.specs.Checks.{Check, ◌when◌, first_refusal}
use Rattle.float.specs.Float.{is_finite}
use Rattle.trig.specs.Series.{sines, cosines, series_of}
use Rattle.trig.specs.Answer.{tilt_too_large}
use Rattle.camera.specs.declared.math.Pt2.{Pt2}
use Rattle.camera.specs.declared.sensor.ScheimpflugParams.{ScheimpflugParams}
use Rattle.score.specs.declared.pinhole.PinholeCamera.{PinholeCamera}
use Rattle.score.specs.Camera.{damped_camera, valid_camera}
use Rattle.score.specs.Penalties.{score_of}
use Rattle.score.specs.Rows.{rows_of, tilt_matrix, error_sum, mean_of}
use Rattle.camera.specs.declared.sensor.TiltTrig.{TiltTrig}
use Rattle.score.specs.declared.errors.ErrorSum.{ErrorSum}
use Rattle.score.specs.declared.outcome.SolvedCamera.{SolvedCamera}
use Rattle.score.specs.declared.outcome.Scoring.{Scoring}
use Rattle.score.specs.declared.outcome.Finding.{Finding}
use Rattle.score.specs.declared.outcome.Finding.TheVariants.{Failed, Solved}
use Rattle.score.specs.declared.outcome.SkipReason.TheVariants.{HostFailed, BadCamera, NoMean, NoNumber}
use Rattle.score.specs.Reasons.{Outcome}

-- a flag above 1
unfoldable pub any_above_one : List ℕ → Bool
any_above_one flags = list_any (λ flag. ltb 1 flag) flags

-- ---- what is refused of a finding
-- For Solved: 13 where there are more than 1,024 flags, the rows aren't four numbers a flag, or a flag is above 1.
abbrev pub row_checks : List Float → List ℕ → List Check
row_checks rows flags = (BadRows when ltb 1024 (length flags)) ∷ (BadRows when not (eqb (length rows) (4 * length flags))) ∷ (BadRows when any_above_one flags) ∷ []

-- After 13: 27 where a tilt of the seed is NaN or beyond 0.5 in size.
unfoldable pub solved_refusal : ScheimpflugParams → List Float → List ℕ → Result ⊤ Refusal
solved_refusal sensor rows flags = first_refusal (row_checks rows flags ++ ((TiltTooLarge when (tilt_too_large sensor.tilt_x || tilt_too_large sensor.tilt_y)) ∷ []))

-- For Failed neither rows nor tilts are read.
unfoldable pub finding_refusal : Finding → ScheimpflugParams → List Float → List ℕ → Result ⊤ Refusal
finding_refusal Failed sensor rows flags = Ok tt
finding_refusal (Solved c) sensor rows flags = solved_refusal sensor rows flags

-- ---- the outcome
-- sine and cosine of the seed's tilts, by the series
unfoldable pub trig_of : ScheimpflugParams → TiltTrig
trig_of t = record {
  sin_x = series_of sines t.tilt_x;
  cos_x = series_of cosines t.tilt_x;
  sin_y = series_of sines t.tilt_y;
  cos_y = series_of cosines t.tilt_y;
}

abbrev pub solved_at : PinholeCamera → ScheimpflugParams → SolvedCamera
solved_at c t = record { camera = c; trig = trig_of t }

-- the errors of the rows that count, projected with the damped camera: their sum, and how many there are
unfoldable pub errors_with : SolvedCamera → List Float → List ℕ → ErrorSum
errors_with s rows flags = error_sum (damped_camera s.camera) (tilt_matrix s.trig) (rows_of rows flags)

-- their mean
unfoldable pub mean_with : SolvedCamera → List Float → List ℕ → Float
mean_with s rows flags = mean_of (errors_with s rows flags)

-- enough count: counted times 100 is at least the share, a whole per cent, times all rows
unfoldable pub enough : ℕ → ℕ → ℕ → Bool
enough share counted all = leb (share * all) (counted * 100)

-- The share is of all rows, also of those behind the camera and of those whose error isn't finite: each has a flag.
unfoldable pub enough_with : ℕ → SolvedCamera → List Float → List ℕ → Bool
enough_with share s rows flags = enough share (errors_with s rows flags).count (length flags)

-- the finding as it is scored
unfoldable pub scoring_of : SolvedCamera → ScheimpflugParams → Pt2 → List Float → List ℕ → Scoring
scoring_of s sensor center rows flags =
    let camera = damped_camera s.camera in
    let mean = mean_with s rows flags in
    record { camera = camera; mean = mean; score = score_of mean camera sensor center }

-- a score that isn't a number is reason 4; an infinite one is a score
unfoldable pub scored_as : Scoring → Outcome
scored_as g = cond (is_nan g.score) (Err NoNumber) (Ok g)

-- The camera is damped, then checked (reason 2), and the rows are projected. A mean over too few of the rows is reason
-- 3, and so is one that isn't finite.
unfoldable pub evaluated : ℕ → SolvedCamera → ScheimpflugParams → Pt2 → List Float → List ℕ → Outcome
evaluated share s sensor center rows flags =
    cond (not (valid_camera (damped_camera s.camera))) (Err BadCamera)
    (cond (not (enough_with share s rows flags)) (Err NoMean)
    (cond (not (is_finite (mean_with s rows flags))) (Err NoMean) (scored_as (scoring_of s sensor center rows flags))))

-- Failed is reason 1. A solved camera is evaluated with the seed's tilts.
unfoldable pub outcome_of : ℕ → Finding → ScheimpflugParams → Pt2 → List Float → List ℕ → Outcome
outcome_of share Failed sensor center rows flags = Err HostFailed
outcome_of share (Solved c) sensor center rows flags = evaluated share (solved_at c sensor) sensor center rows flags

-- ---- what the mean rests on: sum and count of a solved finding's errors, refused as Answer refuses the finding
unfoldable pub error_count_of : PinholeCamera → ScheimpflugParams → List Float → List ℕ → Result ErrorSum Refusal
error_count_of c sensor rows flags = elim (solved_refusal sensor rows flags) [ Ok _ ↦ Ok (errors_with (solved_at c sensor) rows flags) | Err r ↦ Err r ]
