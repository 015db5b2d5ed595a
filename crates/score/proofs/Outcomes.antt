-- The five ways that a solved finding goes, and what is known of one that was scored. Assumes nothing.
use Rattle.std.specs.Prelude.{ℕ, ◌≡◌, true, false, List, Float, Ok, Err}
use Rattle.std.proofs.Common.{sym, ◌∙◌}
use Rattle.std.specs.Float.Ieee.{is_nan}
use Rattle.common.specs.Tests.{case}
use Rattle.common.specs.Results.{ok_values_equal, refusal_is_no_value}
use Rattle.float.specs.Float.{is_finite}
use Rattle.camera.specs.declared.math.Pt2.{Pt2}
use Rattle.camera.specs.declared.sensor.ScheimpflugParams.{ScheimpflugParams}
use Rattle.score.specs.declared.pinhole.PinholeCamera.{PinholeCamera}
use Rattle.score.specs.Camera.{damped_camera, valid_camera}
use Rattle.score.specs.Penalties.{score_of}
use Rattle.score.specs.Evaluation.{enough_with, mean_with, scoring_of, scored_as, evaluated}
use Rattle.score.specs.declared.outcome.SolvedCamera.{SolvedCamera}
use Rattle.score.specs.declared.outcome.Scoring.{Scoring}
use Rattle.score.specs.declared.outcome.SkipReason.TheVariants.{BadCamera, NoMean, NoNumber}

module _ (share : ℕ) (s : SolvedCamera) (sensor : ScheimpflugParams) (center : Pt2) (rows : List Float) (flags : List ℕ) where
  pub invalid_camera_is_bad_camera : valid_camera (damped_camera s.camera) ≡ false → evaluated share s sensor center rows flags ≡ Err BadCamera
  unfolding evaluated
  invalid_camera_is_bad_camera v = simp v

  pub few_counted_is_no_mean : valid_camera (damped_camera s.camera) ≡ true → enough_with share s rows flags ≡ false → evaluated share s sensor center rows flags ≡ Err NoMean
  unfolding evaluated
  few_counted_is_no_mean v e = simp (v, e)

  -- whether or not enough of the rows count
  pub mean_not_finite_is_no_mean : valid_camera (damped_camera s.camera) ≡ true → is_finite (mean_with s rows flags) ≡ false → evaluated share s sensor center rows flags ≡ Err NoMean
  unfolding evaluated
  mean_not_finite_is_no_mean v f = case (enough_with share s rows flags) (λ e. simp (v, e, f)) (λ e. simp (v, e))

  pub passing_finding_is_scored_as : valid_camera (damped_camera s.camera) ≡ true → enough_with share s rows flags ≡ true → is_finite (mean_with s rows flags) ≡ true
      → evaluated share s sensor center rows flags ≡ scored_as (scoring_of s sensor center rows flags)
  unfolding evaluated
  passing_finding_is_scored_as v e f = simp (v, e, f)

  pub nan_score_is_no_number : valid_camera (damped_camera s.camera) ≡ true → enough_with share s rows flags ≡ true → is_finite (mean_with s rows flags) ≡ true
      → is_nan (scoring_of s sensor center rows flags).score ≡ true → evaluated share s sensor center rows flags ≡ Err NoNumber
  unfolding evaluated scored_as
  nan_score_is_no_number v e f n = simp (v, e, f, n)

  pub number_score_is_scored : valid_camera (damped_camera s.camera) ≡ true → enough_with share s rows flags ≡ true → is_finite (mean_with s rows flags) ≡ true
      → is_nan (scoring_of s sensor center rows flags).score ≡ false → evaluated share s sensor center rows flags ≡ Ok (scoring_of s sensor center rows flags)
  unfolding evaluated scored_as
  number_score_is_scored v e f n = simp (v, e, f, n)

  -- ---- and back: what was scored has passed every test
  pub record PassedTests (g : Scoring) : Type 0 where
    pub valid : valid_camera (damped_camera s.camera) ≡ true
    pub enough_counted : enough_with share s rows flags ≡ true
    pub finite : is_finite (mean_with s rows flags) ≡ true
    pub number : is_nan (scoring_of s sensor center rows flags).score ≡ false
    pub is : scoring_of s sensor center rows flags ≡ g

  pub scored_passed_tests : (g : Scoring) → evaluated share s sensor center rows flags ≡ Ok g → PassedTests g
  scored_passed_tests g h =
      case (valid_camera (damped_camera s.camera))
      (λ v. case (enough_with share s rows flags)
      (λ e. case (is_finite (mean_with s rows flags))
      (λ f. case (is_nan (scoring_of s sensor center rows flags).score)
      (λ n. absurd (refusal_is_no_value NoNumber g (sym (nan_score_is_no_number v e f n) ∙ h)))
      (λ n. record { valid = v; enough_counted = e; finite = f; number = n; is = ok_values_equal (scoring_of s sensor center rows flags) g (sym (number_score_is_scored v e f n) ∙ h) }))
      (λ f. absurd (refusal_is_no_value NoMean g (sym (mean_not_finite_is_no_mean v f) ∙ h))))
      (λ e. absurd (refusal_is_no_value NoMean g (sym (few_counted_is_no_mean v e) ∙ h))))
      (λ v. absurd (refusal_is_no_value BadCamera g (sym (invalid_camera_is_bad_camera v) ∙ h)))

-- the finding as it is scored, from the damped camera, its mean and its score
pub scoring_of_parts : (s : SolvedCamera) (sensor : ScheimpflugParams) (center : Pt2) (rows : List Float) (flags : List ℕ) (k : PinholeCamera) (mean score : Float)
    → damped_camera s.camera ≡ k → mean_with s rows flags ≡ mean → score_of mean k sensor center ≡ score
    → scoring_of s sensor center rows flags ≡ record { camera = k; mean = mean; score = score }
unfolding scoring_of
scoring_of_parts s sensor center rows flags k mean score e f g = rw (e, f, g)
