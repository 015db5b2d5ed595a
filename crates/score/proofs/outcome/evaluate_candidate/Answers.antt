-- `score::outcome::evaluate_candidate` meets its contract: each test of the code is the definition's. Assumes nothing.
use Rattle.std.proofs.Common.{◌≡◌, true, refl, sym, ap, ◌∙◌, List, ℕ, Float, length}
use Rattle.float.specs.Float.{is_finite}
use Rattle.camera.specs.Matrix.{Matrix}
use Rattle.camera.specs.Sensor.{tilt_projection_matrix}
use Rattle.score.specs.declared.pinhole.PinholeCamera.{PinholeCamera}
use Rattle.score.specs.Camera.{damped_camera, valid_camera}
use Rattle.score.specs.Rows.{rows_of, tilt_matrix, error_sum, mean_of}
use Rattle.score.proofs.Counted.{error_count_le_flags}
use Rattle.score.specs.declared.errors.ErrorSum.{ErrorSum}
use Rattle.score.specs.Evaluation.{errors_with, mean_with, enough, enough_with, scored_as}
use Rattle.score.proofs.Outcomes.{invalid_camera_is_bad_camera, few_counted_is_no_mean, mean_not_finite_is_no_mean, passing_finding_is_scored_as, scoring_of_parts}
use Rattle.score.specs.declared.outcome.SolvedCamera.{SolvedCamera}
use Rattle.score.proofs.outcome.evaluate_candidate.Goals.{Else-not-validate_camera, After-reproj_error_sum-errors}
use Rattle.score.proofs.outcome.evaluate_candidate.Goals as goal

-- ---- what the calls say of the definition's parts
module _ (s : SolvedCamera) (rows : List Float) (flags : List ℕ) where
  errors_with_by_calls : (k : PinholeCamera) (h : Matrix) (e : ErrorSum) → k ≡ damped_camera s.camera → h ≡ tilt_projection_matrix s.trig → e ≡ error_sum k h (rows_of rows flags) → errors_with s rows flags ≡ e
  unfolding errors_with tilt_matrix
  errors_with_by_calls k h e p q r = rw (← p, ← q, ← r)

  enough_with_by_errors : (share : ℕ) (e : ErrorSum) → errors_with s rows flags ≡ e → enough_with share s rows flags ≡ enough share e.count (length flags)
  unfolding enough_with
  enough_with_by_errors share e p = ap (λ (x : ErrorSum). enough share x.count (length flags)) p

  mean_with_by_errors : (e : ErrorSum) → errors_with s rows flags ≡ e → mean_with s rows flags ≡ mean_of e
  unfolding mean_with
  mean_with_by_errors e p = ap mean_of p

valid : (c : Else-not-validate_camera) → valid_camera (damped_camera c.args.solved.camera) ≡ true
valid c = ap valid_camera (sym c.damped_camera-camera.ensures) ∙ sym c.validate_camera.ensures ∙ c.if-not-validate_camera.false

errors_with_is_result : (c : After-reproj_error_sum-errors) → errors_with c.args.solved c.args.rows.now c.args.flags.now ≡ c.reproj_error_sum-errors.result
errors_with_is_result c = errors_with_by_calls c.args.solved c.args.rows.now c.args.flags.now _ _ _ c.damped_camera-camera.ensures c.tilt_projection_matrix-h.ensures c.reproj_error_sum-errors.ensures

pub returns-then-not-validate_camera : goal.returns-then-not-validate_camera
returns-then-not-validate_camera c =
    let a = c.args in
    let valid = ap valid_camera (sym c.damped_camera-camera.ensures) ∙ sym c.validate_camera.ensures ∙ c.if-not-validate_camera.true in
    sym (invalid_camera_is_bad_camera a.share a.solved a.sensor a.center a.rows.now a.flags.now valid)

pub is_enough-requires : goal.is_enough-requires
is_enough-requires c = rw c.reproj_error_sum-errors.ensures (error_count_le_flags _ _ _ _)

pub returns-then-not-is_enough : goal.returns-then-not-is_enough
returns-then-not-is_enough c =
    let a = c.args in
    let w = goal.at.returns-then-not-is_enough c in
    let e = errors_with_is_result w.After-reproj_error_sum-errors in
    let few = enough_with_by_errors a.solved a.rows.now a.flags.now a.share _ e ∙ sym c.is_enough.ensures ∙ c.if-not-is_enough.true in
    sym (few_counted_is_no_mean a.share a.solved a.sensor a.center a.rows.now a.flags.now (valid w.Else-not-validate_camera) few)

pub returns-then-not-is_finite : goal.returns-then-not-is_finite
returns-then-not-is_finite c =
    let a = c.args in
    let w = goal.at.returns-then-not-is_finite c in
    let e = errors_with_is_result w.After-reproj_error_sum-errors in
    let m = mean_with_by_errors a.solved a.rows.now a.flags.now _ e ∙ sym c.mean_reproj_error-mean.ensures in
    let infinite = ap is_finite m ∙ sym c.is_finite.ensures ∙ c.if-not-is_finite.true in
    sym (mean_not_finite_is_no_mean a.share a.solved a.sensor a.center a.rows.now a.flags.now (valid w.Else-not-validate_camera) infinite)

pub returns : goal.returns
returns c =
    let a = c.args in
    let w = goal.at.returns c in
    let e = errors_with_is_result w.After-reproj_error_sum-errors in
    let m = mean_with_by_errors a.solved a.rows.now a.flags.now _ e ∙ sym c.mean_reproj_error-mean.ensures in
    let many = enough_with_by_errors a.solved a.rows.now a.flags.now a.share _ e ∙ sym c.is_enough.ensures ∙ c.if-not-is_enough.false in
    let finite = ap is_finite m ∙ sym c.is_finite.ensures ∙ c.if-not-is_finite.false in
    c.scored_outcome.ensures
    ∙ sym (passing_finding_is_scored_as a.share a.solved a.sensor a.center a.rows.now a.flags.now (valid w.Else-not-validate_camera) many finite
    ∙ ap scored_as (scoring_of_parts _ _ _ _ _ _ _ _ (sym c.damped_camera-camera.ensures) m refl))
