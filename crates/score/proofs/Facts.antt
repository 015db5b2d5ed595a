-- What holds of every scored finding, and which reasons a skipped one has. Assumes nothing.
use Rattle.std.specs.Prelude.{ℕ, ◌≡◌, refl, true, false, ◌&&◌, List, Float, Ok, Err}
use Rattle.std.proofs.Common.{sym, subst, ◌∙◌}
use Rattle.std.specs.Float.Ieee.{is_nan, lt, of_bits}
use Rattle.common.specs.Tests.{case, both_true}
use Rattle.common.specs.Results.{refusals_equal, refusal_is_no_value}
use Rattle.float.specs.Float.{is_finite, sign_bit}
use Rattle.float.specs.Finite.{finite_is_not_nan}
use Rattle.float.specs.Sign.{unsigned_not_below, clamped_size_at_most_bound}
use Rattle.float.specs.Literals.{plus_zero}
use Rattle.camera.specs.declared.math.Pt2.{Pt2}
use Rattle.camera.specs.declared.sensor.ScheimpflugParams.{ScheimpflugParams}
use Rattle.score.specs.declared.pinhole.PinholeCamera.{PinholeCamera}
use Rattle.score.specs.Camera.{tangential_bound, damped, damped_camera, finite_intrinsics, finite_distortion, valid_camera}
use Rattle.score.specs.Evaluation.{solved_at, mean_with, enough_with, scoring_of, evaluated, outcome_of}
use Rattle.score.proofs.Outcomes.{invalid_camera_is_bad_camera, few_counted_is_no_mean, mean_not_finite_is_no_mean, nan_score_is_no_number, number_score_is_scored, scored_passed_tests}
use Rattle.score.proofs.Mean.{mean_with_unsigned}
use Rattle.score.specs.declared.outcome.SolvedCamera.{SolvedCamera}
use Rattle.score.specs.declared.outcome.Scoring.{Scoring}
use Rattle.score.specs.declared.outcome.Finding.{Finding}
use Rattle.score.specs.declared.outcome.Finding.TheVariants.{Failed, Solved}
use Rattle.score.specs.declared.outcome.SkipReason.{SkipReason}
use Rattle.score.specs.declared.outcome.SkipReason.TheVariants.{HostFailed, BadCamera, NoMean, NoNumber}
use Rattle.score.specs.Reasons.{reason_number, reason_numbered}
use Rattle.score.specs.Facts.{ScoredFacts}
use Rattle.score.specs.Theorem.{OutcomesRight}

-- ---- what the camera check says
-- the numbers of a camera that passes it
pub record ValidNumbers (c : PinholeCamera) : Type 0 where
  pub fx_finite : is_finite c.k.fx ≡ true
  pub fy_finite : is_finite c.k.fy ≡ true
  pub fx_above : lt plus_zero c.k.fx ≡ true
  pub fy_above : lt plus_zero c.k.fy ≡ true
  pub p1_finite : is_finite c.dist.p1 ≡ true
  pub p2_finite : is_finite c.dist.p2 ≡ true

pub valid_numbers : (c : PinholeCamera) → valid_camera c ≡ true → ValidNumbers c
unfolding valid_camera finite_intrinsics finite_distortion
valid_numbers c v =
    let k = c.k in
    let d = c.dist in
    let y = both_true (finite_intrinsics k && finite_distortion d && lt plus_zero k.fx) (lt plus_zero k.fy) v in
    let x = both_true (finite_intrinsics k && finite_distortion d) (lt plus_zero k.fx) y.0 in
    let numbers = both_true (finite_intrinsics k) (finite_distortion d) x.0 in
    let cy = both_true (is_finite k.fx && is_finite k.fy && is_finite k.cx) (is_finite k.cy) numbers.0 in
    let cx = both_true (is_finite k.fx && is_finite k.fy) (is_finite k.cx) cy.0 in
    let focal = both_true (is_finite k.fx) (is_finite k.fy) cx.0 in
    let p2 = both_true (is_finite d.k1 && is_finite d.k2 && is_finite d.k3 && is_finite d.p1) (is_finite d.p2) numbers.1 in
    let p1 = both_true (is_finite d.k1 && is_finite d.k2 && is_finite d.k3) (is_finite d.p1) p2.0 in
    record { fx_finite = focal.0; fy_finite = focal.1; fx_above = x.1; fy_above = y.1; p1_finite = p1.1; p2_finite = p2.1 }

scoring_facts : (s : SolvedCamera) (sensor : ScheimpflugParams) (center : Pt2) (rows : List Float) (flags : List ℕ)
    → valid_camera (damped_camera s.camera) ≡ true → is_finite (mean_with s rows flags) ≡ true → is_nan (scoring_of s sensor center rows flags).score ≡ false
    → ScoredFacts sensor center (scoring_of s sensor center rows flags)
unfolding scoring_of damped sign_bit of_bits is_nan
scoring_facts s sensor center rows flags v f n =
    let d = damped s.camera.dist in
    let numbers = valid_numbers (damped_camera s.camera) v in
    record {
      camera_valid = v;
      fx_finite = numbers.fx_finite;
      fy_finite = numbers.fy_finite;
      fx_above = numbers.fx_above;
      fy_above = numbers.fy_above;
      k1_zero = refl;
      k2_zero = refl;
      k3_zero = refl;
      p1_finite = numbers.p1_finite;
      p2_finite = numbers.p2_finite;
      p1_within = clamped_size_at_most_bound s.camera.dist.p1 tangential_bound refl refl (finite_is_not_nan d.p1 numbers.p1_finite);
      p2_within = clamped_size_at_most_bound s.camera.dist.p2 tangential_bound refl refl (finite_is_not_nan d.p2 numbers.p2_finite);
      mean_finite = f;
      mean_not_below = unsigned_not_below (mean_with s rows flags) (mean_with_unsigned s rows flags);
      score_is = refl;
      score_number = n;
    }

-- ---- the reasons

-- the reason of a reason's number is that reason
pub reason_numbered_back : (r : SkipReason) → reason_numbered (reason_number r) ≡ Ok r
reason_numbered_back HostFailed = refl
reason_numbered_back BadCamera = refl
reason_numbered_back NoMean = refl
reason_numbered_back NoNumber = refl

-- ---- the outcome, taken apart
pub scored_facts : (share : ℕ) (f : Finding) (sensor : ScheimpflugParams) (center : Pt2) (rows : List Float) (flags : List ℕ) (g : Scoring)
    → outcome_of share f sensor center rows flags ≡ Ok g → ScoredFacts sensor center g
unfolding outcome_of
scored_facts share Failed sensor center rows flags g h = absurd (refusal_is_no_value HostFailed g h)
scored_facts share (Solved c) sensor center rows flags g h =
    let s = solved_at c sensor in
    let p = scored_passed_tests share s sensor center rows flags g h in
    subst (λ (x : Scoring). ScoredFacts sensor center x) p.is (scoring_facts s sensor center rows flags p.valid p.finite p.number)

-- a solved camera's reason is 2, 3 or 4
solved_is_not_host_failed : (share : ℕ) (s : SolvedCamera) (sensor : ScheimpflugParams) (center : Pt2) (rows : List Float) (flags : List ℕ)
    → evaluated share s sensor center rows flags ≡ Err HostFailed → ⊥
solved_is_not_host_failed share s sensor center rows flags h =
    case (valid_camera (damped_camera s.camera))
    (λ v. case (enough_with share s rows flags)
    (λ e. case (is_finite (mean_with s rows flags))
    (λ m. case (is_nan (scoring_of s sensor center rows flags).score)
    (λ k. let q = refusals_equal NoNumber HostFailed (sym (nan_score_is_no_number share s sensor center rows flags v e m k) ∙ h) in cc)
    (λ k. absurd (refusal_is_no_value HostFailed (scoring_of s sensor center rows flags) (sym h ∙ number_score_is_scored share s sensor center rows flags v e m k))))
    (λ m. let q = refusals_equal NoMean HostFailed (sym (mean_not_finite_is_no_mean share s sensor center rows flags v m) ∙ h) in cc))
    (λ e. let q = refusals_equal NoMean HostFailed (sym (few_counted_is_no_mean share s sensor center rows flags v e) ∙ h) in cc))
    (λ v. let q = refusals_equal BadCamera HostFailed (sym (invalid_camera_is_bad_camera share s sensor center rows flags v) ∙ h) in cc)

-- Reason 1 for Failed alone.
pub host_failed_only_if_failed : (share : ℕ) (f : Finding) (sensor : ScheimpflugParams) (center : Pt2) (rows : List Float) (flags : List ℕ)
    → outcome_of share f sensor center rows flags ≡ Err HostFailed → f ≡ Failed
unfolding outcome_of
host_failed_only_if_failed share Failed sensor center rows flags h = refl
host_failed_only_if_failed share (Solved c) sensor center rows flags h = absurd (solved_is_not_host_failed share (solved_at c sensor) sensor center rows flags h)

pub outcomes_right : OutcomesRight
outcomes_right = record { scored_facts = scored_facts; skipped_failed = host_failed_only_if_failed }
