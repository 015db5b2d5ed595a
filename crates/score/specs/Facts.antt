-- What holds of every scored finding. Definitions only.
use Rattle.std.specs.Prelude.{◌≡◌, true, false}
use Rattle.std.specs.Float.Ieee.{is_nan, lt, le}
use Rattle.float.specs.Float.{abs_of, is_finite}
use Rattle.float.specs.Literals.{plus_zero}
use Rattle.camera.specs.declared.math.Pt2.{Pt2}
use Rattle.camera.specs.declared.sensor.ScheimpflugParams.{ScheimpflugParams}
use Rattle.score.specs.Camera.{tangential_bound, valid_camera}
use Rattle.score.specs.Penalties.{score_of}
use Rattle.score.specs.declared.outcome.Scoring.{Scoring}

-- The camera passes the check: a focal length is finite and above 0; a radial coefficient is +0, a tangential one finite and at most 0.05 in size, the mean
-- finite and not below 0, and the score is that of mean, camera, the seed's tilts and the observed centre, and is a number.
pub record ScoredFacts (sensor : ScheimpflugParams) (center : Pt2) (g : Scoring) : Type 0 where
  pub camera_valid : valid_camera g.camera ≡ true
  pub fx_finite : is_finite g.camera.k.fx ≡ true
  pub fy_finite : is_finite g.camera.k.fy ≡ true
  pub fx_above : lt plus_zero g.camera.k.fx ≡ true
  pub fy_above : lt plus_zero g.camera.k.fy ≡ true
  pub k1_zero : g.camera.dist.k1 ≡ plus_zero
  pub k2_zero : g.camera.dist.k2 ≡ plus_zero
  pub k3_zero : g.camera.dist.k3 ≡ plus_zero
  pub p1_finite : is_finite g.camera.dist.p1 ≡ true
  pub p2_finite : is_finite g.camera.dist.p2 ≡ true
  pub p1_within : le (abs_of g.camera.dist.p1) tangential_bound ≡ true
  pub p2_within : le (abs_of g.camera.dist.p2) tangential_bound ≡ true
  pub mean_finite : is_finite g.mean ≡ true
  pub mean_not_below : lt g.mean plus_zero ≡ false
  pub score_is : g.score ≡ score_of g.mean g.camera sensor center
  pub score_number : is_nan g.score ≡ false
