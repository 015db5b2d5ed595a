-- The camera that a finding is scored with: damped, then checked. Definitions only.
use Rattle.std.specs.Prelude.{Bool, ◌&&◌, Float}
use Rattle.std.specs.Float.{binary64}
use Rattle.std.specs.Float.Ieee.{of_bits, lt, neg}
use Rattle.float.specs.Float.{is_finite, clamp_of}
use Rattle.float.specs.Literals.{plus_zero}
use Rattle.camera.specs.declared.intrinsics.FxFyCxCy.{FxFyCxCy}
use Rattle.camera.specs.declared.distortion.BrownConrady5.{BrownConrady5}
use Rattle.score.specs.declared.pinhole.PinholeCamera.{PinholeCamera}

-- 0.05
abbrev pub tangential_bound : Float
tangential_bound = of_bits binary64 0x3fa9_9999_9999_999a

-- Damping: k1, k2 and k3 are put to 0, whatever they were, and p1 and p2 to the nearer end where they lie beyond ±0.05.
-- NaN stays.
unfoldable pub damped : BrownConrady5 → BrownConrady5
damped d = record {
  k1 = plus_zero;
  k2 = plus_zero;
  k3 = plus_zero;
  p1 = clamp_of d.p1 (neg tangential_bound) tangential_bound;
  p2 = clamp_of d.p2 (neg tangential_bound) tangential_bound;
}

abbrev pub damped_camera : PinholeCamera → PinholeCamera
damped_camera c = record { k = c.k; dist = damped c.dist }

-- all nine numbers are finite
unfoldable pub finite_intrinsics : FxFyCxCy → Bool
finite_intrinsics k = is_finite k.fx && is_finite k.fy && is_finite k.cx && is_finite k.cy

unfoldable pub finite_distortion : BrownConrady5 → Bool
finite_distortion d = is_finite d.k1 && is_finite d.k2 && is_finite d.k3 && is_finite d.p1 && is_finite d.p2

-- The camera check: all nine numbers are finite and both focal lengths are above 0. A camera that fails it is reason 2.
unfoldable pub valid_camera : PinholeCamera → Bool
valid_camera c = finite_intrinsics c.k && finite_distortion c.dist && lt plus_zero c.k.fx && lt plus_zero c.k.fy
