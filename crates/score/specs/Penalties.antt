-- The three penalties and the score, each operation rounded, in the order in which the formulas read. Definitions only.
use Rattle.std.specs.Prelude.{Float}
use Rattle.std.specs.Float.{binary64}
use Rattle.std.specs.Float.Ieee.{of_bits}
use Rattle.float.specs.Binary64.{◌+₆₄◌, ◌-₆₄◌, ◌*₆₄◌, ◌/₆₄◌}
use Rattle.float.specs.Float.{max_of}
use Rattle.float.specs.Literals.{plus_zero, one₆₄}
use Rattle.camera.specs.declared.math.Pt2.{Pt2}
use Rattle.camera.specs.declared.sensor.ScheimpflugParams.{ScheimpflugParams}
use Rattle.camera.specs.declared.intrinsics.FxFyCxCy.{FxFyCxCy}
use Rattle.camera.specs.declared.distortion.BrownConrady5.{BrownConrady5}
use Rattle.score.specs.declared.pinhole.PinholeCamera.{PinholeCamera}

-- 0.25, the weight of the distortion's and of the tilt's penalty, and of k3 within the first
abbrev pub quarter : Float
quarter = of_bits binary64 0x3fd0_0000_0000_0000

unfoldable pub distortion_penalty : BrownConrady5 → Float
distortion_penalty d =
    let radial = d.k1 *₆₄ d.k1 +₆₄ d.k2 *₆₄ d.k2 +₆₄ quarter *₆₄ d.k3 *₆₄ d.k3 in
    let tangential = d.p1 *₆₄ d.p1 +₆₄ d.p2 *₆₄ d.p2 in
    quarter *₆₄ (radial +₆₄ tangential)

unfoldable pub tilt_penalty : ScheimpflugParams → Float
tilt_penalty s = quarter *₆₄ (s.tilt_x *₆₄ s.tilt_x +₆₄ s.tilt_y *₆₄ s.tilt_y)

-- The centre's penalty has weight 0.0, and is NaN where its square overflows or the observed centre isn't finite.
unfoldable pub centre_penalty : FxFyCxCy → Pt2 → Float
centre_penalty k center =
    let dx = (k.cx -₆₄ center.x) /₆₄ max_of k.fx one₆₄ in
    let dy = (k.cy -₆₄ center.y) /₆₄ max_of k.fy one₆₄ in
    plus_zero *₆₄ (dx *₆₄ dx +₆₄ dy *₆₄ dy)

-- The score: mean + distortion penalty + tilt penalty + centre penalty, in this order.
unfoldable pub score_of : Float → PinholeCamera → ScheimpflugParams → Pt2 → Float
score_of mean c sensor center = mean +₆₄ distortion_penalty c.dist +₆₄ tilt_penalty sensor +₆₄ centre_penalty c.k center
