-- The seed that two offsets make, and the most seeds that a later round has: a round of a two-axis run and one of a
-- one-axis run are instances of one law over any two lists of offsets (specs/Theorem.antt). Definitions only.
use Rattle.std.specs.Prelude.{Bool, cond, ℕ, Float}
use Rattle.float.specs.Binary64.{◌+₆₄◌}
use Rattle.camera.specs.declared.intrinsics.FxFyCxCy.{FxFyCxCy}
use Rattle.camera.specs.declared.sensor.ScheimpflugParams.{ScheimpflugParams}
use Rattle.seeds.specs.declared.CandidateSeed.{CandidateSeed}
use Rattle.seeds.specs.Rules.{tilts, seed_with}

-- the seed at one offset of each axis, which is added to the centre's tilt
abbrev pub offset_seed : ScheimpflugParams → FxFyCxCy → Float → Float → CandidateSeed
offset_seed centre camera dx dy = seed_with camera (tilts (centre.tilt_x +₆₄ dx) (centre.tilt_y +₆₄ dy))

-- ---- the two instances
-- the most seeds of a later round: three offsets of x, times three offsets of y or one
abbrev pub most_seeds : Bool → ℕ
most_seeds one_axis = cond one_axis 3 9
