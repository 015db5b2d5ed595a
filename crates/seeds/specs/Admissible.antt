-- How many seeds a later round has. A tilt is admissible if it lies within the bound after the rounded addition.
-- Definitions only.
use Rattle.std.specs.Prelude.{ℕ, ◌*◌, List, length, Float}
use Rattle.float.specs.Float.{within}
use Rattle.float.specs.Literals.{one₆₄, ten_to_minus11}
use Rattle.camera.specs.declared.sensor.ScheimpflugParams.{ScheimpflugParams}
use Rattle.seeds.specs.Merge.{keep}
use Rattle.seeds.specs.Rules.{moved}

-- the tilts that the offsets of an axis give around a centre, and that the bound admits
unfoldable pub admitted : Float → Float → List Float → List Float
admitted max centre ds = keep (within max) (moved centre ds)

abbrev pub admissible : Float → Float → List Float → ℕ
admissible max centre ds = length (admitted max centre ds)

-- the admissible x tilts times the admissible y tilts
unfoldable pub seed_count : List Float → List Float → ScheimpflugParams → Float → ℕ
seed_count dxs dys centre max = admissible max centre.tilt_x dxs * admissible max centre.tilt_y dys

-- the least and the greatest step that a list of exactly that length is made with: 1e-11 and 1
abbrev pub least_step : Float
least_step = ten_to_minus11

abbrev pub most_step : Float
most_step = one₆₄
