-- Typed tilts that have been merged by tilt. Definitions only.
use Rattle.std.specs.Prelude.{◌≡◌, false, List, ◌∷◌, ◌++◌}
use Rattle.camera.specs.declared.sensor.ScheimpflugParams.{ScheimpflugParams}
use Rattle.seeds.specs.Merge.{has_near}
use Rattle.seeds.specs.Rules.{tilt_near}

-- none of them is near an earlier one
abbrev pub TypedPairsApart : List ScheimpflugParams → Type 0
TypedPairsApart ts = (earlier : List ScheimpflugParams) (t : ScheimpflugParams) (later : List ScheimpflugParams) → ts ≡ earlier ++ t ∷ later → has_near tilt_near earlier t ≡ false
