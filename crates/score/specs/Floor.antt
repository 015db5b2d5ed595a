-- The floor of some seeds, which is the lowest tilt penalty among them, and the seeds that stand in a list. Definitions
-- only.
use Rattle.std.specs.Prelude.{ℕ, zero, suc, ◌-◌, cond, List, [], ◌∷◌, Float}
use Rattle.std.specs.Float.Ieee.{is_nan}
use Rattle.float.specs.Float.{min_of}
use Rattle.float.specs.Literals.{infinity}
use Rattle.camera.specs.declared.sensor.ScheimpflugParams.{ScheimpflugParams}
use Rattle.seeds.specs.declared.CandidateSeed.{CandidateSeed}
use Rattle.seeds.specs.Layout.{seed_at}
use Rattle.score.specs.Penalties.{tilt_penalty}

-- a NaN penalty, from a changed list, counts as infinity
unfoldable pub counted_penalty : ScheimpflugParams → Float
counted_penalty t = let p = tilt_penalty t in cond (is_nan p) infinity p

unfoldable pub floor_of : List CandidateSeed → Float
floor_of [] = infinity
floor_of (s ∷ ss) = min_of (counted_penalty s.sensor) (floor_of ss)

-- ---- n seeds from place i on, and those from one place up to another, as they stand in a list of numbers
unfoldable pub seeds_from : List Float → ℕ → ℕ → List CandidateSeed
seeds_from l i zero = []
seeds_from l i (suc n) = seed_at l i ∷ seeds_from l (suc i) n

abbrev pub seeds_between : List Float → ℕ → ℕ → List CandidateSeed
seeds_between l from to = seeds_from l from (to - from)
