-- A floor that is at most a seed's penalty stays. Assumes nothing.
use Rattle.std.specs.Prelude.{◌≡◌, true, Float}
use Rattle.std.specs.Float.Ieee.{le}
use Rattle.float.specs.Float.{min_of}
use Rattle.float.specs.Order.{le_second_is_not_nan}
use Rattle.float_laws.specs.OneTest.{lower_is_first}
use Rattle.camera.specs.declared.sensor.ScheimpflugParams.{ScheimpflugParams}
use Rattle.score.specs.Penalties.{tilt_penalty}
use Rattle.score.specs.Floor.{counted_penalty}

pub floor_stays_if_le_penalty : (floor : Float) (t : ScheimpflugParams) → le floor (tilt_penalty t) ≡ true → floor ≡ min_of floor (counted_penalty t)
unfolding counted_penalty
floor_stays_if_le_penalty floor t h = let p = tilt_penalty t in lower_is_first floor (counted_penalty t) (rw (le_second_is_not_nan floor p h) h)
