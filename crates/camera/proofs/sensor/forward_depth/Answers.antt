-- `camera::sensor::forward_depth` meets its contract: 1e-12 is no NaN, so the comparison alone decides the
-- maximum. Assumes nothing.
use Rattle.std.specs.Float.Ieee.{of_bits, is_nan}
use Rattle.float.specs.Float.{max_of}
use Rattle.camera.specs.Sensor.{forward_depth}
use Rattle.camera.proofs.sensor.forward_depth.Goals as goal

pub returns : goal.returns
unfolding forward_depth max_of of_bits is_nan
returns c = c.max.ensures
