-- `score::blocks::block_errors` meets its contract. Assumes nothing.
use Rattle.std.proofs.Common.{◌<◌, arith}
use Rattle.camera.specs.Sensor.{apply_homography}
use Rattle.score.specs.Rows.{projected}
use Rattle.score.proofs.blocks.block_errors.Goals as goal

pub returns : goal.returns
unfolding projected apply_homography
returns c j h =
    let few : j < 16 = omega (arith, c.args.block.few) in
    let t = c.tilt_points.ensures j h in
    rw (t.0, t.1, c.forward_depths.ensures j few, t.2) at (c.point_errors.ensures j h)
