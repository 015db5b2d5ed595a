-- `score::blocks::point_errors` meets its contract. Assumes nothing.
use Rattle.std.proofs.Common.{◌≡◌, ◌+◌, ◌*◌, get_or, arith}
use Rattle.std.specs.Float.{nan}
use Rattle.float.specs.Binary64.{◌/₆₄◌}
use Rattle.camera.specs.Intrinsics.{sensor_to_pixel}
use Rattle.camera.specs.declared.math.Pt2.{Pt2}
use Rattle.camera.specs.Math.{point_at, distance_of}
use Rattle.score.proofs.Filled.{set_extends_filled}
use Rattle.score.proofs.blocks.point_errors.Goals as goal

pub loop-j-preserved : goal.loop-j-preserved
loop-j-preserved c =
    let l = c.loop-j in
    let a = c.args in
    set_extends_filled l.errors nan l.j c.distance.result
    (λ k x.
    let d = get_or a.depths.now k nan in
    let p : Pt2 = record { x = get_or a.xs.now k nan /₆₄ d; y = get_or a.ys.now k nan /₆₄ d } in
    x ≡ distance_of (sensor_to_pixel a.by.camera.k p) (point_at a.block.rows.numbers.now (4 * k + 2)))
    (omega arith) l.invariant (rw (c.sensor_to_pixel.ensures, c.point_at-seen.ensures) at c.distance.ensures)
