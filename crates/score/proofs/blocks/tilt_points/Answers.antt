-- `score::blocks::tilt_points` meets its contract. Assumes nothing.
use Rattle.std.proofs.Common.{◌≡◌, ◌∙◌, ℕ, ◌*◌, Float, length-set, arith}
use Rattle.std.specs.Float.{nan}
use Rattle.camera.specs.Distortion.{distorted}
use Rattle.camera.specs.Sensor.{homogeneous}
use Rattle.camera.specs.Math.{point_at}
use Rattle.score.proofs.Filled.{set_extends_filled}
use Rattle.score.proofs.blocks.tilt_points.Goals as goal

pub loop-j-preserved : goal.loop-j-preserved
loop-j-preserved c =
    let l = c.loop-j in
    let a = c.args in
    let v = l.invariant in
    let w = v.3 in
    let is : c.distort-p.result ≡ distorted a.by.camera.dist (point_at a.block.rows.numbers.now (4 * l.j)) = rw c.point_at.ensures at c.distort-p.ensures in
    let at = λ (i k : ℕ) (x : Float). x ≡ homogeneous a.by.h (distorted a.by.camera.dist (point_at a.block.rows.numbers.now (4 * k))) i in (
      length-set l.xs l.j c.row_at.result ∙ v.0,
      length-set l.ys l.j c.row_at-in-loop-j.result ∙ v.1,
      length-set l.zs l.j c.row_at-in-loop-j-2.result ∙ v.2,
      λ k h. (
        set_extends_filled l.xs nan l.j c.row_at.result (at 0) (omega arith) (λ i g. (w i g).0) (rw is at c.row_at.ensures) k h,
        set_extends_filled l.ys nan l.j c.row_at-in-loop-j.result (at 1) (omega arith) (λ i g. (w i g).1) (rw is at c.row_at-in-loop-j.ensures) k h,
        set_extends_filled l.zs nan l.j c.row_at-in-loop-j-2.result (at 2) (omega arith) (λ i g. (w i g).2) (rw is at c.row_at-in-loop-j-2.ensures) k h,
      ),
    )
