-- `score::blocks::forward_depths` meets its contract. Assumes nothing.
use Rattle.std.proofs.Common.{◌≡◌, ◌∙◌, get_or, length-set, arith}
use Rattle.std.specs.Float.{nan}
use Rattle.camera.specs.Sensor.{forward_depth}
use Rattle.score.proofs.Filled.{set_extends_filled}
use Rattle.score.proofs.blocks.forward_depths.Goals as goal

pub loop-j-preserved : goal.loop-j-preserved
loop-j-preserved c =
    let l = c.loop-j in
    let v = l.invariant in (
      length-set l.depths l.j c.forward_depth.result ∙ v.0,
      set_extends_filled l.depths nan l.j c.forward_depth.result (λ k x. x ≡ forward_depth (get_or c.args.zs.now k nan)) (omega (arith, v.0)) v.1 c.forward_depth.ensures,
    )
