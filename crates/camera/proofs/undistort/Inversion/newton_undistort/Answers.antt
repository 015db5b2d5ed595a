-- `camera::undistort::Inversion::newton_undistort` meets its contract where a turn is the last. Assumes nothing.
use Rattle.std.proofs.Common.{sym, ap, ◌∙◌, ◌+◌, ◌-◌, arith}
use Rattle.camera.specs.Undistortion.{last_step}
use Rattle.camera.proofs.Turns.{newton_last}
use Rattle.camera.proofs.undistort.Inversion.newton_undistort.Goals as goal

pub returns-in-Last : goal.returns-in-Last
returns-in-Last c =
    rw (c.last_step-in-Last.ensures, ← c.estimate_at-e.ensures)
    (ap last_step
    (sym (newton_last _ _ _ _ _ (c.args.max_iters - (c.loop.counter + 1)) (omega arith) (sym c.newton_turn.ensures ∙ c.in-Last.is)) ∙ c.loop.invariant))
