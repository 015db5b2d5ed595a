-- `camera::undistort::Inversion::line_search` meets its contract where a trial is accepted. Assumes nothing.
use Rattle.std.proofs.Common.{sym, ap, ◌∙◌, ◌+◌, ◌-◌, arith}
use Rattle.camera.specs.Undistortion.{estimate_at}
use Rattle.camera.proofs.Turns.{trials_accepts}
use Rattle.camera.proofs.undistort.Inversion.line_search.Goals as goal

pub returns-then-is_better_than : goal.returns-then-is_better_than
returns-then-is_better_than c =
    sym
    (trials_accepts _ _ _ _ _ (30 - (c.loop.counter + 1)) (omega arith) _
    (c.estimate_at-estimate.ensures ∙ ap (estimate_at _ _) c.sub.ensures)
    (sym c.is_better_than.ensures ∙ c.if-is_better_than.true))
    ∙ c.loop.invariant
