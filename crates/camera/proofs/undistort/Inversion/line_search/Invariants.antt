-- `camera::undistort::Inversion::line_search`: the loop's invariant: the trials that are left, from this step on, find
-- what all of them find from the first step on.
use Rattle.std.proofs.Common.{◌≡◌, ◌-◌}
use Rattle.camera.specs.Undistortion.{trials}
use Rattle.camera.proofs.undistort.Inversion.line_search.Given as goal

abbrev pub invariant-loop : goal.invariant-loop
invariant-loop l = trials (30 - l.counter) l.self.lens l.self.target l.e l.step ≡ trials 30 l.self.lens l.self.target l.e l.initial.step
