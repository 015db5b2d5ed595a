-- `camera::undistort::Inversion::newton_undistort`: the loop's invariant: the turns that are left, from this estimate
-- on, end where all of them end from the first estimate on.
use Rattle.std.proofs.Common.{◌≡◌, ◌-◌}
use Rattle.camera.specs.Undistortion.{newton}
use Rattle.camera.proofs.undistort.Inversion.newton_undistort.Given as goal

abbrev pub invariant-loop : goal.invariant-loop
invariant-loop l = newton (l.max_iters - l.counter) l.self.lens l.self.target l.e ≡ newton l.max_iters l.self.lens l.self.target l.initial.e
