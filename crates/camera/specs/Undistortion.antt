-- The undistorted point, by Newton's method on the distortion, each operation rounded. Definitions only.
use Rattle.std.specs.Prelude.{ℕ, zero, suc, Bool, not, ◌&&◌, ◌||◌, cond, eqb, Option, Some, None, Float}
use Rattle.std.specs.Float.Ieee.{lt, le, eq}
use Rattle.float.specs.Float.{is_finite}
use Rattle.float.specs.Literals.{plus_zero, one₆₄, half₆₄}
use Rattle.float.specs.Binary64.{◌+₆₄◌, ◌-₆₄◌, ◌*₆₄◌, ◌/₆₄◌}
use Rattle.camera.specs.Constants.{tolerance}
use Rattle.camera.specs.Math.{minus_point}
use Rattle.camera.specs.Distortion.{squared_norm, distorted, jacobian_at}
use Rattle.camera.specs.declared.math.Pt2.{Pt2}
use Rattle.camera.specs.declared.distortion.BrownConrady5.{BrownConrady5}
use Rattle.camera.specs.declared.distortion.Jacobian.{Jacobian}
use Rattle.camera.specs.declared.undistort.Estimate.{Estimate}
use Rattle.camera.specs.declared.undistort.Trial.{Trial}
use Rattle.camera.specs.declared.undistort.Turn.{Turn}
use Rattle.camera.specs.declared.undistort.Turn.TheVariants.{Ended, Last, Further}

abbrev pub halved : Pt2 → Pt2
halved p = record { x = p.x *₆₄ half₆₄; y = p.y *₆₄ half₆₄ }

-- a point, how far its distortion is from the target, and the derivatives there
unfoldable pub estimate_at : BrownConrady5 → Pt2 → Pt2 → Estimate
estimate_at b target p = record { point = p; error = minus_point (distorted b p) target; jacobian = jacobian_at b p }

abbrev pub squared_residual : Estimate → Float
squared_residual e = squared_norm e.error

abbrev pub jacobian_determinant : Jacobian → Float
jacobian_determinant j = j.xx *₆₄ j.yy -₆₄ j.xy *₆₄ j.yx

-- where no step is taken: the determinant is 0 or not finite
unfoldable pub singular : Jacobian → Bool
singular j = eq (jacobian_determinant j) plus_zero || not (is_finite (jacobian_determinant j))

-- the inverse Jacobian times the error
unfoldable pub step_by : Jacobian → Pt2 → Pt2
step_by j error =
    let det = jacobian_determinant j in
    record {
      x = (j.yy *₆₄ error.x -₆₄ j.xy *₆₄ error.y) /₆₄ det;
      y = (j.xx *₆₄ error.y -₆₄ j.yx *₆₄ error.x) /₆₄ det;
    }

abbrev pub newton_step : Estimate → Pt2
newton_step e = step_by e.jacobian e.error

-- an estimate is taken in place of e where its squared residual is finite and lower
unfoldable pub improves : Estimate → Estimate → Bool
improves next e = is_finite (squared_residual next) && lt (squared_residual next) (squared_residual e)

-- at most n trials, each with half the step of the one before: the first that improves on e, with its step
unfoldable pub trials : ℕ → BrownConrady5 → Pt2 → Estimate → Pt2 → Option Trial
trials zero b target e step = None
trials (suc n) b target e step =
    let next = estimate_at b target (minus_point e.point step) in
    cond (improves next e) (Some (record { estimate = next; step = step })) (trials n b target e (halved step))

-- the step is as small as the point's rounding
unfoldable pub small_step : Pt2 → Pt2 → Bool
small_step step p = le (squared_norm step) (tolerance *₆₄ (one₆₄ +₆₄ p.x *₆₄ p.x +₆₄ p.y *₆₄ p.y))

-- after the trials: an accepted estimate is the last where its step was small
unfoldable pub after_trials : Option Trial → Turn
after_trials None = Ended
after_trials (Some trial) = cond (small_step trial.step trial.estimate.point) (Last trial.estimate) (Further trial.estimate)

-- one turn of the method: it also ends at an exact solution and at a singular Jacobian
unfoldable pub newton_turn : BrownConrady5 → Pt2 → Estimate → Turn
newton_turn b target e =
    cond (eq (squared_residual e) plus_zero) Ended
    (cond (singular e.jacobian) Ended
    (after_trials (trials 30 b target e (newton_step e))))

-- the present estimate after a turn from e, and then after more turns
abbrev pub then_by : Estimate → Turn → (Estimate → Estimate) → Estimate
then_by e Ended more = e
then_by e (Last next) more = next
then_by e (Further next) more = more next

-- at most n turns
unfoldable pub newton : ℕ → BrownConrady5 → Pt2 → Estimate → Estimate
newton zero b target e = e
newton (suc n) b target e = then_by e (newton_turn b target e) (newton n b target)

-- one step more, without trials
unfoldable pub last_step : Estimate → Pt2
last_step e = cond (singular e.jacobian) e.point (minus_point e.point (newton_step e))

-- at most n turns from the target itself, and the last step
abbrev pub newton_undistorted : BrownConrady5 → Pt2 → ℕ → Pt2
newton_undistorted b target n = last_step (newton n b target (estimate_at b target target))

-- 0 stands for 20 turns
unfoldable pub undistorted : BrownConrady5 → ℕ → Pt2 → Pt2
undistorted b iters target = newton_undistorted b target (cond (eqb iters 0) 20 iters)
