-- The squared length of `distorted b p - target` falls strictly along the points that undistortion accepts, from the
-- target on; the reply is the last Newton step from the last of them. Nothing is claimed of that step itself, since no
-- trial checks it. Assumes nothing.
use Rattle.std.specs.Prelude.{◌≡◌, Bool, true, false, cond, List, Option, Some, None}
use Rattle.std.proofs.Math.Path.{refl}
use Rattle.std.proofs.Common.{sym, ap, subst}
use Prim.Native.Nat.{ℕ, zero, suc}
use Rattle.std.specs.Float.Ieee.{eq}
use Rattle.common.specs.Tests.{both_true}
use Rattle.float.specs.Literals.{plus_zero}
use Rattle.camera.specs.Math.{minus_point}
use Rattle.camera.specs.Undistortion.{estimate_at, halved, squared_residual, singular, newton_step, improves, trials, small_step, after_trials, newton_turn, then_by, newton, last_step, undistorted}
use Rattle.camera.specs.declared.math.Pt2.{Pt2}
use Rattle.camera.specs.declared.distortion.BrownConrady5.{BrownConrady5}
use Rattle.camera.specs.declared.undistort.Estimate.{Estimate}
use Rattle.camera.specs.declared.undistort.Trial.{Trial}
use Rattle.camera.specs.declared.undistort.Turn.{Turn}
use Rattle.camera.specs.declared.undistort.Turn.TheVariants.{Ended, Last, Further}
use Rattle.camera.specs.Theorem.{follow, accepted_from, accepted, last_of, Closer, Falling, turns, UndistortionDescends}

module _ (b : BrownConrady5) (target : Pt2) where
  -- ---- what the trials and a turn from p accept: the estimate at a closer point
  abbrev Better : Pt2 → Estimate → Type 0
  Better p next = (next ≡ estimate_at b target next.point) × Closer b target next.point p

  improves_better : (p q : Pt2) → improves (estimate_at b target q) (estimate_at b target p) ≡ true → Better p (estimate_at b target q)
  unfolding improves estimate_at
  improves_better p q h = let c = both_true _ _ h in (refl, record { finite = c.0; lower = c.1 })

  abbrev Found : Pt2 → Option Trial → Type 0
  Found p None = Unit {0}
  Found p (Some trial) = Better p trial.estimate

  first_trial_or_rest_better : (c : Bool) (p q step : Pt2) (s : Option Trial) → c ≡ improves (estimate_at b target q) (estimate_at b target p) → Found p s → Found p (cond c (Some (record { estimate = estimate_at b target q; step = step })) s)
  first_trial_or_rest_better true p q step s h f = improves_better p q (sym h)
  first_trial_or_rest_better false p q step s h f = f

  trials_find_better : (n : ℕ) (p step : Pt2) → Found p (trials n b target (estimate_at b target p) step)
  unfolding trials estimate_at
  trials_find_better zero p step = tt
  trials_find_better (suc n) p step = first_trial_or_rest_better _ p (minus_point p step) step (trials n b target (estimate_at b target p) (halved step)) refl (trials_find_better n p (halved step))

  abbrev Taken : Pt2 → Turn → Type 0
  Taken p Ended = Unit {0}
  Taken p (Last next) = Better p next
  Taken p (Further next) = Better p next

  accepted_is_better : (c : Bool) (p : Pt2) (next : Estimate) → Better p next → Taken p (cond c (Last next) (Further next))
  accepted_is_better true p next h = h
  accepted_is_better false p next h = h

  turn_after_trials_better : (p : Pt2) (s : Option Trial) → Found p s → Taken p (after_trials s)
  unfolding after_trials
  turn_after_trials_better p None f = tt
  turn_after_trials_better p (Some trial) f = accepted_is_better (small_step trial.step trial.estimate.point) p trial.estimate f

  ended_or_better : (c : Bool) (p : Pt2) (t : Turn) → Taken p t → Taken p (cond c Ended t)
  ended_or_better true p t h = tt
  ended_or_better false p t h = h

  turn_takes_better : (p : Pt2) → Taken p (newton_turn b target (estimate_at b target p))
  unfolding newton_turn
  turn_takes_better p =
      let e = estimate_at b target p in
      ended_or_better (eq (squared_residual e) plus_zero) p _
      (ended_or_better (singular e.jacobian) p _ (turn_after_trials_better p _ (trials_find_better 30 p (newton_step e))))

  -- ---- so the squared lengths fall, for any number of turns
  falling_along_turn : (p : Pt2) (t : Turn) (more : Estimate → List Pt2) → Taken p t → ((q : Pt2) → Falling b target q (more (estimate_at b target q))) → Falling b target p (follow t more)
  falling_along_turn p Ended more h f = tt
  falling_along_turn p (Last next) more h f = (h.1, tt)
  falling_along_turn p (Further next) more h f = (h.1, subst (λ (e : Estimate). Falling b target next.point (more e)) (sym h.0) (f next.point))

  falls : (n : ℕ) (p : Pt2) → Falling b target p (accepted_from n b target (estimate_at b target p))
  unfolding accepted_from
  falls zero p = tt
  falls (suc n) p = falling_along_turn p (newton_turn b target (estimate_at b target p)) (accepted_from n b target) (turn_takes_better p) (falls n)

  -- ---- and the turns end at the last accepted point
  turn_ends_at_last_accepted : (p : Pt2) (t : Turn) (more : Estimate → Estimate) (rest : Estimate → List Pt2) → Taken p t
      → ((q : Pt2) → more (estimate_at b target q) ≡ estimate_at b target (last_of q (rest (estimate_at b target q))))
      → then_by (estimate_at b target p) t more ≡ estimate_at b target (last_of p (follow t rest))
  turn_ends_at_last_accepted p Ended more rest h f = refl
  turn_ends_at_last_accepted p (Last next) more rest h f = h.0
  turn_ends_at_last_accepted p (Further next) more rest h f =
      subst (λ (e : Estimate). more e ≡ estimate_at b target (last_of next.point (rest e))) (sym h.0) (f next.point)

  newton_ends_at_last_accepted : (n : ℕ) (p : Pt2) → newton n b target (estimate_at b target p) ≡ estimate_at b target (last_of p (accepted_from n b target (estimate_at b target p)))
  unfolding newton accepted_from
  newton_ends_at_last_accepted zero p = refl
  newton_ends_at_last_accepted (suc n) p = turn_ends_at_last_accepted p (newton_turn b target (estimate_at b target p)) (newton n b target) (accepted_from n b target) (turn_takes_better p) (newton_ends_at_last_accepted n)

reply_is_last_step : (b : BrownConrady5) (iters : ℕ) (target : Pt2) → undistorted b iters target ≡ last_step (estimate_at b target (last_of target (accepted (turns iters) b target)))
unfolding undistorted
reply_is_last_step b iters target = ap last_step (newton_ends_at_last_accepted b target (turns iters) target)

pub descends : UndistortionDescends
descends = record { falls = λ b iters target. falls b target (turns iters) target; reply = reply_is_last_step }
