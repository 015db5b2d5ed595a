-- How the trials and the turns go on after one of them, and how they end. Assumes nothing.
use Rattle.std.proofs.Common.{◌≡◌, refl, sym, true, false, ℕ, zero, suc, Some, None}
use Rattle.camera.specs.Math.{minus_point}
use Rattle.camera.specs.Undistortion.{estimate_at, halved, improves, trials, newton_turn, newton}
use Rattle.camera.specs.declared.math.Pt2.{Pt2}
use Rattle.camera.specs.declared.distortion.BrownConrady5.{BrownConrady5}
use Rattle.camera.specs.declared.undistort.Estimate.{Estimate}
use Rattle.camera.specs.declared.undistort.Turn.TheVariants.{Ended, Last, Further}

pub trials_end : (n : ℕ) (b : BrownConrady5) (target : Pt2) (e : Estimate) (step : Pt2) → n ≡ 0 → trials n b target e step ≡ None
unfolding trials
trials_end n b target e step h = rw h

pub newton_none : (n : ℕ) (b : BrownConrady5) (target : Pt2) (e : Estimate) → n ≡ 0 → newton n b target e ≡ e
unfolding newton
newton_none n b target e h = rw h

pub newton_ends : (n : ℕ) (b : BrownConrady5) (target : Pt2) (e : Estimate) → newton_turn b target e ≡ Ended → newton n b target e ≡ e
unfolding newton
newton_ends zero b target e t = refl
newton_ends (suc n) b target e t = rw t

module _ (b : BrownConrady5) (target : Pt2) (e next : Estimate) (n left : ℕ) (one : n ≡ suc left) where
  module _ (step : Pt2) (is : next ≡ estimate_at b target (minus_point e.point step)) where
    pub trials_accepts : improves next e ≡ true → trials n b target e step ≡ Some (record { estimate = next; step = step })
    unfolding trials
    trials_accepts better = rw one (simp (sym is, better))

    pub trials_halves : improves next e ≡ false → trials n b target e step ≡ trials left b target e (halved step)
    unfolding trials
    trials_halves better = rw one (simp (sym is, better))

  pub newton_last : newton_turn b target e ≡ Last next → newton n b target e ≡ next
  unfolding newton
  newton_last t = rw (one, t)

  pub newton_next : newton_turn b target e ≡ Further next → newton n b target e ≡ newton left b target next
  unfolding newton
  newton_next t = rw (one, t)
