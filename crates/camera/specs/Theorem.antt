-- The theorems of camera, as types. The comment on each part names the file that proves it. Definitions only.
use Rattle.std.specs.Prelude.{◌≡◌, T, true, cond, List, [], ◌∷◌, eqb, Float, false, Ok}
use Rattle.std.specs.Float.Ieee.{binary64, fits, lt}
use Rattle.camera.specs.Distortion.{distorted, squared_norm}
use Rattle.camera.specs.declared.math.Pt2.{Pt2}
use Rattle.camera.specs.declared.distortion.BrownConrady5.{BrownConrady5}
use Rattle.camera.specs.NoDistortion.{AllZero, without_distortion}
use Prim.Native.Nat.{ℕ, zero, suc}
use Rattle.float.specs.Float.{is_finite}
use Rattle.camera.specs.Math.{minus_point}
use Rattle.camera.specs.Undistortion.{estimate_at, newton_turn, last_step, undistorted}
use Rattle.camera.specs.declared.undistort.Estimate.{Estimate}
use Rattle.camera.specs.declared.undistort.Turn.{Turn}
use Rattle.camera.specs.declared.undistort.Turn.TheVariants.{Ended, Last, Further}
use Rattle.float.specs.Literals.{half₆₄}
use Rattle.camera.specs.Matrix.{Matrix, determinant_of}
use Rattle.camera.specs.Sensor.{tilt_projection_matrix, tilt_verdict}
use Rattle.trig.specs.Series.{sines, cosines, series_of}
use Rattle.trig.specs.Answer.{tilt_too_large}

-- ---- What the distortion does where all five coefficients are 0. `proofs/NoDistortion.antt` proves it.

-- `fits` says that a coordinate is a value of the format, as every f64 of a program is
abbrev pub NoDistortion : Type 0
NoDistortion = (b : BrownConrady5) (p : Pt2) → AllZero b → T (fits binary64 p.x) → T (fits binary64 p.y) → distorted b p ≡ without_distortion b p

-- ---- What undistortion does: the squared length of `distorted b p - target` falls strictly along the points that it
-- accepts, from the target on, and the reply is the last Newton step from the last of them.
-- `proofs/Descent.antt` proves it.

-- ---- the points that at most n turns accept, in their order: from an estimate, and from the target itself
abbrev pub follow : Turn → (Estimate → List Pt2) → List Pt2
follow Ended more = []
follow (Last next) more = next.point ∷ []
follow (Further next) more = next.point ∷ more next

unfoldable pub accepted_from : ℕ → BrownConrady5 → Pt2 → Estimate → List Pt2
accepted_from zero b target e = []
accepted_from (suc n) b target e = follow (newton_turn b target e) (accepted_from n b target)

abbrev pub accepted : ℕ → BrownConrady5 → Pt2 → List Pt2
accepted n b target = accepted_from n b target (estimate_at b target target)

-- the last of some points, or p where there is none
abbrev pub last_of : Pt2 → List Pt2 → Pt2
last_of p [] = p
last_of p (q ∷ qs) = last_of q qs

module _ (b : BrownConrady5) (target : Pt2) where
  -- how far the distortion of p is from the target, squared
  abbrev pub distance : Pt2 → Float
  distance p = squared_norm (minus_point (distorted b p) target)

  pub record Closer (q p : Pt2) : Type 0 where
    pub finite : is_finite (distance q) ≡ true
    pub lower : lt (distance q) (distance p) ≡ true

  -- each is closer than the one before, the first than p
  abbrev pub Falling : Pt2 → List Pt2 → Type 0
  Falling p [] = Unit {0}
  Falling p (q ∷ qs) = Closer q p × Falling q qs

-- 0 means 20 turns
abbrev pub turns : ℕ → ℕ
turns iters = cond (eqb iters 0) 20 iters

-- for every lens, number of turns and target
pub record UndistortionDescends : Type 0 where
  pub falls : (b : BrownConrady5) (iters : ℕ) (target : Pt2) → Falling b target target (accepted (turns iters) b target)
  pub reply : (b : BrownConrady5) (iters : ℕ) (target : Pt2) → undistorted b iters target ≡ last_step (estimate_at b target (last_of target (accepted (turns iters) b target)))

-- ---- Tilts of at most 0.5 have an inverse. `specs/Invertible.antt` proves it.

-- the matrix of two tilts, with the sines and cosines of `trig`
abbrev pub tilted : Float → Float → Matrix
tilted x y = tilt_projection_matrix (record { sin_x = series_of sines x; cos_x = series_of cosines x; sin_y = series_of sines y; cos_y = series_of cosines y })

-- of two tilts of at most 0.5 in size
pub record TiltsInvertible : Type 0 where
  pub above_half : (x y : Float) → tilt_too_large x ≡ false → tilt_too_large y ≡ false → lt half₆₄ (determinant_of (tilted x y)) ≡ true
  pub never_singular : (x y : Float) → tilt_too_large x ≡ false → tilt_too_large y ≡ false → tilt_verdict (tilted x y) ≡ Ok tt
