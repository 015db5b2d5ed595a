-- A line's numbers beside the run's, and what a line records that can stand for an answer. Definitions only.
use Rattle.std.specs.Prelude.{Bool, true, false, not, ◌&&◌, List, [], ◌∷◌, eqb, Float, Ok, Err}
use Rattle.std.specs.Float.Ieee.{lt}
use Rattle.float.specs.Float.{bits_of, is_finite, within}
use Rattle.float.specs.Literals.{plus_zero}
use Rattle.camera.specs.declared.math.Pt2.{Pt2}
use Rattle.camera.specs.declared.sensor.ScheimpflugParams.{ScheimpflugParams}
use Rattle.score.specs.Camera.{tangential_bound, valid_camera}
use Rattle.score.specs.Penalties.{score_of}
use Rattle.journal.specs.declared.ScoredFields.{ScoredFields}
use Rattle.journal.specs.Outcome.{Recorded, scoring_in}

-- bit by bit, any NaN matching any
unfoldable pub same_real : Float → Float → Bool
same_real x y = eqb (bits_of x) (bits_of y)

unfoldable pub same_reals : List Float → List Float → Bool
same_reals [] [] = true
same_reals [] (y ∷ ys) = false
same_reals (x ∷ xs) [] = false
same_reals (x ∷ xs) (y ∷ ys) = same_real x y && same_reals xs ys

-- a finite mean, not below 0
unfoldable pub is_mean : Float → Bool
is_mean x = is_finite x && not (lt x plus_zero)

-- What a line with S records of a seed with the tilts t: a camera that passes Answer's check, with tangential
-- coefficients of at most 0.05 in size, a mean, and the very score that Answer would work out from them.
unfoldable pub can_be_scored : Pt2 → ScheimpflugParams → ScoredFields → Bool
can_be_scored center t m =
    let c = (scoring_in m).camera in
    valid_camera c
    && within tangential_bound m.p1
    && within tangential_bound m.p2
    && is_mean m.mean
    && same_real m.score (score_of m.mean c t center)

-- What a line records of a seed with the tilts t can be taken for its answer. Of a skip nothing is asked.
abbrev pub can_stand : Pt2 → ScheimpflugParams → Recorded → Bool
can_stand center t (Ok m) = can_be_scored center t m
can_stand center t (Err reason) = true
