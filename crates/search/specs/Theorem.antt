-- The floor of the stop call's reply, whatever list is lent, as a type. `proofs/StopLaws.antt` proves it. Definitions only.
use Rattle.std.specs.Prelude.{ℕ, ◌≡◌, false, Float, Some, Ok}
use mathlib.Core.List.{List, Memᴰ}
use Rattle.std.specs.Float.Ieee.{lt}
use Rattle.camera.specs.declared.math.Pt2.{Pt2}
use Rattle.seeds.specs.declared.CandidateSeed.{CandidateSeed}
use Rattle.score.specs.declared.outcome.Finding.{Finding}
use Rattle.score.specs.declared.outcome.Scoring.{Scoring}
use Rattle.score.specs.Evaluation.{outcome_of}
use Rattle.search.specs.declared.run.Run.{Run}
use Rattle.search.specs.declared.stop.Outlook.{Outlook}
use Rattle.search.specs.Stop.{left_seeds, stop_def}

-- no candidate from the seeds left can score below the floor of a reply, whichever camera the host finds
pub record StopFloorHolds : Type 0 where
  pub none_below : (r : Run) (l : List Float) (o : Outlook) → stop_def r l ≡ Ok o → (x : Float) → o.floor ≡ Some x → {s : CandidateSeed} → Memᴰ s (left_seeds r l)
      → (share : ℕ) (f : Finding) (center : Pt2) (rows : List Float) (flags : List ℕ) (g : Scoring) → outcome_of share f s.sensor center rows flags ≡ Ok g → lt g.score x ≡ false
