-- The answer that scored a candidate, and the share of its rows that the mean rests on (docs/SPECIFICATION.md, 5.11).
-- Definitions only.
use Rattle.std.specs.Prelude.{ℕ, ◌≡◌, ◌⊎◌, true, Float}
use mathlib.Core.List.{List, [], ◌∷◌, ◌++◌, Memᴰ}
use Rattle.score.specs.declared.pinhole.PinholeCamera.{PinholeCamera}
use Rattle.score.specs.declared.outcome.Finding.TheVariants.{Solved}
use Rattle.score.specs.Evaluation.{solved_at}
use Rattle.score.specs.Share.{RestsOn}
use Rattle.score.specs.declared.best.Candidate.{Candidate}
use Rattle.search.specs.declared.run.Run.{Run}
use Rattle.book.specs.Calls.{Call, answer, scored}
use Rattle.book.specs.Book.{Entry, scored_of}
use Rattle.book.specs.Walk.{run_call}
use Rattle.book.specs.Trace.{run_after, list_after}

-- Among the calls cs, from the run r and the list l on, is w's own answer: w's seed waited under w's number, and the
-- reply was w's score. The mean is that of the answer's rows, of which at least the share counts.
pub record AnsweredBy (share : ℕ) (r : Run) (l : List Float) (cs : List Call) (w : Candidate) : Type 0 where
  pub before : List Call
  pub behind : List Call
  pub room : ℕ
  pub camera : PinholeCamera
  pub rows : List Float
  pub flags : List ℕ
  pub calls_are : cs ≡ before ++ answer room (Solved camera) rows flags ∷ behind
  pub waited : (run_after r l before).waiting.is_waiting ≡ true
  pub number_is : w.number ≡ (run_after r l before).place.number
  pub sensor_is : w.sensor ≡ (run_after r l before).waiting.seed.sensor
  pub replied : (run_call (run_after r l before) (list_after r l before) (answer room (Solved camera) rows flags)).reply ≡ scored w.score
  pub rests_on : RestsOn share (solved_at camera w.sensor) rows flags w.mean_reproj_error

-- If nothing was kept, w's own answer is among the calls. Otherwise w may also be a kept line's candidate, of which the
-- share isn't asked.
abbrev pub Rests : ℕ → List Entry → Run → List Float → List Call → Candidate → Type 0
Rests share [] r l cs w = AnsweredBy share r l cs w
Rests share (e ∷ es) r l cs w = Memᴰ w (scored_of (e ∷ es)) ⊎ AnsweredBy share r l cs w
