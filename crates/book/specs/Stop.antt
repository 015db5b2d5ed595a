-- What the reply of Stop means in a run (docs/SPECIFICATION.md, 9.2), as a type. Definitions only.
use Rattle.std.specs.Prelude.{◌≡◌, ◌↔◌, true, List, ◌++◌, Float, None}
use Rattle.score.specs.Best.{best_of}
use Rattle.search.specs.declared.run.Run.{Run}
use Rattle.search.specs.declared.stop.Outlook.{Outlook}
use Rattle.book.specs.Calls.{Call}
use Rattle.book.specs.Book.{Entry, scored_of}
use Rattle.book.specs.Rounds.{up_to}
use Rattle.book.specs.Trace.{all_answers, run_after}

-- If Stop says after the calls cs that the round can gain nothing, then after any further calls ds the best of all
-- answers up to this round's end is the best so far, and the run's best stays as long as the round lasts. Later rounds
-- aren't covered. The kept entries are among the answers.
pub record NothingGained (kept : List Entry) (r : Run) (l : List Float) (cs ds : List Call) : Type 0 where
  pub up_to_round : best_of (scored_of (up_to (run_after r l cs).place.round (all_answers kept r l (cs ++ ds)))) ≡ best_of (scored_of (all_answers kept r l cs))
  pub best_stays : (run_after r l (cs ++ ds)).place.round ≡ (run_after r l cs).place.round → (run_after r l (cs ++ ds)).run_best ≡ (run_after r l cs).run_best

-- the reply o of Stop after the calls cs
pub record Stops (kept : List Entry) (r : Run) (l : List Float) (cs : List Call) (o : Outlook) : Type 0 where
  -- nothing is left exactly where the run is over
  pub nothing_left : (o.floor ≡ None) ↔ ((run_after r l cs).place.over ≡ true)
  pub nothing_gained : o.no_gain ≡ true → (ds : List Call) → NothingGained kept r l cs ds
