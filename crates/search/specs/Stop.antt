-- The stop call, as a function of the run's record and the lent list, for every record and list. Definitions only.
use Rattle.std.specs.Prelude.{◌+◌, false, not, cond, List, [], ◌∷◌, ltb, length, Float, Option, Some, None, Result, Ok, Err}
use Rattle.std.specs.Float.Ieee.{lt}
use Rattle.common.specs.declared.Refusal.{Refusal}
use Rattle.common.specs.declared.Refusal.TheVariants.{ListShortened}
use Rattle.seeds.specs.declared.CandidateSeed.{CandidateSeed}
use Rattle.score.specs.declared.best.Candidate.{Candidate}
use Rattle.score.specs.Best.{best_candidate}
use Rattle.score.specs.Floor.{floor_of, seeds_between}
use Rattle.search.specs.Record.{sound}
use Rattle.search.specs.declared.run.Run.{Run}
use Rattle.search.specs.declared.stop.Outlook.{Outlook}

-- the seeds of this round's list not yet answered: the waiting one as the run keeps it, and the others as they stand in the list now
unfoldable pub left_seeds : Run → List Float → List CandidateSeed
left_seeds r l =
    let p = r.place in
    cond r.waiting.is_waiting (r.waiting.seed ∷ seeds_between l (p.at + 1) p.len) (seeds_between l p.at p.len)

-- the run's best, as Result gives it, if there is one
unfoldable pub best_so_far : Run → Option Candidate
best_so_far r = best_candidate r.run_best

abbrev pub nothing_left : Option Candidate → Outlook
nothing_left b = record { best = b; floor = None; no_gain = false }

-- this round can gain nothing where the floor isn't below the best's score; with no best nothing is said of gain
abbrev pub with_floor : Option Candidate → Float → Outlook
with_floor b x = record { best = b; floor = Some x; no_gain = elim b [ Some w ↦ not (lt x w.score) | None ↦ false ] }

unfoldable pub outlook_of : Option Candidate → List CandidateSeed → Outlook
outlook_of b [] = nothing_left b
outlook_of b (s ∷ ss) = with_floor b (floor_of (s ∷ ss))

-- 10 where the list is shorter than the run demands. A record that isn't sound is answered as a run that ended with
-- nothing scored.
unfoldable pub stop_def : Run → List Float → Result Outlook Refusal
stop_def r l =
    cond (sound r)
    (cond (ltb (length l) r.place.demand) (Err ListShortened) (Ok (outlook_of (best_so_far r) (left_seeds r l))))
    (Ok (nothing_left None))
