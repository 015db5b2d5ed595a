-- What a list of calls hands out and what it accepts, read off the definitions of the entry points alone. Definitions
-- only.
use Rattle.std.specs.Prelude.{ℕ, ◌<◌, ◌≡◌, List, [], ◌∷◌, ◌++◌, map, eqb, length, get_or, take, Float, Result, Ok, Err}
use Rattle.std.specs.Float.{nan}
use Rattle.common.specs.declared.Refusal.{Refusal}
use Rattle.seeds.specs.Merge.{keep}
use Rattle.seeds.specs.Layout.{six}
use Rattle.score.specs.Evaluation.{outcome_of}
use Rattle.float.specs.Literals.{plus_zero}
use Rattle.search.specs.declared.run.Run.{Run}
use Rattle.search.specs.declared.next.Handed.{Handed}
use Rattle.search.specs.declared.next.Handed.TheVariants.{Candidate, Over}
use Rattle.search.specs.Next.{next_def, seed_part}
use Rattle.search.specs.Answer.{answer_refusal}
use Rattle.book.specs.Calls.{Call, next, seed, answer, ask, progress, stop, last, counts}
use Rattle.book.specs.Book.{Entry}
use Rattle.book.specs.Walk.{run_call}

-- ---- a candidate that Next handed out: its round, its number, and what the seed call then returns
pub record Handing : Type 0 where
  pub round : ℕ
  pub number : ℕ
  pub part : List Float

-- its tilt about y
abbrev pub tilt_y_of : Handing → Float
tilt_y_of h = get_or h.part 5 nan

-- from round 1 on the tilt about y is +0
abbrev pub PlusZeroLater : Handing → Type 0
PlusZeroLater h = 0 < h.round → tilt_y_of h ≡ plus_zero

unfoldable pub handed_in_round : ℕ → List Handing → List Handing
handed_in_round k hs = keep (λ h. eqb h.round k) hs

abbrev pub handing : Run → List Float → Result Handed Refusal → List Handing
handing r l (Ok (Candidate n)) = record { round = r.place.round; number = n; part = seed_part r l } ∷ []
handing r l (Ok Over) = []
handing r l (Err refusal) = []

unfoldable pub handed_by : Run → List Float → Call → List Handing
handed_by r l (next n) = let a = next_def r (take n l) in handing a.run l a.reply
handed_by r l (seed n) = []
handed_by r l (answer n f rows flags) = []
handed_by r l ask = []
handed_by r l progress = []
handed_by r l (stop n) = []
handed_by r l last = []
handed_by r l counts = []

-- ---- the entry of an accepted Answer: the number, the round, the waiting seed as the run keeps it, and the outcome
unfoldable pub answered_by : Run → List Float → Call → List Entry
answered_by r l (next n) = []
answered_by r l (seed n) = []
answered_by r l (answer n f rows flags) =
    elim (answer_refusal r (length (take n l)) f rows flags) [
      | Ok nothing_refused ↦ record { number = r.place.number; round = r.place.round; seed = r.waiting.seed; outcome = outcome_of r.options.min_counted f r.waiting.seed.sensor r.center rows flags } ∷ []
      | Err refusal ↦ []
    ]
answered_by r l ask = []
answered_by r l progress = []
answered_by r l (stop n) = []
answered_by r l last = []
answered_by r l counts = []

-- ---- over a whole list of calls
unfoldable pub handed : Run → List Float → List Call → List Handing
handed r l [] = []
handed r l (c ∷ cs) = let a = run_call r l c in handed_by r l c ++ handed a.run a.list cs

unfoldable pub answers : Run → List Float → List Call → List Entry
answers r l [] = []
answers r l (c ∷ cs) = let a = run_call r l c in answered_by r l c ++ answers a.run a.list cs

-- ---- the same with the entries that were kept before the calls: none where Start opened the run, those of the kept
-- lines where Resume did
-- an entry as it was handed out
abbrev pub handing_of : Entry → Handing
handing_of e = record { round = e.round; number = e.number; part = six e.seed }

abbrev pub all_handed : List Entry → Run → List Float → List Call → List Handing
all_handed kept r l cs = map handing_of kept ++ handed r l cs

abbrev pub all_answers : List Entry → Run → List Float → List Call → List Entry
all_answers kept r l cs = kept ++ answers r l cs

-- ---- the run and the list after the calls
unfoldable pub run_after : Run → List Float → List Call → Run
run_after r l [] = r
run_after r l (c ∷ cs) = let a = run_call r l c in run_after a.run a.list cs

unfoldable pub list_after : Run → List Float → List Call → List Float
list_after r l [] = l
list_after r l (c ∷ cs) = let a = run_call r l c in list_after a.run a.list cs
