-- The theorem about every list of calls, as a type. `book/proofs/Theorem.antt` proves it. Definitions only.
use Rattle.std.specs.Prelude.{ℕ, suc, ◌+◌, ◌≤◌, ◌<◌, ◌≡◌, ◌⊎◌, true, false, length, take, Float, Result, Ok, Err}
use mathlib.Core.List.{List, [], Memᴰ}
use Rattle.std.specs.Float.Ieee.{neg, lt, le, eq, is_nan}
use Rattle.common.specs.Each.{All}
use Rattle.common.specs.Checks.{first_refusal}
use Rattle.common.specs.declared.Refusal.{Refusal}
use Rattle.common.specs.declared.Refusal.TheVariants.{NothingScored}
use Rattle.float.specs.Float.{abs_of, is_finite}
use Rattle.float.specs.Literals.{plus_zero}
use Rattle.camera.specs.declared.sensor.ScheimpflugParams.{ScheimpflugParams}
use Rattle.seeds.specs.Rules.{tilts, seed_grid}
use Rattle.seeds.specs.AnyOffsets.{most_seeds}
use Rattle.seeds.specs.Layout.{six}
use Rattle.seeds.specs.Theorem.{Tried}
use Rattle.score.specs.declared.outcome.Finding.{Finding}
use Rattle.score.specs.declared.outcome.Finding.TheVariants.{Failed}
use Rattle.score.specs.Reasons.{Outcome}
use Rattle.score.specs.Camera.{tangential_bound}
use Rattle.score.specs.Evaluation.{row_checks, finding_refusal}
use Rattle.score.specs.declared.best.Candidate.{Candidate}
use Rattle.score.specs.Floor.{seeds_between}
use Rattle.search.specs.declared.run.Run.{Run}
use Rattle.search.specs.Record.{sound}
use Rattle.search.specs.declared.run.Options.{Options}
use Rattle.search.specs.declared.next.Handed.TheVariants as handed-as
use Rattle.search.specs.Start.{start_reply, start_list}
use Rattle.search.specs.Next.{next_def}
use Rattle.search.specs.Answer.{answer_refusal}
use Rattle.search.specs.Result.{result_def}
use Rattle.search.specs.Progress.{progress_def}
use Rattle.search.specs.declared.stop.Outlook.{Outlook}
use Rattle.search.specs.Stop.{stop_def}
use Rattle.book.specs.Calls.{Call}
use Rattle.book.specs.Book.{Inputs, demand, Entry, Book, entries, scored_of, first_list, opened, replies, after}
use Rattle.book.specs.Conditions.{FirstHolds, NoneHolds, conditions}
use Rattle.book.specs.Walk.{walk}
use Rattle.book.specs.Trace.{Handing, tilt_y_of, PlusZeroLater, handed_in_round, all_handed, all_answers, run_after, list_after}
use Rattle.book.specs.Named.{outcomes_in, handings}
use Rattle.book.specs.Rounds.{LaterRound}
use Rattle.book.specs.Share.{Rests}
use Rattle.book.specs.Stop.{Stops}
use Rattle.book.specs.Lent.{Lent, through, accepted, still_left, Turn, AllAccepted, turns}

-- ---- Start, on the book's inputs and a lent list
abbrev pub options_of : Inputs → Options
options_of i = record { refine_rounds = i.rounds; refine_step = i.step; max_abs_tilt = i.max; one_axis = i.one_axis; min_counted = i.share }

abbrev pub start_of : Inputs → List Float → Result Run Refusal
start_of i l = start_reply i.views (options_of i) i.xs i.ys i.decomposition i.base i.center l

abbrev pub started_list : Inputs → List Float → List Float
started_list i l = start_list i.views (options_of i) i.xs i.ys i.decomposition i.base i.center l

-- ---- no score of these answers is NaN
unfoldable pub NoNan : List Entry → Type 0
NoNan es = All (λ w. is_nan w.score ≡ false) (scored_of es)

-- ---- w is the winner of the accepted answers es
pub record Wins (i : Inputs) (es : List Entry) (w : Candidate) : Type 0 where
  -- it is a scored candidate of es
  pub is_scored : Memᴰ w (scored_of es)
  -- every scored candidate has at least as high a score, and any other one with an equal score has a later number
  pub lowest : All (λ v. le w.score v.score ≡ true) (scored_of es)
  pub earliest : All (λ v. eq w.score v.score ≡ true → (v ≡ w) ⊎ (w.number < v.number)) (scored_of es)
  -- its tilts lie within ±max_abs_tilt
  pub tilt_x_least : le (neg i.max) w.sensor.tilt_x ≡ true
  pub tilt_x_most : le w.sensor.tilt_x i.max ≡ true
  pub tilt_y_least : le (neg i.max) w.sensor.tilt_y ≡ true
  pub tilt_y_most : le w.sensor.tilt_y i.max ≡ true
  -- and in a one-axis run its tilt about y is a zero
  pub tilt_y_zero : i.one_axis ≡ true → eq w.sensor.tilt_y plus_zero ≡ true
  -- its focal lengths are finite and above 0
  pub fx_finite : is_finite w.camera.k.fx ≡ true
  pub fy_finite : is_finite w.camera.k.fy ≡ true
  pub fx_positive : lt plus_zero w.camera.k.fx ≡ true
  pub fy_positive : lt plus_zero w.camera.k.fy ≡ true
  -- k1, k2, k3 are 0, and p1 and p2 at most 0.05 in size
  pub k1_zero : w.camera.dist.k1 ≡ plus_zero
  pub k2_zero : w.camera.dist.k2 ≡ plus_zero
  pub k3_zero : w.camera.dist.k3 ≡ plus_zero
  pub p1_small : le (abs_of w.camera.dist.p1) tangential_bound ≡ true
  pub p2_small : le (abs_of w.camera.dist.p2) tangential_bound ≡ true
  -- its mean is finite and not below 0
  pub mean_finite : is_finite w.mean_reproj_error ≡ true
  pub mean_not_negative : lt w.mean_reproj_error plus_zero ≡ false

-- ---- the pair t of typed tilts was tried: the seed that stands for it in round 0's list was handed out and answered
pub record TiltTried (i : Inputs) (hs : List Handing) (es : List Entry) (t : ScheimpflugParams) : Type 0 where
  pub by : Tried (first_list i) (seed_grid i.xs i.ys i.max) i.base t
  pub number : ℕ
  pub outcome : Outcome
  pub handed_out : Memᴰ (record { round = 0; number = number; part = six by.seed }) hs
  pub answered : Memᴰ (record { number = number; round = 0; seed = by.seed; outcome = outcome }) es

-- The run is over: Result gives the winner, or 11. (Over as a reply is Next's alone, of a run that has a winner.)
abbrev pub Over : Run → Type 0
Over r = ((w : Candidate) × (result_def r ≡ Ok w)) ⊎ (result_def r ≡ Err NothingScored)

-- ---- What holds of a run r and a list l that are those of the book b, no seed waiting, for every list cs of calls.
-- kept are the entries that b has before the calls: none where Start opened the run, those of the kept lines where
-- Resume did. They are among the answers and the seeds handed out.
pub record ByBook (i : Inputs) (b : Book) (kept : List Entry) (r : Run) (l : List Float) (cs : List Call) : Type 0 where
  -- every reply is the book's
  pub same_replies : walk r l cs ≡ replies b cs
  -- the accepted answers are those that the book holds
  pub same_entries : all_answers kept r l cs ≡ entries (after b cs)
  -- whatever the host sent, none of their scores is NaN
  pub no_nan : NoNan (all_answers kept r l cs)
  -- If Result gives a winner: each round handed out the seeds that the rules name from Start's inputs and the outcomes
  -- of the rounds before, each once, in order, numbered from 0; and the winner is the earliest with the lowest score,
  -- with the properties of `Wins`.
  pub handed_out : (w : Candidate) → result_def (run_after r l cs) ≡ Ok w → all_handed kept r l cs ≡ handings i (outcomes_in (all_answers kept r l cs)) (suc i.rounds)
  pub wins : (w : Candidate) → result_def (run_after r l cs) ≡ Ok w → Wins i (all_answers kept r l cs) w
  -- and at least the share of the rows of its own answer counts in its mean, unless it is a kept line's
  pub rests : (w : Candidate) → result_def (run_after r l cs) ≡ Ok w → Rests i.share kept r l cs w
  -- If the run is over, with a winner or with 11, every typed pair within the bound was tried.
  pub every_tilt : Over (run_after r l cs) → (x y : Float) → Memᴰ x i.xs → Memᴰ y i.ys
      → le (neg i.max) x ≡ true → le x i.max ≡ true → le (neg i.max) y ≡ true → le y i.max ≡ true
      → TiltTried i (all_handed kept r l cs) (all_answers kept r l cs) (tilts x y)
  -- A later round hands out at most nine seeds, in a one-axis run at most three. In a one-axis run the tilt about y of
  -- each seed is a zero, and +0 in later rounds.
  pub few_later : (k : ℕ) → length (handed_in_round (suc k) (all_handed kept r l cs)) ≤ most_seeds i.one_axis
  pub untilted : i.one_axis ≡ true → All (λ h. eq (tilt_y_of h) plus_zero ≡ true) (all_handed kept r l cs)
  pub later_untilted : i.one_axis ≡ true → All PlusZeroLater (all_handed kept r l cs)
  -- at most 656 answers are accepted
  pub few_answers : length (all_answers kept r l cs) ≤ 656
  -- where a seed waits Answer accepts Failed, and Solved with rows that 13 doesn't refuse: 27 comes from a changed list
  -- alone
  pub answer_accepted : (run_after r l cs).waiting.is_waiting ≡ true → (f : Finding) (rows : List Float) (flags : List ℕ)
      → (f ≡ Failed) ⊎ (first_refusal (row_checks rows flags) ≡ Ok tt) → answer_refusal (run_after r l cs) (length (list_after r l cs)) f rows flags ≡ Ok tt
  -- after round 0 the list around the round's candidate stands in front of the lent list, and Progress's total is
  -- exactly its length
  pub later_round : 0 < (progress_def (run_after r l cs)).round
      → LaterRound i (all_answers kept r l cs) (progress_def (run_after r l cs)).round (progress_def (run_after r l cs)).total (list_after r l cs)
  -- in a one-axis run the tilt about y of every seed in the list is a zero, whether the seed was handed out or not
  pub listed_untilted : i.one_axis ≡ true → All (λ s. eq s.sensor.tilt_y plus_zero ≡ true) (seeds_between (list_after r l cs) 0 (progress_def (run_after r l cs)).total)
  -- what Stop, lent n numbers of the list, says of this round holds whatever calls follow
  pub stops : (n : ℕ) (o : Outlook) → stop_def (run_after r l cs) (take n (list_after r l cs)) ≡ Ok o → Stops kept r l cs o

-- of a run that Start opened, and of the list that Start wrote
abbrev pub Follows : Inputs → Run → List Float → List Call → Type 0
Follows i r l cs = ByBook i (opened i) [] r l cs

-- ---- How a run ends, whatever list each call is lent and whatever is answered. s is the run after the calls cs;
-- before is how many answers were accepted before them, 0 where Start opened the run.
pub record Ends (i : Inputs) (before : ℕ) (r : Run) (cs : List Lent) (s : Run) : Type 0 where
  -- its record is sound, its number counts the accepted answers, and with what is still left they are at most 656
  pub is_sound : sound s ≡ true
  pub number_is : s.place.number ≡ before + accepted r cs
  pub few : before + accepted r cs + still_left s ≤ 656
  -- Until the run is over, Next hands out a seed where none waits. Where one waits, Answer accepts each finding that
  -- isn't refused for itself; Failed never is.
  pub next_accepted : s.place.over ≡ false → s.waiting.is_waiting ≡ false → (l : List Float) → demand i ≤ length l
      → (next_def s l).reply ≡ Ok (handed-as.Candidate s.place.number)
  pub answer_accepted : s.waiting.is_waiting ≡ true → (l : List Float) (f : Finding) (rows : List Float) (flags : List ℕ) → demand i ≤ length l
      → finding_refusal f s.waiting.seed.sensor rows flags ≡ Ok tt → answer_refusal s (length l) f rows flags ≡ Ok tt
  pub failed_taken : (t : ScheimpflugParams) (rows : List Float) (flags : List ℕ) → finding_refusal Failed t rows flags ≡ Ok tt
  -- a host whose answers are accepted reaches the end
  pub reaches_end : (ts : List Turn) → AllAccepted i s ts → still_left s ≤ length ts → (through s (turns ts)).place.over ≡ true

-- ---- Start refuses exactly where one of the conditions holds, with the first that does, and leaves the list as it
-- was; otherwise it accepts
pub record Starts (i : Inputs) (l : List Float) : Type 0 where
  pub refuses_rightly : (r : Refusal) → start_of i l ≡ Err r → FirstHolds (conditions i (length l)) r
  pub refuses_all : (r : Refusal) → FirstHolds (conditions i (length l)) r → start_of i l ≡ Err r
  pub leaves_list : (r : Refusal) → start_of i l ≡ Err r → started_list i l ≡ l
  pub accepts_others : NoneHolds (conditions i (length l)) → (r : Run) × (start_of i l ≡ Ok r)

-- ---- the theorem: of Start on any inputs and any list, and then of any calls in any order, whatever the host answers
pub record IsBook (i : Inputs) (l : List Float) : Type 0 where
  pub starts : Starts i l
  pub follows : (r : Run) → start_of i l ≡ Ok r → (cs : List Call) → Follows i r (started_list i l) cs
  pub ends : (r : Run) → start_of i l ≡ Ok r → (cs : List Lent) → Ends i 0 r cs (through r cs)

abbrev pub SearchIsBook : Type 0
SearchIsBook = (i : Inputs) (l : List Float) → IsBook i l
