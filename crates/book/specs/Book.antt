-- The reference model of a search (docs/SPECIFICATION.md, chapter 7): what follows from Start's inputs, the order of
-- the calls and what the host sends to Answer. It goes by the rules of the seeds, the scores and the best, and knows
-- nothing of the run's record or the lent list. Definitions only.
use Rattle.std.specs.Prelude.{ℕ, zero, suc, ◌+◌, ◌-◌, ◌*◌, ◌/◌, Bool, true, false, not, ◌&&◌, cond, List, [], ◌∷◌, ◌++◌, map, ltb, length, get_or, drop, Float, Result, Ok, Err, ⊤}
use Rattle.std.proofs.Math.Option.{Option, none, some}
use Rattle.std.specs.Float.Ieee.{lt}
use Rattle.common.specs.Checks.{◌when◌, first_refusal}
use Rattle.common.specs.declared.Refusal.{Refusal}
use Rattle.common.specs.declared.Refusal.TheVariants.{SeedWaiting, ListShortened, NothingScored, NoSeedWaiting, NotOver}
use Rattle.float.specs.Binary64.{◌*₆₄◌}
use Rattle.float.specs.Literals.{plus_zero, half₆₄}
use Rattle.camera.specs.declared.math.Pt2.{Pt2}
use Rattle.camera.specs.declared.intrinsics.FxFyCxCy.{FxFyCxCy}
use Rattle.seeds.specs.declared.CandidateSeed.{CandidateSeed}
use Rattle.seeds.specs.Rules.{initial_list, offsets, y_offsets, next_list}
use Rattle.seeds.specs.Layout.{six, all_seeds}
use Rattle.score.specs.declared.outcome.Finding.{Finding}
use Rattle.score.specs.Reasons.{Outcome}
use Rattle.score.specs.Evaluation.{outcome_of, finding_refusal}
use Rattle.score.specs.declared.best.Candidate.{Candidate}
use Rattle.score.specs.Best.{Chosen, nothing, chosen, best_of, candidate_of}
use Rattle.score.specs.Floor.{floor_of}
use Rattle.book.specs.Calls.{Call, next, seed, answer, ask, progress, stop, Rest, nothing_left, floor, Reply, candidate, over, part, scored, skipped, result, bar, stopped, refused, last, line, no_line, counts, counted}
use Rattle.journal.specs.declared.Counts.{Counts}
use Rattle.journal.specs.declared.Line.{Line}
use Rattle.journal.specs.Counts.{counts_in}
use Rattle.journal.specs.Outcome.{recorded_as}

-- ---- what Start is given
pub record Inputs : Type 0 where
  pub views : ℕ
  pub rounds : ℕ
  pub step : Float
  pub max : Float
  pub one_axis : Bool
  pub share : ℕ
  pub xs : List Float
  pub ys : List Float
  pub decomposition : List Float
  pub base : FxFyCxCy
  pub center : Pt2

-- how many numbers the lent list must have: six for each seed that round 0 can have, and at least 54, which is nine
-- seeds
unfoldable pub demand : Inputs → ℕ
demand i = let n = 6 * (length i.decomposition / 6 + length i.xs * length i.ys) in cond (ltb n 54) 54 n

-- ---- an answered candidate: its number, the round that it was handed out in, its seed, its outcome
pub record Entry : Type 0 where
  pub number : ℕ
  pub round : ℕ
  pub seed : CandidateSeed
  pub outcome : Outcome

-- The reference model as a record: the round and its list, the entries of earlier rounds and of this one, whether a
-- seed waits, and whether the run is over.
pub record Book : Type 0 where
  pub inputs : Inputs
  pub round : ℕ
  pub list : List CandidateSeed
  pub earlier : List Entry
  pub answered : List Entry
  pub waits : Bool
  pub over : Bool

abbrev pub entries : Book → List Entry
entries b = b.earlier ++ b.answered

-- the next candidate's number: numbers are counted from 0 over the run
abbrev pub number : Book → ℕ
number b = length (entries b)

-- the seed of zeros that `current` gives where the list has no further seed
abbrev pub no_seed : CandidateSeed
no_seed = record { reference_k = record { fx = plus_zero; fy = plus_zero; cx = plus_zero; cy = plus_zero }; sensor = record { tilt_x = plus_zero; tilt_y = plus_zero } }

-- the seed that waits, or is handed out next
abbrev pub current : Book → CandidateSeed
current b = get_or b.list (length b.answered) no_seed

-- ---- the best
-- the candidates of the entries that were scored
unfoldable pub scored_of : List Entry → List Candidate
scored_of [] = []
scored_of (e ∷ es) = elim e.outcome [ Ok s ↦ candidate_of e.number e.seed.sensor s ∷ scored_of es | Err reason ↦ scored_of es ]

-- the earliest with the lowest score, of the round's scored candidates and of the run's
unfoldable pub round_best_of : Book → Chosen
round_best_of b = best_of (scored_of b.answered)

unfoldable pub run_best_of : Book → Chosen
run_best_of b = best_of (scored_of (entries b))

abbrev pub or_else : Chosen → Chosen → Chosen
or_else nothing c = c
or_else (chosen w) c = chosen w

-- ---- the lists
-- The step of a round: refine_step in round 1, and half of the step before in each later round. Round 0 has no step; it
-- is +0 here.
unfoldable pub step_of : ℕ → Float → Float
step_of zero s = plus_zero
step_of (suc zero) s = s
step_of (suc (suc n)) s = step_of (suc n) s *₆₄ half₆₄

unfoldable pub first_list : Inputs → List CandidateSeed
first_list i = initial_list (all_seeds i.decomposition) i.xs i.ys i.base i.max

-- the offsets of tilt_x and of tilt_y by which the seeds of round r differ from the candidate that the round's list
-- lies around; in a one-axis run tilt_y has the offset 0 alone
abbrev pub offsets_x : Inputs → ℕ → List Float
offsets_x i r = offsets (step_of r i.step)

abbrev pub offsets_y : Inputs → ℕ → List Float
offsets_y i r = y_offsets i.one_axis (step_of r i.step)

-- the list of round r around a candidate: each offset of tilt_x with each of tilt_y, with that candidate's camera
unfoldable pub list_around : Inputs → ℕ → Candidate → List CandidateSeed
list_around i r w = next_list (offsets_x i r) (offsets_y i r) w.sensor w.camera.k i.max

-- ---- how the book changes
abbrev pub is_empty : List CandidateSeed → Bool
is_empty [] = true
is_empty (s ∷ ss) = false

-- An accepted Start opens the book at round 0 with round 0's list. An empty list ends the run at once.
unfoldable pub opened : Inputs → Book
opened i = record { inputs = i; round = 0; list = first_list i; earlier = []; answered = []; waits = false; over = is_empty (first_list i) }

unfoldable pub with_waiting : Book → Book
with_waiting b = record { inputs = b.inputs; round = b.round; list = b.list; earlier = b.earlier; answered = b.answered; waits = true; over = b.over }

-- adds the entry of the waiting candidate with its outcome; no seed waits then
unfoldable pub with_entry : Book → Outcome → Book
with_entry b o = record {
  inputs = b.inputs;
  round = b.round;
  list = b.list;
  earlier = b.earlier;
  answered = b.answered ++ (record { number = number b; round = b.round; seed = current b; outcome = o } ∷ []);
  waits = false;
  over = b.over;
}

unfoldable pub with_round : Book → List CandidateSeed → Book
with_round b ss = record { inputs = b.inputs; round = suc b.round; list = ss; earlier = entries b; answered = []; waits = false; over = b.over }

unfoldable pub with_end : Book → Book
with_end b = record { inputs = b.inputs; round = b.round; list = b.list; earlier = b.earlier; answered = b.answered; waits = false; over = true }

-- a list with seeds opens the next round; otherwise what follows is `rest`
abbrev pub open_round : Book → List CandidateSeed → Book → Book
open_round b [] rest = rest
open_round b (s ∷ ss) rest = with_round b (s ∷ ss)

-- The round has ended, and k further rounds are asked for. The run is over if no further round is asked for or nothing
-- is scored yet. Otherwise the next list lies around the round's best or, if the round has none, around the run's. An
-- empty list ends its round at once.
unfoldable pub close_round : ℕ → Book → Book
close_round zero b = with_end b
close_round (suc k) b = elim (or_else (round_best_of b) (run_best_of b)) [
  | nothing ↦ with_end b
  | chosen w ↦ open_round b (list_around b.inputs (suc b.round) w) (close_round k (with_round b []))
]

-- an outcome is entered; the answer to the list's last seed ends the round
unfoldable pub book_enter : Book → Outcome → Book
book_enter b o =
    let c = with_entry b o in
    cond (ltb (length c.answered) (length c.list)) c (close_round (c.inputs.rounds - c.round) c)

-- ---- what the book replies to a call, and the book after it
pub record BookLeft : Type 0 where
  pub reply : Reply
  pub book : Book

abbrev pub book_left : Reply → Book → BookLeft
book_left a b = record { reply = a; book = b }

-- a refused call leaves the book as it was
abbrev pub unless : Result ⊤ Refusal → Book → BookLeft → BookLeft
unless (Ok nothing_refused) b k = k
unless (Err refusal) b k = book_left (refused refusal) b

abbrev pub is_nothing : Chosen → Bool
is_nothing nothing = true
is_nothing (chosen w) = false

-- Next: 9 where a seed waits, 10 where the list is too short, 11 where the run is over and nothing was scored, Over
-- where it is over and has a result; else the next number
unfoldable pub book_next : Book → ℕ → BookLeft
book_next b n =
    unless
    (first_refusal
    ((SeedWaiting when b.waits)
    ∷ (ListShortened when ltb n (demand b.inputs))
    ∷ (NothingScored when (b.over && is_nothing (run_best_of b)))
    ∷ []))
    b
    (cond b.over (book_left over b) (book_left (candidate (number b)) (with_waiting b)))

-- the seed call: the waiting seed's six numbers; none where no seed waits or the list is too short
unfoldable pub book_seed : Book → ℕ → BookLeft
book_seed b n = book_left (part (cond (b.waits && not (ltb n (demand b.inputs))) (six (current b)) [])) b

abbrev pub reply_to : Outcome → Reply
reply_to (Ok s) = scored s.score
reply_to (Err reason) = skipped reason

-- the outcome of a finding for the waiting seed
abbrev pub book_outcome : Book → Finding → List Float → List ℕ → Outcome
book_outcome b f rows flags = outcome_of b.inputs.share f (current b).sensor b.inputs.center rows flags

-- Answer: 12 where no seed waits, 10 where the list is too short, and then what is refused of the finding with the
-- waiting seed's tilts
unfoldable pub book_answer : Book → ℕ → Finding → List Float → List ℕ → BookLeft
book_answer b n f rows flags =
    let o = book_outcome b f rows flags in
    unless
    (first_refusal ((NoSeedWaiting when not b.waits) ∷ (ListShortened when ltb n (demand b.inputs)) ∷ []))
    b
    (unless (finding_refusal f (current b).sensor rows flags) b (book_left (reply_to o) (book_enter b o)))

-- Result: 14 where the run isn't over, 11 where it is over and nothing was scored; else the run's best
abbrev pub best_reply : Chosen → Reply
best_reply nothing = refused NothingScored
best_reply (chosen w) = result w

unfoldable pub book_result : Book → BookLeft
book_result b = unless (first_refusal ((NotOver when not b.over) ∷ [])) b (book_left (best_reply (run_best_of b)) b)

-- Progress: `total` is the length of this round's list.
unfoldable pub book_progress : Book → BookLeft
book_progress b =
    book_left (bar (record { round = b.round; rounds = b.inputs.rounds; answered = length b.answered; total = length b.list; in_run = number b })) b

-- what is left of a round: the seeds of its list that aren't answered, from the current one on
abbrev pub left_in : Book → List CandidateSeed
left_in b = drop (length b.answered) b.list

-- The round can gain nothing where the floor isn't below the score of the run's best. It isn't said where there is
-- none.
abbrev pub no_gain_of : Float → Chosen → Bool
no_gain_of x nothing = false
no_gain_of x (chosen w) = not (lt x w.score)

unfoldable pub rest_of : List CandidateSeed → Chosen → Rest
rest_of [] best = nothing_left
rest_of (s ∷ ss) best = floor (floor_of (s ∷ ss)) (no_gain_of (floor_of (s ∷ ss)) best)

-- what is left of the book's round, compared with the run's best
abbrev pub rest_in : Book → Rest
rest_in b = rest_of (left_in b) (run_best_of b)

-- Stop: 10 where the list is too short; else the run's best, if any, and what is left
unfoldable pub book_stop : Book → ℕ → BookLeft
book_stop b n = unless (first_refusal ((ListShortened when ltb n (demand b.inputs)) ∷ [])) b (book_left (stopped (run_best_of b) (rest_in b)) b)

-- the line of an entry (docs/SPECIFICATION.md, 6.9): its round is the one in which its seed was handed out, its camera
-- the damped one that was scored
abbrev pub line_of : Entry → Line
line_of e = record { number = e.number; round = e.round; seed = e.seed; outcome = recorded_as e.outcome }

unfoldable pub last_of : List Entry → Option Entry
last_of [] = none
last_of (e ∷ es) = elim (last_of es) [ none ↦ some e | some d ↦ some d ]

abbrev pub line_reply : Option Entry → Reply
line_reply none = no_line
line_reply (some e) = line (line_of e)

unfoldable pub book_last : Book → BookLeft
book_last b = book_left (line_reply (last_of (entries b))) b

-- how many of the entries were scored, and how many were skipped for each reason (docs/SPECIFICATION.md, 6.10)
unfoldable pub tally : List Entry → Counts
tally es = counts_in (map line_of es)

unfoldable pub book_counts : Book → BookLeft
book_counts b = book_left (counted (tally (entries b))) b

unfoldable pub book_call : Book → Call → BookLeft
book_call b (next n) = book_next b n
book_call b (seed n) = book_seed b n
book_call b (answer n f rows flags) = book_answer b n f rows flags
book_call b ask = book_result b
book_call b progress = book_progress b
book_call b (stop n) = book_stop b n
book_call b last = book_last b
book_call b counts = book_counts b

-- ---- a whole list of calls: the book's replies, and the book after them
unfoldable pub replies : Book → List Call → List Reply
replies b [] = []
replies b (c ∷ cs) = let k = book_call b c in k.reply ∷ replies k.book cs

unfoldable pub after : Book → List Call → Book
after b [] = b
after b (c ∷ cs) = after (book_call b c).book cs
