-- Answer, as a function of the run's record, the finding and the lent list: refusals, then the rules' outcome, then its entry. Definitions only.
use Rattle.std.specs.Prelude.{ℕ, zero, suc, ◌-◌, not, ◌&&◌, cond, List, [], ◌∷◌, ltb, length, Float, Result, Ok, Err, ⊤}
use Rattle.common.specs.Checks.{◌when◌, first_refusal}
use Rattle.common.specs.declared.Refusal.{Refusal}
use Rattle.common.specs.declared.Refusal.TheVariants.{NoSeedWaiting, ListShortened}
use Rattle.seeds.specs.declared.CandidateSeed.{CandidateSeed}
use Rattle.seeds.specs.Rules.{offsets, y_offsets, next_list}
use Rattle.seeds.specs.Layout.{written}
use Rattle.score.specs.declared.outcome.Finding.{Finding}
use Rattle.score.specs.Reasons.{Outcome}
use Rattle.score.specs.Evaluation.{outcome_of, finding_refusal}
use Rattle.score.specs.Best.{or_best}
use Rattle.score.specs.declared.best.Candidate.{Candidate}
use Rattle.search.specs.Record.{sound, entered, next_step, round_opened, ended}
use Rattle.search.specs.declared.run.Reply.{Reply}
use Rattle.search.specs.declared.run.Run.{Run}
use Rattle.search.specs.declared.answer.Answered.{Answered}
use Rattle.search.specs.declared.answer.Answered.TheVariants.{Scored, Skipped}

-- the run and the lent list after a call
pub record Left : Type 0 where
  pub run : Run
  pub list : List Float

abbrev pub left : Run → List Float → Left
left r l = record { run = r; list = l }

-- ---- refusals: 12 no seed is waiting (or the record isn't sound), 10 the list is too short, then those of the finding for the seed that the run keeps
abbrev pub run_refusal : Run → ℕ → Result ⊤ Refusal
run_refusal r n = first_refusal ((NoSeedWaiting when not (sound r && r.waiting.is_waiting)) ∷ (ListShortened when ltb n r.place.demand) ∷ [])

abbrev pub answer_refusal : Run → ℕ → Finding → List Float → List ℕ → Result ⊤ Refusal
answer_refusal r n f rows flags = elim (run_refusal r n) [ Ok _ ↦ finding_refusal f r.waiting.seed.sensor rows flags | Err refusal ↦ Err refusal ]

-- ---- the end of a round
-- the seeds around a candidate, with its camera
unfoldable pub next_seeds : Run → Candidate → List CandidateSeed
next_seeds r c = let s = next_step r in next_list (offsets s) (y_offsets r.options.one_axis s) c.sensor c.camera.k r.options.max_abs_tilt

-- a list with seeds is written and opens the next round; otherwise what follows is `rest`
abbrev pub open_round : Run → List Float → List CandidateSeed → Left → Left
open_round r l [] rest = rest
open_round r l (s ∷ ss) rest = left (round_opened r (length (s ∷ ss))) (written (s ∷ ss) l)

-- k further rounds are asked for: the next list that has a seed, around the round's best, or, if it has none, the run's; or the end. An empty list ends its round at once.
unfoldable pub close_round : ℕ → Run → List Float → Left
close_round zero r l = left (ended r) l
close_round (suc k) r l =
    let b = or_best r.round_best r.run_best in
    cond b.found (open_round r l (next_seeds r b.candidate) (close_round k (round_opened r 0) l)) (left (ended r) l)

-- ---- an outcome is entered: the round goes on, or ends with its last seed
unfoldable pub enter_def : Run → List Float → Outcome → Left
enter_def r l o =
    let e = entered r o in
    cond (ltb e.place.at e.place.len) (left e l) (close_round (e.options.refine_rounds - e.place.round) e l)

abbrev pub reply_of : Outcome → Answered
reply_of (Ok s) = Scored s.score
reply_of (Err reason) = Skipped reason

-- the outcome of a finding for the seed that waits
unfoldable pub outcome_for : Run → Finding → List Float → List ℕ → Outcome
outcome_for r f rows flags = outcome_of r.options.min_counted f r.waiting.seed.sensor r.center rows flags

-- what Answer replies, and the run and the list after it
pub record AnswerLeft : Type 0 where
  pub reply : Reply Answered
  pub list : List Float

-- a refused Answer leaves the run and the list
unfoldable pub answer_def : Run → Finding → List Float → List ℕ → List Float → AnswerLeft
answer_def r f rows flags l =
    let o = outcome_for r f rows flags in
    elim (answer_refusal r (length l) f rows flags) [
      | Ok _ ↦ record { reply = record { reply = Ok (reply_of o); run = (enter_def r l o).run }; list = (enter_def r l o).list }
      | Err refusal ↦ record { reply = record { reply = Err refusal; run = r }; list = l }
    ]
