-- A list of calls over the run's record, each given the run and the lent list as the calls before left them, by the
-- same definitions that the contracts of the entry points name. Definitions only.
use Rattle.std.specs.Prelude.{List, [], ◌∷◌, ◌++◌, take, drop, Float, Option, Some, None, Result, Ok, Err}
use Rattle.common.specs.declared.Refusal.{Refusal}
use Rattle.score.specs.declared.best.Candidate.{Candidate}
use Rattle.score.specs.Best.{Chosen, nothing, chosen}
use Rattle.search.specs.declared.run.Run.{Run}
use Rattle.search.specs.declared.next.Handed.{Handed}
use Rattle.search.specs.declared.next.Handed.TheVariants as handed
use Rattle.search.specs.declared.answer.Answered.{Answered}
use Rattle.search.specs.declared.answer.Answered.TheVariants as answered
use Rattle.search.specs.declared.progress.ProgressReply.{ProgressReply}
use Rattle.search.specs.declared.stop.Outlook.{Outlook}
use Rattle.search.specs.Next.{next_def, seed_part}
use Rattle.search.specs.Answer.{answer_def}
use Rattle.search.specs.Result.{result_def}
use Rattle.search.specs.Progress.{progress_def}
use Rattle.search.specs.Stop.{stop_def}
use Rattle.book.specs.Calls.{Call, next, seed, answer, ask, progress, stop, nothing_left, floor, Rest, Reply, candidate, over, part, scored, skipped, result, bar, stopped, refused, last, line, no_line, counts, counted}
use Rattle.journal.specs.declared.Line.{Line}
use Rattle.search.specs.Last.{last_def}
use Rattle.search.specs.Counts.{counts_def}

-- ---- the entry points' replies
abbrev pub handed_reply : Result Handed Refusal → Reply
handed_reply (Ok (handed.Candidate n)) = candidate n
handed_reply (Ok handed.Over) = over
handed_reply (Err refusal) = refused refusal

abbrev pub answered_reply : Result Answered Refusal → Reply
answered_reply (Ok (answered.Scored s)) = scored s
answered_reply (Ok (answered.Skipped reason)) = skipped reason
answered_reply (Err refusal) = refused refusal

abbrev pub resulted_reply : Result Candidate Refusal → Reply
resulted_reply (Ok w) = result w
resulted_reply (Err refusal) = refused refusal

abbrev pub progress_reply : ProgressReply → Reply
progress_reply p = bar (record { round = p.round; rounds = p.rounds; answered = p.answered; total = p.total; in_run = p.answered_in_run })

abbrev pub chosen_of : Option Candidate → Chosen
chosen_of b = elim b [ Some w ↦ chosen w | None ↦ nothing ]

abbrev pub rest_said : Outlook → Rest
rest_said o = elim o.floor [ Some x ↦ floor x o.no_gain | None ↦ nothing_left ]

abbrev pub stopped_reply : Result Outlook Refusal → Reply
stopped_reply (Ok o) = stopped (chosen_of o.best) (rest_said o)
stopped_reply (Err refusal) = refused refusal

abbrev pub last_reply : Option Line → Reply
last_reply (Some l) = line l
last_reply None = no_line

-- ---- what a call replies, and the run and the whole lent list after it
pub record Step : Type 0 where
  pub reply : Reply
  pub run : Run
  pub list : List Float

unfoldable pub run_call : Run → List Float → Call → Step
run_call r l (next n) = let a = next_def r (take n l) in record { reply = handed_reply a.reply; run = a.run; list = l }
run_call r l (seed n) = record { reply = part (seed_part r (take n l)); run = r; list = l }
run_call r l (answer n f rows flags) =
    let a = answer_def r f rows flags (take n l) in
    record { reply = answered_reply a.reply.reply; run = a.reply.run; list = a.list ++ drop n l }
run_call r l ask = record { reply = resulted_reply (result_def r); run = r; list = l }
run_call r l progress = record { reply = progress_reply (progress_def r); run = r; list = l }
run_call r l (stop n) = record { reply = stopped_reply (stop_def r (take n l)); run = r; list = l }
run_call r l last = record { reply = last_reply (last_def r); run = r; list = l }
run_call r l counts = record { reply = counted (counts_def r); run = r; list = l }

unfoldable pub walk : Run → List Float → List Call → List Reply
walk r l [] = []
walk r l (c ∷ cs) = let a = run_call r l c in a.reply ∷ walk a.run a.list cs
