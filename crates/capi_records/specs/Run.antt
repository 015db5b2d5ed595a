-- The replies of the search as flat records: a refusal's number, and zeros for what a reply leaves out. Definitions
-- only.
use Rattle.std.specs.Prelude.{ℕ, cond, List, ◌++◌, eqb, leb, length, drop, Float, Option, Some, None, is_some, unwrap_or, Result, Ok, Err}
use Rattle.common.specs.declared.Refusal.{Refusal}
use Rattle.common.specs.Number.{number_of}
use Rattle.journal.specs.declared.Line.{Line}
use Rattle.score.specs.declared.best.Candidate.{Candidate}
use Rattle.score.specs.Reasons.{reason_number}
use Rattle.float.specs.Literals.{plus_zero}
use Rattle.score.specs.declared.pinhole.PinholeCamera.{PinholeCamera}
use Rattle.score.specs.declared.outcome.Finding.{Finding}
use Rattle.score.specs.declared.outcome.Finding.TheVariants.{Failed, Solved}
use Rattle.score.specs.Best.{no_best}
use Rattle.search.specs.declared.run.Reply.{Reply}
use Rattle.search.specs.declared.run.Run.{Run}
use Rattle.search.specs.declared.next.Handed.{Handed}
use Rattle.search.specs.declared.next.Handed.TheVariants as handed
use Rattle.search.specs.declared.answer.Answered.{Answered}
use Rattle.search.specs.declared.answer.Answered.TheVariants as answered
use Rattle.search.specs.declared.stop.Outlook.{Outlook}
use Rattle.capi_records.specs.Record.{flag_of, flat_run, no_run}
use Rattle.capi_records.specs.declared.run.StartFlat.{StartFlat}
use Rattle.capi_records.specs.declared.run.NextFlat.{NextFlat}
use Rattle.capi_records.specs.declared.run.AnswerFlat.{AnswerFlat}
use Rattle.capi_records.specs.declared.run.ResultFlat.{ResultFlat}
use Rattle.capi_records.specs.declared.run.StopFlat.{StopFlat}
use Rattle.capi_records.specs.declared.record.LastRecord.{LastRecord}
use Rattle.capi_records.specs.Journal.{flat_line, no_line}

-- the reply of Start
abbrev pub flat_started : Result Run Refusal → StartFlat
flat_started (Ok r) = record { number = 0; run = flat_run r }
flat_started (Err e) = record { number = number_of e; run = no_run }

-- the reply of Next
abbrev pub flat_handed : Result Handed Refusal → Run → NextFlat
flat_handed (Ok (handed.Candidate i)) r = record { number = 0; over = 0; candidate = i; run = flat_run r }
flat_handed (Ok handed.Over) r = record { number = 0; over = 1; candidate = 0; run = flat_run r }
flat_handed (Err e) r = record { number = number_of e; over = 0; candidate = 0; run = flat_run r }

abbrev pub flat_next : Reply Handed → NextFlat
flat_next n = flat_handed n.reply n.run

-- the reply of Answer
abbrev pub flat_answered : Result Answered Refusal → Run → AnswerFlat
flat_answered (Ok (answered.Scored s)) r = record { number = 0; skipped = 0; score = s; run = flat_run r }
flat_answered (Ok (answered.Skipped reason)) r = record { number = 0; skipped = reason_number reason; score = plus_zero; run = flat_run r }
flat_answered (Err e) r = record { number = number_of e; skipped = 0; score = plus_zero; run = flat_run r }

abbrev pub flat_answer : Reply Answered → AnswerFlat
flat_answer a = flat_answered a.reply a.run

-- the reply of Result
abbrev pub flat_result : Result Candidate Refusal → ResultFlat
flat_result (Ok w) = record { number = 0; candidate = w }
flat_result (Err e) = record { number = number_of e; candidate = no_best.candidate }

-- the reply of Stop
abbrev pub flat_outlook : Outlook → StopFlat
flat_outlook o = record {
  number = 0;
  has_best = flag_of (is_some o.best);
  has_floor = flag_of (is_some o.floor);
  no_gain = flag_of o.no_gain;
  best = unwrap_or o.best no_best.candidate;
  floor = unwrap_or o.floor plus_zero;
}

abbrev pub flat_stopped : Result Outlook Refusal → StopFlat
flat_stopped (Ok o) = flat_outlook o
flat_stopped (Err e) = record { number = number_of e; has_best = 0; has_floor = 0; no_gain = 0; best = no_best.candidate; floor = plus_zero }

-- the host's finding: Failed, or Solved where the flag is set
abbrev pub finding_of : ℕ → PinholeCamera → Finding
finding_of n s = cond (eqb n 0) Failed (Solved s)

-- A part is copied to the front of a list that has room for it; a shorter list stays as it is.
abbrev pub copied : List Float → List Float → List Float
copied part to = cond (leb (length part) (length to)) (part ++ drop (length part) to) to

abbrev pub copy_count : List Float → List Float → ℕ
copy_count part to = cond (leb (length part) (length to)) (length part) 0

-- the last entry's line, or nothing
abbrev pub flat_last_line : Option Line → LastRecord
flat_last_line (Some l) = record { found = 1; line = flat_line l }
flat_last_line None = record { found = 0; line = no_line }
