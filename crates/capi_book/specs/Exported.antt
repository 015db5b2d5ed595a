-- The exported calls, what a host reads off their flat replies, and a list of such calls, each given the flat record
-- and the lent list as the calls before left them, by the same definitions that the contracts of the exported functions
-- name. Definitions only.
use Rattle.std.specs.Prelude.{ℕ, Bool, false, cond, ltb, List, [], ◌∷◌, ◌++◌, eqb, length, take, drop, Float, Option, Some, None, Result, Ok, Err}
use Rattle.common.specs.declared.Refusal.{Refusal}
use Rattle.common.specs.declared.Refusal.TheVariants.{TooFewViews, NoTilts, BadBound, BadStep, TooMany, BadSeed, TiltNotFinite, ListTooShort, SeedWaiting, ListShortened, NothingScored, NoSeedWaiting, BadRows, NotOver, SingularTilt, DegenerateViews, BadPoints, DestinationTooShort, Coincident, SourceNotFinite, DestinationNotFinite, TooFewPoints, CountsDiffer, SourceCollinear, DestinationCollinear, TiltTooLarge, NotWritable, NotALine, NotTheRun, TiltsOffAxis, SeedOffAxis, ShareTooLarge, NoSharedPower}
use Rattle.common.specs.Number.{number_of}
use Rattle.score.specs.declared.pinhole.PinholeCamera.{PinholeCamera}
use Rattle.score.specs.declared.outcome.SkipReason.{SkipReason}
use Rattle.score.specs.Reasons.{reason_numbered}
use Rattle.journal.specs.declared.Line.{Line}
use Rattle.search.specs.Next.{next_def, seed_part}
use Rattle.search.specs.Answer.{answer_def}
use Rattle.search.specs.declared.progress.ProgressReply.{ProgressReply}
use Rattle.search.specs.Result.{result_def}
use Rattle.search.specs.Progress.{progress_def}
use Rattle.search.specs.Stop.{stop_def}
use Rattle.search.specs.Last.{last_def}
use Rattle.search.specs.Counts.{counts_def}
use Rattle.replay.specs.declared.Standing.{Standing}
use Rattle.replay.specs.declared.Standing.TheVariants.{Winner, Unfinished}
use Rattle.replay.specs.declared.ReplayRefusal.{ReplayRefusal}
use Rattle.replay.specs.declared.ReplayRefusal.TheVariants.{Refused, At}
use Rattle.replay.specs.declared.EndedBy.{EndedBy}
use Rattle.replay.specs.declared.EndedBy.TheVariants as by
use Rattle.replay.specs.declared.WalkEnd.TheVariants as walk_end
use Rattle.replay.specs.declared.KeptLines.{KeptLines}
use Rattle.replay.specs.declared.Resumed.{Resumed}
use Rattle.capi_records.specs.declared.record.LastRecord.{LastRecord}
use Rattle.capi_records.specs.declared.record.RunRecord.{RunRecord}
use Rattle.capi_records.specs.declared.run.NextFlat.{NextFlat}
use Rattle.capi_records.specs.declared.run.AnswerFlat.{AnswerFlat}
use Rattle.capi_records.specs.declared.run.ResultFlat.{ResultFlat}
use Rattle.capi_records.specs.declared.run.StopFlat.{StopFlat}
use Rattle.capi_records.specs.declared.replays.ReplayFlat.{ReplayFlat}
use Rattle.capi_records.specs.declared.replays.ResumeFlat.{ResumeFlat}
use Rattle.capi_records.specs.declared.journals.WriteReply.{WriteReply}
use Rattle.capi_records.specs.Journal.{line_from, flat_written, record_reply, record_into}
use Rattle.capi_records.specs.Record.{is_set, run_from}
use Rattle.capi_records.specs.Run.{flat_next, flat_answer, flat_result, flat_stopped, flat_last_line, finding_of, copied, copy_count}
use Rattle.score.specs.Best.{nothing, chosen}
use Rattle.book.specs.Calls.{Call, nothing_left, floor, Reply, candidate, over, part, scored, skipped, result, bar, stopped, line, no_line, counted, refused}
use Rattle.book.specs.Calls as book
use Rattle.journal.specs.Report.{report_reply, report_into}
use Rattle.book_journal.specs.Counts.{is_answer}
use Rattle.book_journal.specs.Written.{buffer}
use Rattle.book_journal.specs.Reported.{small_buffer}

-- An exported call with its arguments, without the run's record and the lent list. n is how many numbers of the list
-- are lent. jc_seed also has a destination.
pub data Exported : Type 0 where
  call_next : ℕ → Exported
  call_seed : ℕ → List Float → Exported
  call_answer : ℕ → ℕ → PinholeCamera → List Float → List ℕ → Exported
  call_result : Exported
  call_progress : Exported
  call_stop : ℕ → Exported
  call_last_line : Exported
  call_counts : Exported

-- a destination without room for a seed; all that jc_seed then says is 0
abbrev pub no_room : List Float → Bool
no_room to = ltb (length to) 6

-- The call of the reference model that it makes. A seed call whose destination has no room for a seed makes none.
abbrev pub calls_of : Exported → List Call
calls_of (call_next n) = book.next n ∷ []
calls_of (call_seed n to) = cond (no_room to) [] (book.seed n ∷ [])
calls_of (call_answer n solved camera rows flags) = book.answer n (finding_of solved camera) rows flags ∷ []
calls_of call_result = book.ask ∷ []
calls_of call_progress = book.progress ∷ []
calls_of (call_stop n) = book.stop n ∷ []
calls_of call_last_line = book.last ∷ []
calls_of call_counts = book.counts ∷ []

unfoldable pub all_calls : List Exported → List Call
all_calls [] = []
all_calls (c ∷ cs) = calls_of c ++ all_calls cs

-- ---- what a host reads off a reply: where its number is 0 the fields that the flags name, and otherwise the refusal
-- that has the number. A number of no refusal is no reply, and neither is a skip number of no reason.
abbrev pub refusals : List Refusal
refusals = TooFewViews ∷ NoTilts ∷ BadBound ∷ BadStep ∷ TooMany ∷ BadSeed ∷ TiltNotFinite ∷ ListTooShort ∷ SeedWaiting ∷ ListShortened ∷ NothingScored ∷ NoSeedWaiting ∷ BadRows ∷ NotOver ∷ SingularTilt ∷ DegenerateViews ∷ BadPoints ∷ DestinationTooShort ∷ Coincident ∷ SourceNotFinite ∷ DestinationNotFinite ∷ TooFewPoints ∷ CountsDiffer ∷ SourceCollinear ∷ DestinationCollinear ∷ TiltTooLarge ∷ NotWritable ∷ NotALine ∷ NotTheRun ∷ TiltsOffAxis ∷ SeedOffAxis ∷ ShareTooLarge ∷ NoSharedPower ∷ []

abbrev pub first_with : ℕ → List Refusal → Option Refusal
first_with n [] = None
first_with n (r ∷ rs) = cond (eqb n (number_of r)) (Some r) (first_with n rs)

-- the refusal with a number; no refusal has 0
abbrev pub refusal_with : ℕ → Option Refusal
refusal_with n = first_with n refusals

-- a refusal, if the number is one's
abbrev pub refused_with : Option Refusal → List Reply
refused_with (Some r) = refused r ∷ []
refused_with None = []

-- the answer where the number is 0, and else the refusal
abbrev pub refused_or : ℕ → List Reply → List Reply
refused_or n a = cond (eqb n 0) a (refused_with (refusal_with n))

abbrev pub read_next : NextFlat → List Reply
read_next f = refused_or f.number (cond (eqb f.over 0) (candidate f.candidate) over ∷ [])

-- a skip for the reason that the skip number names, and a score where it is 0
abbrev pub skipped_or : Result SkipReason Refusal → AnswerFlat → List Reply
skipped_or (Ok reason) f = skipped reason ∷ []
skipped_or (Err none) f = cond (eqb f.skipped 0) (scored f.score ∷ []) []

abbrev pub read_answer : AnswerFlat → List Reply
read_answer f = refused_or f.number (skipped_or (reason_numbered f.skipped) f)

abbrev pub read_result : ResultFlat → List Reply
read_result f = refused_or f.number (result f.candidate ∷ [])

abbrev pub read_progress : ProgressReply → Reply
read_progress p = bar (record { round = p.round; rounds = p.rounds; answered = p.answered; total = p.total; in_run = p.answered_in_run })

abbrev pub read_stop : StopFlat → List Reply
read_stop f =
    refused_or f.number
    (stopped (cond (eqb f.has_best 0) nothing (chosen f.best)) (cond (eqb f.has_floor 0) nothing_left (floor f.floor (is_set f.no_gain))) ∷ [])

abbrev pub read_line_in : Result Line Refusal → List Reply
read_line_in (Ok l) = line l ∷ []
read_line_in (Err none) = []

abbrev pub read_last : LastRecord → List Reply
read_last f = cond (eqb f.found 0) (no_line ∷ []) (read_line_in (line_from f.line))

-- off jc_replay's reply: with a refusal also the line's number, if there is one
abbrev pub replay_refused_with : Option Refusal → ReplayFlat → Option (Result Standing ReplayRefusal)
replay_refused_with (Some r) f = Some (Err (cond (eqb f.line_number 0) (Refused r) (At r f.line_number)))
replay_refused_with None f = None

abbrev pub read_replay : ReplayFlat → Option (Result Standing ReplayRefusal)
read_replay f =
    cond (eqb f.number 0)
    (Some (Ok (cond (eqb f.is_over 0) (Unfinished f.next) (Winner f.candidate f.score))))
    (replay_refused_with (refusal_with f.number) f)

-- off jc_resume's reply: the run and the report
abbrev pub read_ended : ℕ → EndedBy
read_ended n = cond (eqb n 1) by.MissingNewline (by.WalkEnded (cond (eqb n 0) walk_end.AllTaken (cond (eqb n 29) walk_end.NotALine walk_end.NotTheRun)))

abbrev pub read_kept_lines : ResumeFlat → KeptLines
read_kept_lines f = record { lines = f.lines; kept = f.kept; dropped = f.dropped; ended_by = read_ended f.ended_by }

abbrev pub resume_refused_with : Option Refusal → Option (Result Resumed Refusal)
resume_refused_with (Some r) = Some (Err r)
resume_refused_with None = None

abbrev pub read_resume : ResumeFlat → Option (Result Resumed Refusal)
read_resume f =
    cond (eqb f.number 0) (Some (Ok (record { run = run_from f.run; kept_lines = read_kept_lines f }))) (resume_refused_with (refusal_with f.number))

-- ---- what is read off a call, one reply or none, and the record and the whole lent list after it
pub record FlatStep : Type 0 where
  pub reply : List Reply
  pub run : RunRecord
  pub list : List Float

unfoldable pub flat_call : RunRecord → List Float → Exported → FlatStep
flat_call r l (call_next n) = let f = flat_next (next_def (run_from r) (take n l)) in record { reply = read_next f; run = f.run; list = l }
flat_call r l (call_seed n to) =
    let seed = seed_part (run_from r) (take n l) in
    record { reply = cond (no_room to) [] (part (take (copy_count seed to) (copied seed to)) ∷ []); run = r; list = l }
flat_call r l (call_answer n solved camera rows flags) =
    let a = answer_def (run_from r) (finding_of solved camera) rows flags (take n l) in
    let f = flat_answer a.reply in
    record { reply = read_answer f; run = f.run; list = a.list ++ drop n l }
flat_call r l call_result = record { reply = read_result (flat_result (result_def (run_from r))); run = r; list = l }
flat_call r l call_progress = record { reply = read_progress (progress_def (run_from r)) ∷ []; run = r; list = l }
flat_call r l (call_stop n) = record { reply = read_stop (flat_stopped (stop_def (run_from r) (take n l))); run = r; list = l }
flat_call r l call_last_line = record { reply = read_last (flat_last_line (last_def (run_from r))); run = r; list = l }
flat_call r l call_counts = record { reply = counted (counts_def (run_from r)) ∷ []; run = r; list = l }

unfoldable pub flat_walk : RunRecord → List Float → List Exported → List Reply
flat_walk r l [] = []
flat_walk r l (c ∷ cs) = let a = flat_call r l c in a.reply ++ flat_walk a.run a.list cs

-- the record after some calls
unfoldable pub flat_after : RunRecord → List Float → List Exported → RunRecord
flat_after r l [] = r
flat_after r l (c ∷ cs) = let a = flat_call r l c in flat_after a.run a.list cs

-- ---- the bytes that a writer left in front of its buffer, by its reply w; none where it refused
abbrev pub bytes_in : WriteReply → List ℕ → List ℕ
bytes_in w after = cond (eqb w.number 0) (take w.len after) []

-- what jc_write_line makes of jc_last_line's record
abbrev pub flat_line_bytes : LastRecord → List ℕ
flat_line_bytes f = cond (eqb f.found 0) [] (bytes_in (flat_written (record_reply f.line buffer)) (record_into f.line buffer))

-- The file of a host that asks for the last line after each accepted Answer, and writes it behind the others.
abbrev pub is_accepted : List Reply → Bool
is_accepted [] = false
is_accepted (a ∷ none) = eqb (is_answer a) 1

unfoldable pub flat_file : RunRecord → List Float → List Exported → List ℕ
flat_file r l [] = []
flat_file r l (c ∷ cs) =
    let a = flat_call r l c in
    cond (is_accepted a.reply) (flat_line_bytes (flat_last_line (last_def (run_from a.run)))) [] ++ flat_file a.run a.list cs

-- what jc_write_report makes of jc_counts' reply
abbrev pub flat_report : RunRecord → List ℕ
flat_report r = let c = counts_def (run_from r) in bytes_in (flat_written (report_reply c small_buffer)) (report_into c small_buffer)
