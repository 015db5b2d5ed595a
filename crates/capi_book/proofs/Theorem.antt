-- The exported calls reply as the entry points do, and so as the reference model. Assumes nothing.
use Rattle.std.proofs.Common.{ℕ, suc, ◌≤◌, arith, ◌≡◌, refl, ap, ◌∙◌, Bool, false, eqb, List, [], ◌∷◌, ◌++◌, le-leb, ltb-false, ne_eqb, length, take, drop, length-take, Float, sym, Option, Some, None, Result, Ok, Err}
use Rattle.std.proofs.Math.Seq.{take-append_seam}
use Rattle.common.specs.declared.Refusal.{Refusal}
use Rattle.common.specs.declared.Refusal.TheVariants.{TooFewViews, NoTilts, BadBound, BadStep, TooMany, BadSeed, TiltNotFinite, ListTooShort, SeedWaiting, ListShortened, NothingScored, NoSeedWaiting, BadRows, NotOver, SingularTilt, DegenerateViews, BadPoints, DestinationTooShort, Coincident, SourceNotFinite, DestinationNotFinite, TooFewPoints, CountsDiffer, SourceCollinear, DestinationCollinear, TiltTooLarge, NotWritable, NotALine, NotTheRun, TiltsOffAxis, SeedOffAxis, ShareTooLarge, NoSharedPower}
use Rattle.common.specs.Number.{number_of}
use Rattle.score.proofs.Facts.{reason_numbered_back}
use Rattle.common.specs.Tests.{case}
use Rattle.search.specs.declared.run.Run.{Run}
use Rattle.search.specs.declared.next.Handed.{Handed}
use Rattle.search.specs.declared.next.Handed.TheVariants as handed
use Rattle.search.specs.Next.{next_def, seed_lent, seed_part}
use Rattle.search.specs.declared.answer.Answered.{Answered}
use Rattle.search.specs.declared.answer.Answered.TheVariants as answered
use Rattle.search.specs.Answer.{answer_def}
use Rattle.search.specs.declared.progress.ProgressReply.{ProgressReply}
use Rattle.search.specs.Result.{result_def}
use Rattle.search.specs.Progress.{progress_def}
use Rattle.search.specs.declared.stop.Outlook.{Outlook}
use Rattle.search.specs.Stop.{stop_def}
use Rattle.search.specs.Last.{last_def}
use Rattle.journal.specs.declared.Line.{Line}
use Rattle.score.specs.declared.best.Candidate.{Candidate}
use Rattle.replay.specs.declared.WalkEnd.{WalkEnd}
use Rattle.replay.specs.declared.WalkEnd.TheVariants as walk_end
use Rattle.replay.specs.declared.Standing.{Standing}
use Rattle.replay.specs.declared.Standing.TheVariants.{Winner, Unfinished}
use Rattle.replay.specs.declared.ReplayRefusal.{ReplayRefusal}
use Rattle.replay.specs.declared.EndedBy.{EndedBy}
use Rattle.replay.specs.declared.EndedBy.TheVariants as by
use Rattle.replay.specs.declared.KeptLines.{KeptLines}
use Rattle.replay.specs.declared.Resumed.{Resumed}
use Rattle.replay.specs.Replay.{of_no_line, reply_by, ReplayLeft, replay_from}
use Rattle.replay.specs.Resume.{ResumeLeft, resume_from}
use Rattle.score.specs.Reasons.{reason_numbered}
use Rattle.capi_records.specs.declared.record.LastRecord.{LastRecord}
use Rattle.capi_records.specs.declared.run.NextFlat.{NextFlat}
use Rattle.capi_records.specs.declared.run.AnswerFlat.{AnswerFlat}
use Rattle.capi_records.specs.declared.run.ResultFlat.{ResultFlat}
use Rattle.capi_records.specs.declared.run.StopFlat.{StopFlat}
use Rattle.capi_records.specs.declared.replays.ReplayFlat.{ReplayFlat}
use Rattle.capi_records.specs.declared.replays.ResumeFlat.{ResumeFlat}
use Rattle.capi_records.specs.Record.{run_from, flat_run}
use Rattle.capi_records.specs.RoundTrip.{flag_comes_back, run_back, line_back}
use Rattle.capi_records.specs.Run.{flat_started, flat_handed, flat_answered, flat_result, flat_stopped, flat_last_line, finding_of, copied, copy_count}
use Rattle.capi_records.specs.Replay.{flat_replayed, ended_number, flat_resumed}
use Rattle.book.specs.Book.{Inputs, Book, opened, replies, after}
use Rattle.book.specs.Conditions.{NoneHolds, conditions}
use Rattle.book.specs.Trace.{run_after}
use Rattle.journal.specs.declared.Counts.{Counts}
use Rattle.journal.specs.Writing.{write_reply, write_into}
use Rattle.journal.specs.Report.{report_reply, report_into}
use Rattle.search.specs.Counts.{counts_def}
use Rattle.capi_records.specs.declared.journals.LineRecord.{LineRecord}
use Rattle.capi_records.specs.Journal.{line_from, flat_line, flat_written, record_reply, record_into}
use Rattle.book.specs.Calls.{Call, next, seed, answer, ask, progress, stop, last, counts, Reply, part}
use Rattle.book.specs.Walk.{Step, handed_reply, answered_reply, resulted_reply, progress_reply, stopped_reply, last_reply, run_call, walk}
use Rattle.book.specs.Theorem.{start_of, started_list}
use Rattle.book.proofs.Cases.{case_result}
use Rattle.book.specs.RunOf.{run_of}
use Rattle.book.proofs.Theorem.{search_is_book}
use Rattle.book_journal.specs.Replay.{start_refused, walked, standing, replay_of}
use Rattle.book_journal.specs.Resume.{Resumed as BookResumed, resumed, not_resumed, resume_of}
use Rattle.book_journal.specs.Lines.{journal_of}
use Rattle.book_journal.specs.History.{InputsFit}
use Rattle.book_journal.specs.Resume.{kept_lines_of}
use Rattle.book_journal.specs.Written.{buffer, front, bytes_of, written_along}
use Rattle.book_journal.specs.Reported.{small_buffer, report_of, ReportRight}
use Rattle.book_journal.proofs.Written.{calls_write_journal as written_on}
use Rattle.book_journal.proofs.Live.{walked_book_state}
use Rattle.book_journal.proofs.Theorem.{journals_right}
use Rattle.book_journal.specs.Theorem.{with_record}
use Rattle.book_journal.proofs.Replayed.{replay_right}
use Rattle.capi_book.specs.Exported.{Exported, call_next, call_seed, call_answer, call_result, call_progress, call_stop, call_last_line, call_counts, no_room, calls_of, all_calls, read_next, read_answer, read_result, read_progress, read_stop, read_last, refusal_with, read_replay, read_ended, read_kept_lines, read_resume, FlatStep, flat_call, flat_walk, flat_after, bytes_in, flat_line_bytes, flat_file}
use Rattle.capi_book.specs.Theorem.{start_with, flat_start_list, whole_replay, whole_resume, NoReplysNumber, OtherNumbersUnread, ExportedStarts, ExportedIsWalk, ExportedIsBook, ExportedReplays, ExportedGivesBack, ExportedResumes}
use Rattle.capi_book.specs.Theorem.{FlatReportRight, ExportedJournal, ExportedJournalGrows, ExportedReport, ExportedResumedReport, ExportedRight}

-- ---- the record in a reply
flat_handed_keeps_run : (h : Result Handed Refusal) (r : Run) → (flat_handed h r).run ≡ flat_run r
flat_handed_keeps_run (Ok (handed.Candidate n)) r = refl
flat_handed_keeps_run (Ok handed.Over) r = refl
flat_handed_keeps_run (Err refusal) r = refl

flat_answered_keeps_run : (a : Result Answered Refusal) (r : Run) → (flat_answered a r).run ≡ flat_run r
flat_answered_keeps_run (Ok (answered.Scored s)) r = refl
flat_answered_keeps_run (Ok (answered.Skipped reason)) r = refl
flat_answered_keeps_run (Err refusal) r = refl

-- ---- what is read off a reply: each refusal has a number of its own that isn't 0, and so has each reason
refusal_read : (r : Refusal) → refusal_with (number_of r) ≡ Some r
refusal_read TooFewViews = refl
refusal_read NoTilts = refl
refusal_read BadBound = refl
refusal_read BadStep = refl
refusal_read TooMany = refl
refusal_read BadSeed = refl
refusal_read TiltNotFinite = refl
refusal_read ListTooShort = refl
refusal_read SeedWaiting = refl
refusal_read ListShortened = refl
refusal_read NothingScored = refl
refusal_read NoSeedWaiting = refl
refusal_read BadRows = refl
refusal_read NotOver = refl
refusal_read SingularTilt = refl
refusal_read DegenerateViews = refl
refusal_read BadPoints = refl
refusal_read DestinationTooShort = refl
refusal_read Coincident = refl
refusal_read SourceNotFinite = refl
refusal_read DestinationNotFinite = refl
refusal_read TooFewPoints = refl
refusal_read CountsDiffer = refl
refusal_read SourceCollinear = refl
refusal_read DestinationCollinear = refl
refusal_read TiltTooLarge = refl
refusal_read NotWritable = refl
refusal_read NotALine = refl
refusal_read NotTheRun = refl
refusal_read TiltsOffAxis = refl
refusal_read SeedOffAxis = refl
refusal_read ShareTooLarge = refl
refusal_read NoSharedPower = refl

refusal_number_not_zero : (r : Refusal) → number_of r ≡ 0 → ⊥
refusal_number_not_zero r h = let e : ◌≡◌ {A = Option Refusal} None (Some r) = ap refusal_with (sym h) ∙ refusal_read r in cc

no_refusal_has_zero : (r : Refusal) → eqb (number_of r) 0 ≡ false
no_refusal_has_zero r = ne_eqb (number_of r) 0 (refusal_number_not_zero r)

next_read : (h : Result Handed Refusal) (r : Run) → read_next (flat_handed h r) ≡ handed_reply h ∷ []
next_read (Ok (handed.Candidate n)) r = refl
next_read (Ok handed.Over) r = refl
next_read (Err e) r = simp (no_refusal_has_zero e, refusal_read e)

result_read : (x : Result Candidate Refusal) → read_result (flat_result x) ≡ resulted_reply x ∷ []
result_read (Ok w) = refl
result_read (Err e) = simp (no_refusal_has_zero e, refusal_read e)

progress_read : (p : ProgressReply) → read_progress p ≡ progress_reply p
progress_read p = refl

outlook_read : (b : Option Candidate) (x : Option Float) (g : Bool) → let o : Outlook = record { best = b; floor = x; no_gain = g } in read_stop (flat_stopped (Ok o)) ≡ stopped_reply (Ok o) ∷ []
outlook_read None None g = refl
outlook_read (Some w) None g = refl
outlook_read None (Some x) g = rw (flag_comes_back g) refl
outlook_read (Some w) (Some x) g = rw (flag_comes_back g) refl

stop_read : (x : Result Outlook Refusal) → read_stop (flat_stopped x) ≡ stopped_reply x ∷ []
stop_read (Ok o) = outlook_read o.best o.floor o.no_gain
stop_read (Err e) = simp (no_refusal_has_zero e, refusal_read e)

last_read : (x : Option Line) → read_last (flat_last_line x) ≡ last_reply x ∷ []
last_read (Some l) = rw (line_back l)
last_read None = refl

answer_read : (x : Result Answered Refusal) (r : Run) → read_answer (flat_answered x r) ≡ answered_reply x ∷ []
answer_read (Ok (answered.Scored s)) r = refl
answer_read (Ok (answered.Skipped reason)) r = rw (reason_numbered_back reason)
answer_read (Err e) r = simp (no_refusal_has_zero e, refusal_read e)

-- ---- other numbers are no reply's
next_unread : (f : NextFlat) → NoReplysNumber f.number → read_next f ≡ []
next_unread f h = simp (h.0, h.1)

answer_unread : (f : AnswerFlat) → NoReplysNumber f.number → read_answer f ≡ []
answer_unread f h = simp (h.0, h.1)

result_unread : (f : ResultFlat) → NoReplysNumber f.number → read_result f ≡ []
result_unread f h = simp (h.0, h.1)

stop_unread : (f : StopFlat) → NoReplysNumber f.number → read_stop f ≡ []
stop_unread f h = simp (h.0, h.1)

replay_unread : (f : ReplayFlat) → NoReplysNumber f.number → read_replay f ≡ None
replay_unread f h = simp (h.0, h.1)

resume_unread : (f : ResumeFlat) → NoReplysNumber f.number → read_resume f ≡ None
resume_unread f h = simp (h.0, h.1)

skip_unread : (f : AnswerFlat) (e : Refusal) → f.number ≡ 0 → eqb f.skipped 0 ≡ false → reason_numbered f.skipped ≡ Err e → read_answer f ≡ []
skip_unread f e n s r = simp (n, r, s)

line_unread : (f : LastRecord) (e : Refusal) → eqb f.found 0 ≡ false → line_from f.line ≡ Err e → read_last f ≡ []
line_unread f e n h = simp (n, h)

pub other_numbers_unread : OtherNumbersUnread
other_numbers_unread = record {
  next_unread = next_unread;
  answer_unread = answer_unread;
  result_unread = result_unread;
  stop_unread = stop_unread;
  replay_unread = replay_unread;
  resume_unread = resume_unread;
  skip_unread = skip_unread;
  line_unread = line_unread;
}

-- the waiting seed in a destination with room for it
seed_part_le_six : (r : Run) (l : List Float) → length (seed_part r l) ≤ 6
unfolding seed_part
seed_part_le_six r l = case (seed_lent r (length l)) (λ h. simp (h, length-take) (omega arith)) (λ h. simp h (omega arith))

seed_read : (r : Run) (l to : List Float) → 6 ≤ length to → take (copy_count (seed_part r l) to) (copied (seed_part r l) to) ≡ seed_part r l
seed_read r l to room =
    let w = seed_part r l in
    simp (le-leb (length w) (length to) (let s = seed_part_le_six r l in omega arith)) (take-append_seam w (drop (length w) to))

-- ---- what is read off an exported call is the reply of the entry point, and it leaves the flat record of the same run
-- and the same list
record SameStep (a : FlatStep) (b : Step) : Type 0 where
  reply : a.reply ≡ b.reply ∷ []
  run : a.run ≡ flat_run b.run
  list : a.list ≡ b.list

-- or the call makes none of the model's, and leaves both as they were
data Reads (r : Run) (l : List Float) (c : Exported) (a : FlatStep) : Type 0 where
  asks : (d : Call) → calls_of c ≡ d ∷ [] → SameStep a (run_call r l d) → Reads r l c a
  silent : calls_of c ≡ [] → a.reply ≡ [] → a.run ≡ flat_run r → a.list ≡ l → Reads r l c a

seed_call_reads : (r : Run) (l : List Float) (n : ℕ) (to : List Float) → Reads r l (call_seed n to) (flat_call (flat_run r) l (call_seed n to))
unfolding flat_call run_call
seed_call_reads r l n to =
    case (no_room to)
    (λ e. silent (rw e refl) (rw e refl) refl refl)
    (λ e.
    let room : 6 ≤ length to = ltb-false (length to) 6 e in
    asks (seed n) (rw e refl) (record { reply = rw (e, run_back r) (ap (λ (z : List Float). part z ∷ []) (seed_read r (take n l) to room)); run = refl; list = refl }))

call_reads : (r : Run) (l : List Float) (c : Exported) → Reads r l c (flat_call (flat_run r) l c)
unfolding flat_call run_call
call_reads r l (call_next n) =
    let a = next_def r (take n l) in
    asks (next n) refl (record { reply = rw (run_back r) (next_read a.reply a.run); run = rw (run_back r) (flat_handed_keeps_run a.reply a.run); list = refl })
call_reads r l (call_seed n to) = seed_call_reads r l n to
call_reads r l (call_answer n solved camera rows flags) =
    let f = finding_of solved camera in
    let a = (answer_def r f rows flags (take n l)).reply in
    asks (answer n f rows flags) refl
    (record {
      reply = rw (run_back r) (answer_read a.reply a.run);
      run = rw (run_back r) (flat_answered_keeps_run a.reply a.run);
      list = rw (run_back r) refl;
    })
call_reads r l call_result = asks ask refl (record { reply = rw (run_back r) (result_read (result_def r)); run = refl; list = refl })
call_reads r l call_progress = asks progress refl (record { reply = rw (run_back r) (ap (λ (z : Reply). z ∷ []) (progress_read (progress_def r))); run = refl; list = refl })
call_reads r l (call_stop n) = asks (stop n) refl (record { reply = rw (run_back r) (stop_read (stop_def r (take n l))); run = refl; list = refl })
call_reads r l call_last_line = asks last refl (record { reply = rw (run_back r) (last_read (last_def r)); run = refl; list = refl })
call_reads r l call_counts = asks counts refl (record { reply = rw (run_back r) refl; run = refl; list = refl })

-- ---- the bytes of a line and of a report
line_front_read : (m : Line) (w : Result ℕ Refusal) → bytes_in (flat_written w) (write_into m buffer) ≡ front m w
line_front_read m (Ok n) = refl
line_front_read m (Err e) = rw (no_refusal_has_zero e)

written_read : (f : LineRecord) (m : Line) → line_from f ≡ Ok m → bytes_in (flat_written (record_reply f buffer)) (record_into f buffer) ≡ front m (write_reply m buffer)
written_read f m h = rw (record_reply, record_into, h) (line_front_read m (write_reply m buffer))

line_bytes_read : (x : Option Line) → flat_line_bytes (flat_last_line x) ≡ bytes_of x
line_bytes_read None = refl
line_bytes_read (Some m) = written_read (flat_line m) m (line_back m)

report_bytes_read : (c : Counts) (w : Result ℕ Refusal) → bytes_in (flat_written w) (report_into c small_buffer) ≡ report_of c w
report_bytes_read c (Ok n) = refl
report_bytes_read c (Err e) = rw (no_refusal_has_zero e)

-- ---- any calls: the replies, the record and the file are those of the walk
record Along (r : Run) (l : List Float) (cs : List Exported) : Type 0 where
  replies : flat_walk (flat_run r) l cs ≡ walk r l (all_calls cs)
  run : flat_after (flat_run r) l cs ≡ flat_run (run_after r l (all_calls cs))
  file : flat_file (flat_run r) l cs ≡ written_along r l (all_calls cs)

along_cons : (r : Run) (l : List Float) (c : Exported) (cs : List Exported) → Reads r l c (flat_call (flat_run r) l c) → ((s : Run) (k : List Float) → Along s k cs) → Along r l (c ∷ cs)
unfolding flat_walk flat_after flat_file all_calls walk run_after written_along
along_cons r l c cs (silent e a s k) ih =
    let x = ih r l in
    record { replies = rw (e, a, s, k) x.replies; run = rw (e, s, k) x.run; file = rw (e, a, s, k) x.file }
along_cons r l c cs (asks d e s) ih =
    let b = run_call r l d in
    let x = ih b.run b.list in
    record {
      replies = rw (e, s.reply, s.run, s.list) (ap (λ (z : List Reply). b.reply ∷ z) x.replies);
      run = rw (e, s.run, s.list) x.run;
      file = rw (e, s.reply, s.run, s.list, run_back b.run, line_bytes_read (last_def b.run), x.file) refl;
    }

flat_calls_along : (r : Run) (l : List Float) (cs : List Exported) → Along r l cs
unfolding flat_walk flat_after flat_file all_calls walk run_after written_along
flat_calls_along r l [] = record { replies = refl; run = refl; file = refl }
flat_calls_along r l (c ∷ cs) = along_cons r l c cs (call_reads r l c) (λ s k. flat_calls_along s k cs)

pub exported_is_walk : ExportedIsWalk
exported_is_walk r l cs = (flat_calls_along r l cs).replies

-- ---- after Start, whose reply has the number 0 only if it is accepted
start_accepted_where_zero : (i : Inputs) (l : List Float) → (flat_started (start_of i l)).number ≡ 0 → (r : Run) × (start_of i l ≡ Ok r)
start_accepted_where_zero i l h = case_result (start_of i l) (λ r e. (r, e)) (λ refusal e. absurd (refusal_number_not_zero refusal (rw e at h)))

pub exported_starts : ExportedStarts
exported_starts i o l e =
    let s = (search_is_book i l).starts in (
      (λ r h. let q = s.refuses_all r h in (rw (e, q) refl, rw e (s.leaves_list r q))),
      (λ h. rw (e, (s.accepts_others h).1) refl),
    )

pub exported_is_book : ExportedIsBook
exported_is_book i o l e h cs =
    let a = start_accepted_where_zero i l (rw e at h) in
    rw (e, a.1) (exported_is_walk a.0 (started_list i l) cs ∙ ((search_is_book i l).follows a.0 a.1 (all_calls cs)).same_replies)

-- ---- a journal run again: no refusal has the number 0, and no line has
standing_read : (s : Result Standing Refusal) → read_replay (flat_replayed (of_no_line s)) ≡ Some (of_no_line s)
standing_read (Ok (Winner n s)) = refl
standing_read (Ok (Unfinished s)) = refl
standing_read (Err r) = simp (no_refusal_has_zero r, refusal_read r)

reply_read : (s : WalkEnd) (n : ℕ) (a : Result Standing Refusal) → read_replay (flat_replayed (reply_by s n a)) ≡ Some (reply_by s n a)
reply_read walk_end.AllTaken n a = standing_read a
reply_read walk_end.NotALine n a = simp (ne_eqb (suc n) 0 (λ z. omega arith))
reply_read walk_end.NotTheRun n a = simp (ne_eqb (suc n) 0 (λ z. omega arith))

replay_read : (i : Inputs) (l : List Float) (bs : List ℕ) → read_replay (flat_replayed (replay_of i l bs).reply) ≡ Some (replay_of i l bs).reply
unfolding replay_of
replay_read i l bs =
    let w = walked i l bs in
    case_result (start_refused i (length l)) (λ u z. rw (z, replay_of) (reply_read w.walk_end w.taken (standing w.book))) (λ r z. rw (z, replay_of) (standing_read (Err r)))

equal_replay_left_read : (a b : ReplayLeft) → a ≡ b → read_replay (flat_replayed b.reply) ≡ Some b.reply → record { reply = read_replay (flat_replayed a.reply); list = a.list } ≡ whole_replay b
equal_replay_left_read a b e h = rw e (ap (λ (x : Option (Result Standing ReplayRefusal)). record { reply = x; list = b.list }) h)

pub exported_replays : ExportedReplays
exported_replays i o l bs e =
    equal_replay_left_read (replay_from (start_with i o l) (flat_start_list i o l) bs) (replay_of i l bs) (rw e (replay_right.replay_is_book i l bs)) (replay_read i l bs)

-- ---- a run given back, and its report
ended_read : (x : EndedBy) → read_ended (ended_number x) ≡ x
ended_read by.MissingNewline = refl
ended_read (by.WalkEnded walk_end.AllTaken) = refl
ended_read (by.WalkEnded walk_end.NotALine) = refl
ended_read (by.WalkEnded walk_end.NotTheRun) = refl

report_read : (r : Run) (q : KeptLines) → read_kept_lines (flat_resumed (Ok (record { run = r; kept_lines = q }))) ≡ q
report_read r q = rw (ended_read q.ended_by) refl

resume_read : (x : BookResumed) → read_resume (flat_resumed (with_record x).reply) ≡ Some (with_record x).reply
resume_read (resumed b m q) = rw (run_back (run_of b), report_read (run_of b) q)
resume_read (not_resumed e m) = simp (no_refusal_has_zero e, refusal_read e)

equal_resume_left_read : (a b : ResumeLeft) → a ≡ b → read_resume (flat_resumed b.reply) ≡ Some b.reply → record { reply = read_resume (flat_resumed a.reply); list = a.list } ≡ whole_resume b
equal_resume_left_read a b e h = rw e (ap (λ (x : Option (Result Resumed Refusal)). record { reply = x; list = b.list }) h)

pub exported_gives_back : ExportedGivesBack
exported_gives_back i o l bs e =
    equal_resume_left_read (resume_from (start_with i o l) (flat_start_list i o l) bs) (with_record (resume_of i l bs)) (rw e (replay_right.resume_is_book i l bs)) (resume_read (resume_of i l bs))

-- ---- after Resume, whose reply has the number 0 only if Start refuses nothing
resumed_calls_by_book : (i : Inputs) (l : List Float) (bs : List ℕ) (cs : List Exported) → (flat_resumed (with_record (resume_of i l bs)).reply).number ≡ 0
    → flat_walk (flat_resumed (with_record (resume_of i l bs)).reply).run (with_record (resume_of i l bs)).list cs ≡ replies (walked i l bs).book (all_calls cs)
resumed_calls_by_book i l bs cs h =
    let w = walked i l bs in
    case_result (start_refused i (length l))
    (λ u z.
    let a = (journals_right.start_first i (length l)).accepts.0 z in
    rw (journals_right.resume_accepts i l bs a) (exported_is_walk (run_of w.book) w.list cs ∙ (journals_right.continues i l bs a (all_calls cs)).same_replies))
    (λ e z.
    let c = (journals_right.start_first i (length l)).refuses e in
    absurd (refusal_number_not_zero e (rw (journals_right.resume_refuses i l bs e (c.0 z)) at h)))

pub exported_resumes : ExportedResumes
exported_resumes i o l bs e h cs =
    let b = replay_right.resume_is_book i l bs in
    rw (e, b) (resumed_calls_by_book i l bs cs (rw (e, b) at h))

-- ---- the journal and the report, after Start and after Resume
flat_report_right : (r : Run) (l : List Float) (cs : List Exported) (b : Book) → ReportRight r l (all_calls cs) b → FlatReportRight (flat_run r) l cs b
flat_report_right r l cs b h =
    let s = run_after r l (all_calls cs) in
    let e : run_from (flat_after (flat_run r) l cs) ≡ s = ap run_from (flat_calls_along r l cs).run ∙ run_back s in
    record { counts_are = ap counts_def e ∙ h.kept; is_written = rw e (report_bytes_read (counts_def s) (report_reply (counts_def s) small_buffer) ∙ h.is_written) }

pub exported_journal : ExportedJournal
exported_journal i o l e h cs =
    let a = start_accepted_where_zero i l (rw e at h) in
    rw (e, a.1) ((flat_calls_along a.0 (started_list i l) cs).file ∙ journals_right.written_is_journal i l a.0 (all_calls cs) a.1)

pub exported_report : ExportedReport
exported_report i o l e f h cs k =
    let a = start_accepted_where_zero i l (rw e at h) in
    rw (e, a.1) (flat_report_right a.0 (started_list i l) cs (after (opened i) (all_calls cs)) (journals_right.written_report i l a.0 (all_calls cs) f k a.1))

-- what jc_resume gives back, where its number is 0
no_condition_where_resumed : (i : Inputs) (l : List Float) (bs : List ℕ) → (flat_resumed (with_record (resume_of i l bs)).reply).number ≡ 0 → NoneHolds (conditions i (length l))
no_condition_where_resumed i l bs h =
    case_result (start_refused i (length l))
    (λ u z. (journals_right.start_first i (length l)).accepts.0 z)
    (λ e z.
    let c = (journals_right.start_first i (length l)).refuses e in
    absurd (refusal_number_not_zero e (rw (journals_right.resume_refuses i l bs e (c.0 z)) at h)))

pub exported_resumed_report : ExportedResumedReport
exported_resumed_report i o l bs e f h cs k =
    let b = replay_right.resume_is_book i l bs in
    let a = no_condition_where_resumed i l bs (rw (e, b) at h) in
    let w = walked i l bs in
    rw (e, b, journals_right.resume_accepts i l bs a) (flat_report_right (run_of w.book) w.list cs (after w.book (all_calls cs)) (journals_right.resumed_report i l bs (all_calls cs) f k a))

resumed_file_is_journal : (i : Inputs) (l : List Float) (bs : List ℕ) (cs : List Exported) → InputsFit i → NoneHolds (conditions i (length l))
    → take (kept_lines_of bs (walked i l bs)).kept bs ++ flat_file (flat_run (run_of (walked i l bs).book)) (walked i l bs).list cs ≡ journal_of (after (walked i l bs).book (all_calls cs))
resumed_file_is_journal i l bs cs f a =
    let w = walked i l bs in
    let g = journals_right.gives_back i l bs f w.book w.list (kept_lines_of bs w) (journals_right.resume_accepts i l bs a) in
    rw (g.kept_journal, (flat_calls_along (run_of w.book) w.list cs).file) (written_on i w.book w.list (all_calls cs) (walked_book_state i l bs a))

pub exported_journal_grows : ExportedJournalGrows
exported_journal_grows i o l bs e f h cs =
    let b = replay_right.resume_is_book i l bs in
    let a = no_condition_where_resumed i l bs (rw (e, b) at h) in
    let w = walked i l bs in
    rw (e, b, journals_right.resume_accepts i l bs a) (resumed_file_is_journal i l bs cs f a)

pub exported_right : ExportedRight
exported_right = record {
  other_numbers_unread = other_numbers_unread;
  exported_starts = exported_starts;
  exported_is_walk = exported_is_walk;
  exported_is_book = exported_is_book;
  exported_replays = exported_replays;
  exported_gives_back = exported_gives_back;
  exported_resumes = exported_resumes;
  exported_journal = exported_journal;
  exported_journal_grows = exported_journal_grows;
  exported_report = exported_report;
  exported_resumed_report = exported_resumed_report;
}
