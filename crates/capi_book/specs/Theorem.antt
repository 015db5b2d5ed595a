-- What holds of the exported calls, as types. `capi_book/proofs/Theorem.antt` proves them. Definitions only.
use Rattle.std.specs.Prelude.{ℕ, ◌≡◌, false, eqb, List, [], ◌++◌, length, take, Float, Option, Some, None, Result, Err}
use Rattle.common.specs.Each.{All}
use Rattle.common.specs.declared.Refusal.{Refusal}
use Rattle.common.specs.Number.{number_of}
use Rattle.search.specs.declared.run.Run.{Run}
use Rattle.search.specs.Start.{start_reply, start_list}
use Rattle.capi_records.specs.declared.record.OptionsRecord.{OptionsRecord}
use Rattle.score.specs.Reasons.{reason_numbered}
use Rattle.replay.specs.declared.Standing.{Standing}
use Rattle.replay.specs.declared.ReplayRefusal.{ReplayRefusal}
use Rattle.replay.specs.declared.Resumed.{Resumed}
use Rattle.capi_records.specs.declared.record.LastRecord.{LastRecord}
use Rattle.capi_records.specs.declared.run.StartFlat.{StartFlat}
use Rattle.capi_records.specs.declared.run.NextFlat.{NextFlat}
use Rattle.capi_records.specs.declared.run.AnswerFlat.{AnswerFlat}
use Rattle.capi_records.specs.declared.run.ResultFlat.{ResultFlat}
use Rattle.capi_records.specs.declared.run.StopFlat.{StopFlat}
use Rattle.capi_records.specs.Journal.{line_from}
use Rattle.capi_records.specs.declared.replays.ReplayFlat.{ReplayFlat}
use Rattle.capi_records.specs.declared.replays.ResumeFlat.{ResumeFlat}
use Rattle.capi_records.specs.declared.record.RunRecord.{RunRecord}
use Rattle.capi_records.specs.Record.{options_from, run_from, flat_run}
use Rattle.capi_records.specs.Run.{flat_started}
use Rattle.capi_records.specs.Replay.{flat_replayed, flat_resumed}
use Rattle.replay.specs.Replay.{ReplayLeft, replay_from}
use Rattle.replay.specs.Resume.{ResumeLeft, resume_from}
use Rattle.journal.specs.Counts.{counts_in}
use Rattle.journal.specs.Reading.{read_journal}
use Rattle.journal.specs.Report.{report_bytes}
use Rattle.search.specs.Counts.{counts_def}
use Rattle.book.specs.Book.{Inputs, Book, opened, replies, after}
use Rattle.book.specs.Conditions.{FirstHolds, NoneHolds, conditions}
use Rattle.book.specs.Walk.{walk}
use Rattle.book.specs.Theorem.{options_of}
use Rattle.book_journal.specs.Lines.{journal_of}
use Rattle.book_journal.specs.History.{InputsFit, CallFits}
use Rattle.book_journal.specs.Replay.{walked, replay_of}
use Rattle.book_journal.specs.Resume.{resume_of}
use Rattle.book_journal.specs.Theorem.{with_record}
use Rattle.capi_book.specs.Exported.{Exported, all_calls, refusal_with, read_next, read_answer, read_result, read_stop, read_last, read_replay, read_kept_lines, read_resume, flat_walk, flat_after, flat_file, flat_report}

-- Start's reply, with the options that the record o is read as
abbrev pub start_with : Inputs → OptionsRecord → List Float → Result Run Refusal
start_with i o l = start_reply i.views (options_from o) i.xs i.ys i.decomposition i.base i.center l

-- jc_start's reply, and the list after it
abbrev pub flat_start : Inputs → OptionsRecord → List Float → StartFlat
flat_start i o l = flat_started (start_with i o l)

abbrev pub flat_start_list : Inputs → OptionsRecord → List Float → List Float
flat_start_list i o l = start_list i.views (options_from o) i.xs i.ys i.decomposition i.base i.center l

-- jc_start refuses with the number of the first condition that holds, and leaves the list; where none holds it refuses
-- nothing. This holds for every options record that is read as the options of the inputs.
abbrev pub ExportedStarts : Type 0
ExportedStarts = (i : Inputs) (o : OptionsRecord) (l : List Float) → options_from o ≡ options_of i
    → ((r : Refusal) → FirstHolds (conditions i (length l)) r → ((flat_start i o l).number ≡ number_of r) × (flat_start_list i o l ≡ l))
    × (NoneHolds (conditions i (length l)) → (flat_start i o l).number ≡ 0)

-- From any run on, the exported calls reply as the entry points do.
abbrev pub ExportedIsWalk : Type 0
ExportedIsWalk = (r : Run) (l : List Float) (cs : List Exported) → flat_walk (flat_run r) l cs ≡ walk r l (all_calls cs)

-- After a jc_start that refuses nothing, every list of exported calls gets the replies of the reference model.
abbrev pub ExportedIsBook : Type 0
ExportedIsBook = (i : Inputs) (o : OptionsRecord) (l : List Float) → options_from o ≡ options_of i → (flat_start i o l).number ≡ 0
    → (cs : List Exported) → flat_walk (flat_start i o l).run (flat_start_list i o l) cs ≡ replies (opened i) (all_calls cs)

-- ---- the replies of jc_replay and jc_resume to the bytes bs of a journal, and the lent lists after them
abbrev pub flat_replay : Inputs → OptionsRecord → List Float → List ℕ → ReplayFlat
flat_replay i o l bs = flat_replayed (replay_from (start_with i o l) (flat_start_list i o l) bs).reply

abbrev pub flat_replay_list : Inputs → OptionsRecord → List Float → List ℕ → List Float
flat_replay_list i o l bs = (replay_from (start_with i o l) (flat_start_list i o l) bs).list

abbrev pub flat_resume : Inputs → OptionsRecord → List Float → List ℕ → ResumeFlat
flat_resume i o l bs = flat_resumed (resume_from (start_with i o l) (flat_start_list i o l) bs).reply

abbrev pub flat_resume_list : Inputs → OptionsRecord → List Float → List ℕ → List Float
flat_resume_list i o l bs = (resume_from (start_with i o l) (flat_start_list i o l) bs).list

-- What a host has after such a call: what it reads off the reply, or nothing where the number is no refusal's; and the
-- list.
pub record HostHas (A : Type 0) : Type 0 where
  pub reply : Option A
  pub list : List Float

abbrev pub replay_left : Inputs → OptionsRecord → List Float → List ℕ → HostHas (Result Standing ReplayRefusal)
replay_left i o l bs = record { reply = read_replay (flat_replay i o l bs); list = flat_replay_list i o l bs }

abbrev pub resume_left : Inputs → OptionsRecord → List Float → List ℕ → HostHas (Result Resumed Refusal)
resume_left i o l bs = record { reply = read_resume (flat_resume i o l bs); list = flat_resume_list i o l bs }

abbrev pub whole_replay : ReplayLeft → HostHas (Result Standing ReplayRefusal)
whole_replay a = record { reply = Some a.reply; list = a.list }

abbrev pub whole_resume : ResumeLeft → HostHas (Result Resumed Refusal)
whole_resume a = record { reply = Some a.reply; list = a.list }

-- The reply and the list of jc_replay are those of the reference model.
abbrev pub ExportedReplays : Type 0
ExportedReplays = (i : Inputs) (o : OptionsRecord) (l : List Float) (bs : List ℕ) → options_from o ≡ options_of i → replay_left i o l bs ≡ whole_replay (replay_of i l bs)

-- The reply of jc_resume is the record of the model's run and its report, and its list is the model's.
abbrev pub ExportedGivesBack : Type 0
ExportedGivesBack = (i : Inputs) (o : OptionsRecord) (l : List Float) (bs : List ℕ) → options_from o ≡ options_of i → resume_left i o l bs ≡ whole_resume (with_record (resume_of i l bs))

-- After a jc_resume that refuses nothing, every list of exported calls gets the replies of the book that the kept lines
-- lead to.
abbrev pub ExportedResumes : Type 0
ExportedResumes = (i : Inputs) (o : OptionsRecord) (l : List Float) (bs : List ℕ) → options_from o ≡ options_of i → (flat_resume i o l bs).number ≡ 0
    → (cs : List Exported) → flat_walk (flat_resume i o l bs).run (resume_left i o l bs).list cs ≡ replies (walked i l bs).book (all_calls cs)

-- ---- The bytes that a host gets by jc_last_line and jc_write_line after each accepted Answer are the run's journal.
-- Of a run that jc_resume gave back they come behind the kept bytes.
abbrev pub ExportedJournal : Type 0
ExportedJournal = (i : Inputs) (o : OptionsRecord) (l : List Float) → options_from o ≡ options_of i → (flat_start i o l).number ≡ 0
    → (cs : List Exported) → flat_file (flat_start i o l).run (flat_start_list i o l) cs ≡ journal_of (after (opened i) (all_calls cs))

abbrev pub ExportedJournalGrows : Type 0
ExportedJournalGrows = (i : Inputs) (o : OptionsRecord) (l : List Float) (bs : List ℕ) → options_from o ≡ options_of i → InputsFit i → (flat_resume i o l bs).number ≡ 0
    → (cs : List Exported)
    → take (read_kept_lines (flat_resume i o l bs)).kept bs ++ flat_file (flat_resume i o l bs).run (resume_left i o l bs).list cs ≡ journal_of (after (walked i l bs).book (all_calls cs))

-- After any calls jc_counts replies with the counts of the lines in the run's journal, and jc_write_report writes their
-- report.
pub record FlatReportRight (r : RunRecord) (l : List Float) (cs : List Exported) (b : Book) : Type 0 where
  pub counts_are : counts_def (run_from (flat_after r l cs)) ≡ counts_in (read_journal (journal_of b)).lines
  pub is_written : flat_report (flat_after r l cs) ≡ report_bytes (counts_in (read_journal (journal_of b)).lines)

abbrev pub ExportedReport : Type 0
ExportedReport = (i : Inputs) (o : OptionsRecord) (l : List Float) → options_from o ≡ options_of i → InputsFit i → (flat_start i o l).number ≡ 0
    → (cs : List Exported) → All CallFits (all_calls cs) → FlatReportRight (flat_start i o l).run (flat_start_list i o l) cs (after (opened i) (all_calls cs))

abbrev pub ExportedResumedReport : Type 0
ExportedResumedReport = (i : Inputs) (o : OptionsRecord) (l : List Float) (bs : List ℕ) → options_from o ≡ options_of i → InputsFit i → (flat_resume i o l bs).number ≡ 0
    → (cs : List Exported) → All CallFits (all_calls cs) → FlatReportRight (flat_resume i o l bs).run (resume_left i o l bs).list cs (after (walked i l bs).book (all_calls cs))

-- ---- A number of no refusal is no reply, whatever else the record holds; and neither is a skip number of no reason.
abbrev pub NoReplysNumber : ℕ → Type 0
NoReplysNumber n = (eqb n 0 ≡ false) × (refusal_with n ≡ None)

pub record OtherNumbersUnread : Type 0 where
  pub next_unread : (f : NextFlat) → NoReplysNumber f.number → read_next f ≡ []
  pub answer_unread : (f : AnswerFlat) → NoReplysNumber f.number → read_answer f ≡ []
  pub result_unread : (f : ResultFlat) → NoReplysNumber f.number → read_result f ≡ []
  pub stop_unread : (f : StopFlat) → NoReplysNumber f.number → read_stop f ≡ []
  pub replay_unread : (f : ReplayFlat) → NoReplysNumber f.number → read_replay f ≡ None
  pub resume_unread : (f : ResumeFlat) → NoReplysNumber f.number → read_resume f ≡ None
  pub skip_unread : (f : AnswerFlat) (e : Refusal) → f.number ≡ 0 → eqb f.skipped 0 ≡ false → reason_numbered f.skipped ≡ Err e → read_answer f ≡ []
  pub line_unread : (f : LastRecord) (e : Refusal) → eqb f.found 0 ≡ false → line_from f.line ≡ Err e → read_last f ≡ []

-- ---- all of it
pub record ExportedRight : Type 0 where
  pub other_numbers_unread : OtherNumbersUnread
  pub exported_starts : ExportedStarts
  pub exported_is_walk : ExportedIsWalk
  pub exported_is_book : ExportedIsBook
  pub exported_replays : ExportedReplays
  pub exported_gives_back : ExportedGivesBack
  pub exported_resumes : ExportedResumes
  pub exported_journal : ExportedJournal
  pub exported_journal_grows : ExportedJournalGrows
  pub exported_report : ExportedReport
  pub exported_resumed_report : ExportedResumedReport
