-- The report of a host that asks for the counts after some calls and hands them to the report's writer, and that it is
-- right, as types (docs/SPECIFICATION.md, 8.5). Definitions only.
use Rattle.std.specs.Prelude.{ℕ, ◌≡◌, List, [], length, take, replicate, Float, Result, Ok, Err}
use Rattle.common.specs.declared.Refusal.{Refusal}
use Rattle.journal.specs.declared.Counts.{Counts}
use Rattle.journal.specs.Counts.{counts_in}
use Rattle.journal.specs.Reading.{read_journal}
use Rattle.journal.specs.Report.{report_bytes, report_reply, report_into}
use Rattle.search.specs.declared.run.Run.{Run}
use Rattle.search.specs.Counts.{counts_def}
use Rattle.book.specs.Calls.{Call}
use Rattle.book.specs.Book.{Inputs, Book, opened, after}
use Rattle.book.specs.Conditions.{NoneHolds, conditions}
use Rattle.book.specs.Trace.{run_after}
use Rattle.book.specs.Theorem.{start_of, started_list}
use Rattle.book.specs.RunOf.{run_of}
use Rattle.book_journal.specs.Lines.{journal_of}
use Rattle.book_journal.specs.Replay.{walked}

-- a buffer as long as a report can get, and the report that the writer leaves in front of it
abbrev pub small_buffer : List ℕ
small_buffer = replicate 24 0

abbrev pub report_of : Counts → Result ℕ Refusal → List ℕ
report_of c (Ok n) = take n (report_into c small_buffer)
report_of c (Err refusal) = []

-- the report after some calls
abbrev pub reported : Run → List Float → List Call → List ℕ
reported r l cs = let c = counts_def (run_after r l cs) in report_of c (report_reply c small_buffer)

-- each count is the number of such lines in the journal of the book b, both in the record and in the written report
pub record ReportRight (r : Run) (l : List Float) (cs : List Call) (b : Book) : Type 0 where
  pub kept : counts_def (run_after r l cs) ≡ counts_in (read_journal (journal_of b)).lines
  pub is_written : reported r l cs ≡ report_bytes (counts_in (read_journal (journal_of b)).lines)

-- of a run that Start opened, and of one that Resume gave back
abbrev pub WrittenReport : Inputs → List Float → Run → List Call → Type 0
WrittenReport i l r cs = start_of i l ≡ Ok r → ReportRight r (started_list i l) cs (after (opened i) cs)

abbrev pub ResumedReport : Inputs → List Float → List ℕ → List Call → Type 0
ResumedReport i l bs cs = let w = walked i l bs in NoneHolds (conditions i (length l)) → ReportRight (run_of w.book) w.list cs (after w.book cs)
