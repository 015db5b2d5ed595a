-- The counts that the run's record keeps after any calls, and the report of them, are those of the lines in the run's
-- journal, whether Start or Resume opened the run. Assumes nothing.
use Rattle.std.proofs.Common.{ℕ, ◌≤◌, arith, ◌≡◌, refl, sym, ap, ◌∙◌, false, List, [], ◌++◌, le-ltb, ltb, length, take, drop, Float, Ok}
use lib.ListN.{length-replicate}
use lib.Seq.{take-append_seam}
use Rattle.common.specs.Each.{All}
use Rattle.journal.specs.declared.Counts.{Counts}
use Rattle.journal.specs.Counts.{counts_in}
use Rattle.journal.specs.Reading.{read_journal, Lines}
use Rattle.journal.specs.Report.{total, report_bytes, refuses_report, report_reply, report_into}
use Rattle.search.specs.declared.run.Run.{Run}
use Rattle.search.specs.Counts.{counts_def}
use Rattle.book.specs.Calls.{Call}
use Rattle.book.specs.Book.{Inputs, Book, entries, opened, tally, after}
use Rattle.book.specs.Trace.{run_after}
use Rattle.book.specs.Theorem.{started_list}
use Rattle.book.proofs.Opening.{start_opens_book}
use Rattle.book.specs.RunOf.{run_of}
use Rattle.book.proofs.RunOf.{State, number_le_656}
use Rattle.book.proofs.Simulation.{counts_def_of_run}
use Rattle.book.proofs.Tally.{tally_total}
use Rattle.book.proofs.Walks.{walks}
use Rattle.book_journal.specs.Lines.{lines_of, journal_of}
use Rattle.book_journal.specs.Replay.{walked}
use Rattle.book_journal.specs.History.{fresh, from, History, InputsFit, CallFits}
use Rattle.book_journal.specs.Reported.{small_buffer, report_of, ReportRight, WrittenReport, ResumedReport}
use Rattle.book_journal.proofs.Again.{Sound, history_sound, sound_lines_read_back}
use Rattle.book_journal.proofs.Walk.{walked_ignores_list}
use Rattle.book_journal.proofs.Live.{accepted_start_none_holds, walked_book_state}

-- ---- the writer takes counts with a total of at most 656, and leaves their report in front of the buffer
module _ (c : Counts) (h : total c ≤ 656) where
  report_not_refused : refuses_report c small_buffer ≡ false
  unfolding refuses_report
  report_not_refused =
      let n : ltb (length small_buffer) 24 ≡ false = le-ltb (length small_buffer) 24 (omega (arith, length-replicate {A = ℕ} 24 0)) in
      rw (n, le-ltb 656 (total c) h)

  report_replies_length : report_reply c small_buffer ≡ Ok (length (report_bytes c))
  unfolding report_reply
  report_replies_length = rw report_not_refused

  report_in_front : report_into c small_buffer ≡ report_bytes c ++ drop (length (report_bytes c)) small_buffer
  unfolding report_into
  report_in_front = rw report_not_refused

  writes_report : report_of c (report_reply c small_buffer) ≡ report_bytes c
  writes_report = ap (report_of c) report_replies_length ∙ ap (take (length (report_bytes c))) report_in_front ∙ take-append_seam (report_bytes c) (drop (length (report_bytes c)) small_buffer)

-- ---- the counts of the lines
tally_is_counts_in_lines : (b : Book) → tally (entries b) ≡ counts_in (lines_of b)
unfolding tally
tally_is_counts_in_lines b = refl

report_right : (i : Inputs) (b : Book) (l : List Float) (cs : List Call) → State i b l → Sound i (after b cs) → ReportRight (run_of b) l cs (after b cs)
report_right i b l cs t s =
    let d = after b cs in
    let w = walks i b l cs t in
    let g = w.state.good in
    let k : counts_def (run_after (run_of b) l cs) ≡ tally (entries d) = ap counts_def w.run_is ∙ counts_def_of_run i d g in
    let n : total (tally (entries d)) ≤ 656 = rw (tally_total (entries d)) (number_le_656 i d g) in
    let e : tally (entries d) ≡ counts_in (read_journal (journal_of d)).lines = tally_is_counts_in_lines d ∙ ap (λ (z : Lines). counts_in z.lines) (sym (sound_lines_read_back i d s).read_back) in
    record { kept = k ∙ e; is_written = ap (λ (c : Counts). report_of c (report_reply c small_buffer)) k ∙ writes_report (tally (entries d)) n ∙ ap report_bytes e }

-- ---- a run that Start opened, and one that Resume gave back
pub written_report : (i : Inputs) (l : List Float) (r : Run) (cs : List Call) → InputsFit i → All CallFits cs → WrittenReport i l r cs
written_report i l r cs f k h =
    let o = start_opens_book i l r h in
    let past : History i = record { room = length l; accepted = accepted_start_none_holds i l r h; opening = fresh; calls = cs } in
    rw o.run_is (report_right i (opened i) (started_list i l) cs o.state (history_sound i past f k))

pub resumed_report : (i : Inputs) (l : List Float) (bs : List ℕ) (cs : List Call) → InputsFit i → All CallFits cs → ResumedReport i l bs cs
resumed_report i l bs cs f k a =
    let past : History i = record { room = length l; accepted = a; opening = from bs; calls = cs } in
    report_right i (walked i l bs).book (walked i l bs).list cs (walked_book_state i l bs a)
    (rw (walked_ignores_list i l [] bs).0 (history_sound i past f k))
