-- The lines that a host writes after each accepted Answer are the journal of the book. Assumes nothing.
use Rattle.std.proofs.Common.{ℕ, arith, ◌≡◌, sym, ap, subst, ◌∙◌, true, false, List, [], ◌∷◌, ◌++◌, append_assoc, append-nil, le-ltb, ltb, length, take, drop, Float, Ok}
use mathlib.Core.Option.{some}
use lib.ListN.{length-replicate}
use lib.Seq.{take-append_seam}
use Rattle.score.specs.Reasons.{Outcome}
use Rattle.journal.specs.declared.Line.{Line}
use Rattle.journal.specs.Line.{line_bytes, Writable, journal_bytes}
use Rattle.journal.specs.Writing.{refuses_line, write_reply, write_into}
use Rattle.journal.proofs.Fronts.{journal_bytes_append}
use Rattle.search.specs.declared.run.Run.{Run}
use Rattle.search.specs.Last.{last_def}
use Rattle.book.specs.Calls.{Call}
use Rattle.book.specs.Book.{Inputs, Book, entries, current, line_of, last_of, opened, book_enter, BookLeft as Answer, book_call, after}
use Rattle.book.specs.Walk.{run_call}
use Rattle.book.specs.Theorem.{started_list}
use Rattle.book.proofs.Moves.{entry, Stands, enter_adds_entry, waiting_keeps_entries, call_keeps}
use Rattle.book.proofs.Good.{Good, book_not_over_where_seed_waits, calls_keep_good}
use Rattle.book.specs.RunOf.{run_of}
use Rattle.book.proofs.RunOf.{State}
use Rattle.book.proofs.Simulation.{last_of_snoc, last_entry_proper, last_def_of_run, call_agrees}
use Rattle.book.proofs.Opening.{start_opens_book}
use Rattle.book_journal.specs.Lines.{lines_of}
use Rattle.book_journal.specs.Written.{buffer, front, bytes_of, written_after, written_along, WrittenIsJournal}
use Rattle.book_journal.proofs.Again.{entry_line_writable}
use Rattle.book_journal.proofs.Counted.{Says, quiet, hands_out, answers_with, call_says, enter_adds_line, outcome_reply_is_answer}

journal_of_one_line : (m : Line) → journal_bytes (m ∷ []) ≡ line_bytes m
unfolding journal_bytes
journal_of_one_line m = append-nil (line_bytes m)

-- ---- the writer takes a line that can be written, and leaves its bytes in front of the buffer
module _ (m : Line) (w : Writable m) where
  line_not_refused : refuses_line m buffer ≡ false
  unfolding refuses_line
  line_not_refused = let n : ltb (length buffer) 256 ≡ false = le-ltb (length buffer) 256 (omega (arith, length-replicate {A = ℕ} 256 0)) in rw (n, w)

  line_replies_length : write_reply m buffer ≡ Ok (length (line_bytes m))
  unfolding write_reply
  line_replies_length = rw line_not_refused

  line_in_front : write_into m buffer ≡ line_bytes m ++ drop (length (line_bytes m)) buffer
  unfolding write_into
  line_in_front = rw line_not_refused

  line_written : front m (write_reply m buffer) ≡ line_bytes m
  line_written = ap (front m) line_replies_length ∙ ap (take (length (line_bytes m))) line_in_front ∙ take-append_seam (line_bytes m) (drop (length (line_bytes m)) buffer)

-- ---- an answer's line is written, and no line after another call
module _ (i : Inputs) (b : Book) (l : List Float) (o : Outcome) (t : State i b l) (w : b.waits ≡ true) (g : Good i (book_enter b o)) where
  entered_entry_is_last : last_of (entries (book_enter b o)) ≡ some (entry b o)
  entered_entry_is_last = ap last_of (enter_adds_entry b o).0 ∙ last_of_snoc (entries b) (entry b o)

  waiting_outcome_stands : Stands b.inputs (current b).sensor o
  waiting_outcome_stands = subst (λ (j : Inputs). Stands j (current b).sensor o) (g.inputs_are ∙ sym t.good.inputs_are) (last_entry_proper i (book_enter b o) (entry b o) g entered_entry_is_last).stands

  answer_writes_line : bytes_of (last_def (run_of (book_enter b o))) ≡ line_bytes (line_of (entry b o))
  answer_writes_line = ap bytes_of (last_def_of_run i (book_enter b o) (entry b o) g entered_entry_is_last) ∙ line_written (line_of (entry b o)) (entry_line_writable i b o t.good (book_not_over_where_seed_waits i b t.good w) waiting_outcome_stands)

call_writes_entered_line : (i : Inputs) (b : Book) (l : List Float) (c : Call) → State i b l
    → journal_bytes (lines_of b) ++ written_after (record { reply = (book_call b c).reply; run = run_of (book_call b c).book; list = l }) ≡ journal_bytes (lines_of (book_call b c).book)
call_writes_entered_line i b l c t = go (book_call b c) (call_says b c) (call_keeps (calls_keep_good i) b c t.good)
  where
    go : (d : Answer) → Says b d → Good i d.book → journal_bytes (lines_of b) ++ written_after (record { reply = d.reply; run = run_of d.book; list = l }) ≡ journal_bytes (lines_of d.book)
    go d (quiet e q) g = rw (e, q.1) (append-nil (journal_bytes (lines_of b)))
    go d (hands_out w e r) g = rw (e, r, (waiting_keeps_entries b).0) (append-nil (journal_bytes (lines_of b)))
    go d (answers_with o w e r) g =
        rw (e, r, (outcome_reply_is_answer o).0, answer_writes_line i b l o t w (rw e at g), enter_adds_line b o)
        (sym (journal_bytes_append (lines_of b) (line_of (entry b o) ∷ []) ∙ ap (λ (z : List ℕ). journal_bytes (lines_of b) ++ z) (journal_of_one_line (line_of (entry b o)))))

-- ---- any calls
pub calls_write_journal : (i : Inputs) (b : Book) (l : List Float) (cs : List Call) → State i b l → journal_bytes (lines_of b) ++ written_along (run_of b) l cs ≡ journal_bytes (lines_of (after b cs))
unfolding written_along after
calls_write_journal i b l [] t = append-nil (journal_bytes (lines_of b))
calls_write_journal i b l (c ∷ cs) t =
    let x = run_call (run_of b) l c in
    let k = book_call b c in
    let a = call_agrees i b l c t in
    let ih = calls_write_journal i k.book x.list cs (record { good = call_keeps (calls_keep_good i) b c t.good; there = a.there }) in
    rw (a.reply, a.run)
    (sym (append_assoc (journal_bytes (lines_of b)) (written_after (record { reply = k.reply; run = run_of k.book; list = l })) (written_along (run_of k.book) x.list cs))
    ∙ ap (λ (z : List ℕ). z ++ written_along (run_of k.book) x.list cs) (call_writes_entered_line i b l c t)
    ∙ ih)

pub written_is_journal : (i : Inputs) (l : List Float) (r : Run) (cs : List Call) → WrittenIsJournal i l r cs
unfolding opened journal_bytes
written_is_journal i l r cs h = let o = start_opens_book i l r h in rw o.run_is (calls_write_journal i (opened i) (started_list i l) cs o.state)
