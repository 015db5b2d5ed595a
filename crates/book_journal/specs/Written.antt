-- The journal of a host that asks for the last line after each accepted Answer and hands it to the writer
-- (docs/SPECIFICATION.md, 8.4). Definitions only.
use Rattle.std.specs.Prelude.{ℕ, ◌≡◌, cond, List, [], ◌∷◌, ◌++◌, eqb, take, replicate, Float, Option, Some, None, Result, Ok, Err}
use Rattle.common.specs.declared.Refusal.{Refusal}
use Rattle.journal.specs.declared.Line.{Line}
use Rattle.journal.specs.Writing.{write_reply, write_into}
use Rattle.search.specs.declared.run.Run.{Run}
use Rattle.search.specs.Last.{last_def}
use Rattle.book.specs.Calls.{Call}
use Rattle.book.specs.Book.{Inputs, opened, after}
use Rattle.book.specs.Walk.{Step, run_call}
use Rattle.book.specs.Theorem.{start_of, started_list}
use Rattle.book_journal.specs.Lines.{journal_of}
use Rattle.book_journal.specs.Counts.{is_answer}

-- a buffer as long as the writer asks for, and the line that the writer leaves in front of it
abbrev pub buffer : List ℕ
buffer = replicate 256 0

abbrev pub front : Line → Result ℕ Refusal → List ℕ
front m (Ok n) = take n (write_into m buffer)
front m (Err refusal) = []

abbrev pub bytes_of : Option Line → List ℕ
bytes_of (Some m) = front m (write_reply m buffer)
bytes_of None = []

-- after a call: the last line's bytes if the reply is an answer's, else nothing
abbrev pub written_after : Step → List ℕ
written_after a = cond (eqb (is_answer a.reply) 1) (bytes_of (last_def a.run)) []

unfoldable pub written_along : Run → List Float → List Call → List ℕ
written_along r l [] = []
written_along r l (c ∷ cs) = let a = run_call r l c in written_after a ++ written_along a.run a.list cs

-- what the host has written is the journal of the run
abbrev pub WrittenIsJournal : Inputs → List Float → Run → List Call → Type 0
WrittenIsJournal i l r cs = start_of i l ≡ Ok r → written_along r (started_list i l) cs ≡ journal_of (after (opened i) cs)
