-- What ties the reference model to the run's record and the lent list: the list that a live run leaves, and the runs
-- that Resume gives back, as types. Definitions only.
use Rattle.std.specs.Prelude.{◌≡◌, List, Float, Ok}
use Rattle.search.specs.declared.run.Run.{Run}
use Rattle.book.specs.Calls.{Call}
use Rattle.book.specs.Book.{Inputs, Book, entries, number, opened, after}
use Rattle.book.specs.Trace.{list_after}
use Rattle.book.specs.Lent.{Lent, through}
use Rattle.book.specs.Theorem.{start_of, started_list, ByBook, Ends}
use Rattle.book_journal.specs.Lines.{journal_of}
use Rattle.book_journal.specs.Replay.{replay_of}

-- ---- The journal of a run that Start opened with the lent list l, run again with l, leaves the list as that run did.
abbrev pub LiveBuffer : Inputs → List Float → Run → List Call → Type 0
LiveBuffer i l r cs = start_of i l ≡ Ok r → (replay_of i l (journal_of (after (opened i) cs))).list ≡ list_after r (started_list i l) cs

-- ---- All that `Follows` says of a run that Start opened, said of a run r and a list m that are those of the book b,
-- no seed waiting. b's entries count as kept, so the share isn't asked of a winner that is one of theirs.
abbrev pub Continues : Inputs → Book → Run → List Float → List Call → Type 0
Continues i b r m cs = ByBook i b (entries b) r m cs

-- the same of how a run ends, whatever list each call is lent
abbrev pub ContinuesToEnd : Inputs → Book → Run → List Lent → Type 0
ContinuesToEnd i b r cs = Ends i (number b) r cs (through r cs)
