-- The theorems of book_journal, as types. The comment on each part names the file that proves it. Definitions only.
use Rattle.std.specs.Prelude.{ℕ, ◌≤◌, ◌≡◌, List, ◌++◌, length, Float, Ok, true, false, cond, [], ◌∷◌, take, Result, Err}
use Rattle.common.specs.Each.{All}
use Rattle.search.specs.declared.run.Run.{Run}
use Rattle.journal.specs.Line.{Writable}
use Rattle.replay.specs.declared.Standing.TheVariants.{Winner, Unfinished}
use Rattle.replay.specs.declared.KeptLines.{KeptLines}
use Rattle.book.specs.Calls.{Call, next}
use Rattle.book.specs.Book.{Inputs, Book, number}
use Rattle.book.specs.Conditions.{NoneHolds, conditions}
use Rattle.book.specs.Lent.{Lent}
use Rattle.book.specs.RunOf.{run_of}
use Rattle.book_journal.specs.Lines.{lines_of, journal_of}
use Rattle.book_journal.specs.Replay.{walked, replay_of}
use Rattle.book_journal.specs.History.{opened_by, History, book_at, list_at, InputsFit, CallFits, at_rest}
use Rattle.book_journal.specs.ReplayLaw.{StartRefused, LinesOfRun, RunAgain, BufferOf, Accepted, SameAsReader, Declines, StartRefuses, FrontAlone}
use Rattle.book_journal.specs.Resume.{resumed, resume_of, ResumeRefuses, ResumeAccepts, GivesBack, CutAt, cut_run, uncut, GoesOn, GoesOnSomewhere, EntersOn, JournalGrows, Resumed, not_resumed, cut_journal, cut_kept_lines}
use Rattle.book_journal.specs.Counts.{CountsAgree, InJournal}
use Rattle.book_journal.specs.Stretches.{Groups, StretchesRight, LineStretchesRight}
use Rattle.book_journal.specs.Live.{LiveBuffer, Continues, ContinuesToEnd}
use Rattle.book_journal.specs.Written.{WrittenIsJournal, written_along}
use Rattle.book_journal.specs.Reported.{WrittenReport, ResumedReport}
use Rattle.common.specs.declared.Refusal.TheVariants.{NothingScored, NotOver}
use Rattle.score.specs.declared.best.Candidate.{Candidate}
use Rattle.journal.specs.Reading.{newlines}
use Rattle.search.specs.Record.{no_waiting_seed}
use Rattle.search.specs.declared.next.Handed.TheVariants as handed
use Rattle.search.specs.Next.{next_def}
use Rattle.search.specs.Result.{result_def}
use Rattle.replay.specs.declared.Standing.{Standing}
use Rattle.replay.specs.declared.ReplayRefusal.{ReplayRefusal}
use Rattle.replay.specs.declared.ReplayRefusal.TheVariants.{Refused}
use Rattle.replay.specs.declared.WalkEnd.TheVariants.{AllTaken}
use Rattle.replay.specs.declared.EndedBy.TheVariants as by
use Rattle.replay.specs.Replay.{replay_from}
use Rattle.replay.specs.Resume.{ResumeLeft, resume_from}
use Rattle.book.specs.Trace.{run_after, list_after}
use Rattle.book.specs.Walk.{walk}
use Rattle.book.specs.Theorem.{start_of, started_list}

-- ---- All that is proved of journals over the reference model. `proofs/Theorem.antt` proves it. Definitions only.

-- a history whose numbers are those of binary64, as all numbers of a program are
pub record Fitting (i : Inputs) (h : History i) : Type 0 where
  pub inputs_fit : InputsFit i
  pub calls_fit : All CallFits h.calls

pub record JournalsRight : Type 0 where
  -- ---- the journal of a run: the writer takes every line of a run, whatever the host sent, and the reader gives it
  -- back
  pub lines_taken : (i : Inputs) (h : History i) → All Writable (lines_of (book_at h))
  pub lines_of_run : (i : Inputs) (h : History i) → Fitting i h → LinesOfRun (book_at h)
  -- the bytes that a host writes after each accepted Answer are the journal of the run
  pub written_is_journal : (i : Inputs) (l : List Float) (r : Run) (cs : List Call) → WrittenIsJournal i l r cs
  -- ---- running a journal again
  pub start_first : (i : Inputs) (n : ℕ) → StartRefused i n
  pub start_refuses : (i : Inputs) (l : List Float) (bs : List ℕ) → StartRefuses i l bs
  pub run_again : (i : Inputs) (h : History i) → Fitting i h → (l : List Float) → NoneHolds (conditions i (length l)) → RunAgain i h l
  pub live_buffer : (i : Inputs) (l : List Float) (r : Run) (cs : List Call) → InputsFit i → All CallFits cs → LiveBuffer i l r cs
  pub accepted : (i : Inputs) (l : List Float) (bs : List ℕ) → InputsFit i → (n : ℕ) (s : Float) → (replay_of i l bs).reply ≡ Ok (Winner n s) → Accepted i l bs n s
  pub declines : (i : Inputs) (l : List Float) (bs : List ℕ) → InputsFit i → Declines i l bs
  pub same_as_reader : (i : Inputs) (l : List Float) (bs : List ℕ) → InputsFit i → NoneHolds (conditions i (length l)) → SameAsReader i l bs
  pub front_alone : (i : Inputs) (l : List Float) (bs : List ℕ) → FrontAlone i l bs
  pub walked_buffer : (i : Inputs) (l : List Float) (bs : List ℕ) → NoneHolds (conditions i (length l)) → BufferOf i l (walked i l bs).book (walked i l bs).list
  pub called_buffer : (i : Inputs) (h : History i) (l : List Float) → NoneHolds (conditions i (length l)) → BufferOf i l (book_at h) (list_at h l)
  -- the book of a resumed run doesn't depend on which list is lent
  pub any_buffer : (i : Inputs) (l m : List Float) (bs : List ℕ) → (walked i l bs).book ≡ (walked i m bs).book
  -- ---- going on from a journal
  pub resume_refuses : (i : Inputs) (l : List Float) (bs : List ℕ) → ResumeRefuses i l bs
  pub resume_accepts : (i : Inputs) (l : List Float) (bs : List ℕ) → ResumeAccepts i l bs
  pub gives_back : (i : Inputs) (l : List Float) (bs : List ℕ) → InputsFit i → (b : Book) (m : List Float) (r : KeptLines) → resume_of i l bs ≡ resumed b m r → GivesBack i l bs b m r
  pub cut_anywhere : (i : Inputs) (h : History i) → Fitting i h → (at : ℕ) (l : List Float) → CutAt i h at l
  pub goes_on : (i : Inputs) (h : History i) → Fitting i h → (at : ℕ) (cs ds : List Call) → h.calls ≡ cs ++ ds → number (uncut i h at cs ds) ≡ number (cut_run i h at) → GoesOn i h at cs ds
  pub goes_on_somewhere : (i : Inputs) (h : History i) → Fitting i h → (at : ℕ) → number (opened_by i h.opening) ≤ number (cut_run i h at) → GoesOnSomewhere i h at
  pub enters_on : (i : Inputs) (h : History i) → Fitting i h → (at : ℕ) → EntersOn i h at
  -- with that book's run and list every list of calls has all that `Follows` says of a run that Start opened, and the
  -- run comes to its end whatever lists are lent
  pub continues : (i : Inputs) (l : List Float) (bs : List ℕ) → NoneHolds (conditions i (length l)) → (cs : List Call) → Continues i (walked i l bs).book (run_of (walked i l bs).book) (walked i l bs).list cs
  pub continues_to_end : (i : Inputs) (l : List Float) (bs : List ℕ) → NoneHolds (conditions i (length l)) → (cs : List Lent) → ContinuesToEnd i (walked i l bs).book (run_of (walked i l bs).book) cs
  pub journal_grows : (i : Inputs) (h : History i) → JournalGrows h
  -- ---- the counts and the report
  pub counts_agree : (i : Inputs) (h : History i) → CountsAgree i h
  pub in_journal : (i : Inputs) (h : History i) → Fitting i h → InJournal h
  -- after any calls of a run that Start opened, and of one that Resume gave back
  pub written_report : (i : Inputs) (l : List Float) (r : Run) (cs : List Call) → InputsFit i → All CallFits cs → WrittenReport i l r cs
  pub resumed_report : (i : Inputs) (l : List Float) (bs : List ℕ) (cs : List Call) → InputsFit i → All CallFits cs → ResumedReport i l bs cs
  -- ---- the winners of stretches
  pub groups : Groups
  pub stretches_right : (b : Book) → StretchesRight b
  pub line_stretches_right : (i : Inputs) (h : History i) → Fitting i h → LineStretchesRight (book_at h)

-- ---- What the code does with a journal is what the reference model says, and what follows for a run and its own
-- file, over the definitions of the code alone (docs/SPECIFICATION.md, 8.6 to 8.10). `proofs/Replayed.antt` proves it.

-- ---- for all inputs, lent lists and bytes
-- Replay: the reply and the lent list
abbrev pub ReplayIsBook : Inputs → List Float → List ℕ → Type 0
ReplayIsBook i l bs = replay_from (start_of i l) (started_list i l) bs ≡ replay_of i l bs

-- Resume: the run given back is the record of the book, field by field
abbrev pub with_record : Resumed → ResumeLeft
with_record (resumed b m q) = record { reply = Ok (record { run = run_of b; kept_lines = q }); list = m }
with_record (not_resumed r m) = record { reply = Err r; list = m }

abbrev pub ResumeIsBook : Inputs → List Float → List ℕ → Type 0
ResumeIsBook i l bs = resume_from (start_of i l) (started_list i l) bs ≡ with_record (resume_of i l bs)

-- ---- Resume, from these bytes, gives back this run, this report and this list
abbrev pub GivesRun : Inputs → List Float → List ℕ → Run → KeptLines → List Float → Type 0
GivesRun i l bs r q m = resume_from (start_of i l) (started_list i l) bs ≡ record { reply = Ok (record { run = r; kept_lines = q }); list = m }

-- the same run and the same report, whichever list k is lent
abbrev pub WithAnyList : Inputs → List ℕ → Run → KeptLines → Type 0
WithAnyList i bs r q = (k : List Float) → NoneHolds (conditions i (length k)) → (resume_from (start_of i k) (started_list i k) bs).reply ≡ Ok (record { run = r; kept_lines = q })

-- Any run that Resume gives back is the record of a book with no seed waiting, with all that `GivesBack` says; and the
-- calls that follow have all that `Continues` says.
pub record ResumedRun (i : Inputs) (l : List Float) (bs : List ℕ) (r : Run) (q : KeptLines) (m : List Float) : Type 0 where
  pub book : Book
  pub run_is : r ≡ run_of book
  pub gives_back : GivesBack i l bs book m q
  pub continues : (cs : List Call) → Continues i book r m cs

-- the report where all is kept: n lines, whose bytes are j
abbrev pub all_kept : ℕ → List ℕ → KeptLines
all_kept n j = record { lines = n; kept = length j; dropped = 0; ended_by = by.WalkEnded AllTaken }

-- ---- A history of the reference model, however it was opened and whatever the calls: its journal gives back the
-- record of the run with no seed waiting; the journal cut after any byte gives back the record of the book of the kept
-- lines (`CutAt.book_is`, `GoesOn.stands_there`).
abbrev pub ResumedRecord : (i : Inputs) → History i → List Float → Type 0
ResumedRecord i h l = GivesRun i l (journal_of (book_at h)) (run_of (at_rest (book_at h))) (all_kept (number (book_at h)) (journal_of (book_at h))) (list_at h l)

abbrev pub CutRecord : (i : Inputs) → History i → ℕ → List Float → Type 0
CutRecord i h at l = GivesRun i l (cut_journal i h at) (run_of (cut_run i h at)) (cut_kept_lines i h at l) (walked i l (cut_journal i h at)).list

-- ---- The same over the definitions of the code alone: a run that Start or Resume opened, where l was lent, with its
-- record, its list and the bytes of its file.
pub data OpenedAs (i : Inputs) (l : List Float) : Run → List Float → List ℕ → Type 0 where
  by_start : (r : Run) → start_of i l ≡ Ok r → OpenedAs i l r (started_list i l) []
  by_resume : (bs : List ℕ) (r : Run) (q : KeptLines) (m : List Float) → GivesRun i l bs r q m → OpenedAs i l r m (take q.kept bs)

-- the record with no seed waiting, and everything else as it is
abbrev pub none_waiting : Run → Run
none_waiting r = record {
  options = r.options;
  center = r.center;
  place = r.place;
  waiting = no_waiting_seed;
  round_best = r.round_best;
  run_best = r.run_best;
  last = r.last;
  counts = r.counts;
}

-- The reply a says how the run s with its list n stands: its winner, 11, or the seed that waits or that Next would hand
-- out.
pub record StandsAs (s : Run) (n : List Float) (a : Result Standing ReplayRefusal) : Type 0 where
  pub won : (w : Candidate) → result_def s ≡ Ok w → a ≡ Ok (Winner w.number w.score)
  pub none_won : result_def s ≡ Err NothingScored → a ≡ Err (Refused NothingScored)
  pub waits : result_def s ≡ Err NotOver → s.waiting.is_waiting ≡ true → a ≡ Ok (Unfinished s.waiting.seed)
  pub comes_next : result_def s ≡ Err NotOver → s.waiting.is_waiting ≡ false
      → ((next_def s n).reply ≡ Ok (handed.Candidate s.place.number)) × (a ≡ Ok (Unfinished (next_def s n).run.waiting.seed))

-- Next, if a seed waits, so that it is handed out again
abbrev pub again : Run → List Call
again s = cond s.waiting.is_waiting (next s.place.demand ∷ []) []

-- the run r, its list m and its file `held` as they were opened, and the calls cs after that
module _ (i : Inputs) (l : List Float) (r : Run) (m : List Float) (held : List ℕ) (cs : List Call) where
  -- the bytes written after each accepted Answer come behind `held`
  abbrev pub file : List ℕ
  file = held ++ written_along r m cs

  -- Where the run s with a list o and the kept bytes j goes on with the calls `behind`, its replies, its run, so its
  -- winner, and its file are those of the uncut run, whose calls before were `before`.
  pub record GoesOnAs (j : List ℕ) (s : Run) (o : List Float) (before behind : List Call) : Type 0 where
    pub same_replies : let u = run_after r m before in walk (run_after s o (again u)) (list_after s o (again u)) behind ≡ walk u (list_after r m before) behind
    pub same_run : run_after s o (again (run_after r m before) ++ behind) ≡ run_after r m cs
    pub same_winner : result_def (run_after s o (again (run_after r m before) ++ behind)) ≡ result_def (run_after r m cs)
    pub same_file : j ++ written_along s o (again (run_after r m before) ++ behind) ≡ file

  -- The run s and the list n that are given back for the file cut at a place, with the report q, are those of the uncut
  -- run after as many answers, except that no seed waits. With the rest of the calls they come to the same end.
  pub record GoesBack (at : ℕ) (q : KeptLines) (s : Run) (n : List Float) : Type 0 where
    pub before : List Call
    pub behind : List Call
    pub split : cs ≡ before ++ behind
    pub run_is : s ≡ none_waiting (run_after r m before)
    pub list_is : n ≡ list_after r m before
    pub same_end : run_after s n (again (run_after r m before) ++ behind) ≡ run_after r m cs
    pub same_list : list_after s n (again (run_after r m before) ++ behind) ≡ list_after r m cs
    -- and so they do with every list k that Resume accepts, whatever stands in it; o is the list that Resume leaves
    pub with_any_list : (k : List Float) → NoneHolds (conditions i (length k)) → (o : List Float) × GivesRun i k (take at file) s q o × GoesOnAs (take q.kept (take at file)) s o before behind

  -- what Resume gives back of the file cut after any byte
  pub record CutBack (at : ℕ) : Type 0 where
    pub run : Run
    pub says : KeptLines
    pub list : List Float
    pub gives_run : GivesRun i l (take at file) run says list
    -- and the same run and the same report, whichever list is lent
    pub any_list : WithAnyList i (take at file) run says
    pub lines_are : says.lines ≡ run.place.number
    -- only a part of the line that the cut fell in is lost, and nothing where the cut fell behind a newline
    pub part : List ℕ
    pub cut_is : take at file ≡ take says.kept file ++ part
    pub no_newline : newlines part ≡ 0
    pub after_newline : (s : List ℕ) → take at file ≡ s ++ 10 ∷ [] → part ≡ []
    pub dropped_part : says.dropped ≡ length part
    pub by_nothing : part ≡ [] → says.ended_by ≡ by.WalkEnded AllTaken
    pub by_newline : (part ≡ [] → ⊥) → says.ended_by ≡ by.MissingNewline
    -- and where the cut fell behind the lines that the run was opened with, the run is the one that it was there
    pub goes_back : r.place.number ≤ run.place.number → GoesBack at says run list

  pub record OfRun : Type 0 where
    -- Replay: the file says how the run stands, whichever list k is lent; the list that was lent to the run is left as
    -- the run left it.
    pub stands : (k : List Float) → NoneHolds (conditions i (length k)) → StandsAs (run_after r m cs) (list_after r m cs) (replay_from (start_of i k) (started_list i k) file).reply
    pub same_list : (replay_from (start_of i l) (started_list i l) file).list ≡ list_after r m cs
    -- Resume: the run, except for the waiting seed, and its list come back from the file, whole and cut.
    pub gives_run : GivesRun i l file (none_waiting (run_after r m cs)) (all_kept (run_after r m cs).place.number file) (list_after r m cs)
    pub cut_anywhere : (at : ℕ) → CutBack at

-- ---- all of it
pub record ReplayRight : Type 0 where
  pub replay_is_book : (i : Inputs) (l : List Float) (bs : List ℕ) → ReplayIsBook i l bs
  pub resume_is_book : (i : Inputs) (l : List Float) (bs : List ℕ) → ResumeIsBook i l bs
  pub resumed_run : (i : Inputs) (l : List Float) (bs : List ℕ) → InputsFit i → (r : Run) (q : KeptLines) (m : List Float) → GivesRun i l bs r q m → ResumedRun i l bs r q m
  pub resumed_record : (i : Inputs) (h : History i) → Fitting i h → (l : List Float) → NoneHolds (conditions i (length l)) → ResumedRecord i h l
  pub cut_record : (i : Inputs) (h : History i) (at : ℕ) (l : List Float) → NoneHolds (conditions i (length l)) → CutRecord i h at l
  pub of_run : (i : Inputs) (l : List Float) (r : Run) (m : List Float) (held : List ℕ) → OpenedAs i l r m held → (cs : List Call) → InputsFit i → All CallFits cs → OfRun i l r m held cs
