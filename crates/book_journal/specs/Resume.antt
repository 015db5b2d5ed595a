-- Going on from a journal that ends anywhere (docs/SPECIFICATION.md, 8.9 and 8.10): the kept lines, what ended them,
-- and that the run goes on as if it had not stopped. Definitions only.
use Rattle.std.specs.Prelude.{ℕ, ◌+◌, ◌≤◌, ◌≡◌, false, cond, List, [], ◌∷◌, ◌++◌, length, take, drop, Float, Ok, Err}
use Rattle.common.specs.declared.Refusal.{Refusal}
use Rattle.journal.specs.declared.Line.{Line}
use Rattle.journal.specs.Line.{line_bytes, LineFits, Writable, journal_bytes}
use Rattle.journal.specs.Reading.{newlines}
use Rattle.journal.specs.Theorem.{NoLine}
use Rattle.replay.specs.declared.WalkEnd.TheVariants.{AllTaken, NotALine, NotTheRun}
use Rattle.replay.specs.declared.EndedBy.TheVariants as by
use Rattle.replay.specs.declared.KeptLines.{KeptLines}
use Rattle.replay.specs.Resume.{ended_by_of}
use Rattle.book.specs.Calls.{Call, next}
use Rattle.book.specs.Book.{Inputs, demand, Book, entries, number, opened, replies, after}
use Rattle.book.specs.Conditions.{FirstHolds, NoneHolds, conditions}
use Rattle.book_journal.specs.Lines.{lines_of, journal_of}
use Rattle.book_journal.specs.Replay.{start_refused, follows, Walked, walked, kept_of}
use Rattle.book_journal.specs.History.{from, opened_by, History, book_at, list_at, at_rest, entered_in}
use Rattle.book_journal.specs.ReplayLaw.{BufferOf}

-- ---- the kept lines and what stands behind them
-- all bytes behind those of the kept lines
abbrev pub rest_of : List ℕ → Walked → List ℕ
rest_of bs w = drop (length (kept_of bs w)) bs

-- How many lines and how many bytes are kept, how many bytes are dropped, and what ended the kept lines. Kept and
-- dropped bytes are counted apart, so that their sum says something.
unfoldable pub kept_lines_of : List ℕ → Walked → KeptLines
kept_lines_of bs w = record {
  lines = w.taken;
  kept = length (kept_of bs w);
  dropped = length (rest_of bs w);
  ended_by = ended_by_of w.walk_end (rest_of bs w);
}

-- ---- the reply: the run given back, as its book, with the lent list and a report; or a refusal of Start's, with the
-- lent list as it was
pub data Resumed : Type 0 where
  resumed : Book → List Float → KeptLines → Resumed
  not_resumed : Refusal → List Float → Resumed

unfoldable pub resume_of : Inputs → List Float → List ℕ → Resumed
resume_of i l bs =
    let w = walked i l bs in
    elim (start_refused i (length l)) [ Ok nothing_refused ↦ resumed w.book w.list (kept_lines_of bs w) | Err refusal ↦ not_resumed refusal l ]

-- Start's refusals come first, and leave the lent list as it was; there is no other refusal
abbrev pub ResumeRefuses : Inputs → List Float → List ℕ → Type 0
ResumeRefuses i l bs = (r : Refusal) → FirstHolds (conditions i (length l)) r → resume_of i l bs ≡ not_resumed r l

abbrev pub ResumeAccepts : Inputs → List Float → List ℕ → Type 0
ResumeAccepts i l bs = NoneHolds (conditions i (length l)) → resume_of i l bs ≡ resumed (walked i l bs).book (walked i l bs).list (kept_lines_of bs (walked i l bs))

-- ---- what holds of the book b, the lent list m and the report r that are given back for the bytes bs
pub record GivesBack (i : Inputs) (l : List Float) (bs : List ℕ) (b : Book) (m : List Float) (r : KeptLines) : Type 0 where
  -- no seed waits, and the run's list stands in front of m
  pub none_waits : b.waits ≡ false
  pub buffer : BufferOf i l b m
  -- the kept bytes are the run's journal, and no longer prefix is walked without 29 and 30
  pub lines_are : r.lines ≡ number b
  pub kept_journal : take r.kept bs ≡ journal_of b
  pub is_longest : (at : ℕ) → at ≤ length bs → (walked i l (take at bs)).walk_end ≡ AllTaken → at ≤ r.kept
  -- kept and dropped bytes are all of them
  pub adds_up : r.kept + r.dropped ≡ length bs
  -- what stands behind the kept bytes, by what ended them: nothing; bytes without a newline; bytes with a newline that
  -- don't begin with a line; a line that isn't the run's next answer
  pub nothing_left : r.ended_by ≡ by.WalkEnded AllTaken → drop r.kept bs ≡ []
  pub newline_missing : r.ended_by ≡ by.MissingNewline → (drop r.kept bs ≡ [] → ⊥) × (newlines (drop r.kept bs) ≡ 0)
  pub not_a_line : r.ended_by ≡ by.WalkEnded NotALine → (1 ≤ newlines (drop r.kept bs)) × NoLine (drop r.kept bs)
  pub not_the_run : r.ended_by ≡ by.WalkEnded NotTheRun → (n : Line) × (tail : List ℕ) × LineFits n × Writable n × (drop r.kept bs ≡ line_bytes n ++ tail) × (follows b n ≡ false)

-- ---- A run's journal that is cut after any byte: the whole lines before the cut are kept, and nothing else.
module _ (i : Inputs) (h : History i) (at : ℕ) where
  abbrev pub cut_journal : List ℕ
  cut_journal = take at (journal_of (book_at h))

  abbrev pub cut_kept_lines : List Float → KeptLines
  cut_kept_lines l = kept_lines_of cut_journal (walked i l cut_journal)

  pub record CutAt (l : List Float) : Type 0 where
    -- how many whole lines stand before the cut, and the part of a line that the cut leaves
    pub lines : ℕ
    pub part : List ℕ
    pub cut_is : cut_journal ≡ journal_bytes (take lines (lines_of (book_at h))) ++ part
    pub no_newline : newlines part ≡ 0
    pub after_newline : (s : List ℕ) → cut_journal ≡ s ++ 10 ∷ [] → part ≡ []
    -- the whole lines are kept, and the part alone is dropped
    pub kept_lines : (cut_kept_lines l).lines ≡ lines
    pub kept_bytes_lem : (cut_kept_lines l).kept ≡ length (journal_bytes (take lines (lines_of (book_at h))))
    pub dropped_part : (cut_kept_lines l).dropped ≡ length part
    pub by_nothing : part ≡ [] → (cut_kept_lines l).ended_by ≡ by.WalkEnded AllTaken
    pub by_newline : (part ≡ [] → ⊥) → (cut_kept_lines l).ended_by ≡ by.MissingNewline
    -- the book is that of as many answers as there are whole lines
    pub book_is : (walked i l cut_journal).book ≡ entered_in (opened i) (take lines (entries (book_at h)))

  -- ---- A run that goes on from a cut journal, with the calls that followed there, is the run that was cut.
  -- the book that Resume gives back
  abbrev pub cut_run : Book
  cut_run = opened_by i (from cut_journal)

  -- Next, if a seed waited, so that it is handed out again
  abbrev pub again : Book → List Call
  again b = cond b.waits (next (demand b.inputs) ∷ []) []

  -- `before` are the calls of the uncut run up to where it had as many answers as are kept, `behind` the calls after
  -- them
  module _ (before behind : List Call) where
    abbrev pub uncut : Book
    uncut = after (opened_by i h.opening) before

    abbrev pub going_on : History i
    going_on = record { room = h.room; accepted = h.accepted; opening = from cut_journal; calls = again uncut ++ behind }

    pub record GoesOn : Type 0 where
      -- the resumed run is where the uncut one was, except that no seed waits
      pub stands_there : cut_run ≡ at_rest uncut
      -- from there on every list of calls gets the same replies
      pub same_replies : (cs : List Call) → replies (after cut_run (again uncut)) cs ≡ replies uncut cs
      -- and the rest of the calls leads to the same end, and to the same lent list where the same one was lent
      pub same_end : book_at going_on ≡ book_at h
      pub same_buffer : (l : List Float) → list_at going_on l ≡ list_at h l

  -- where the cut fell behind the lines that the opening kept, the calls can be split in this way
  pub record GoesOnSomewhere : Type 0 where
    pub before : List Call
    pub behind : List Call
    pub split : h.calls ≡ before ++ behind
    pub goes_on : GoesOn before behind

  -- wherever the cut fell: the lost answers, entered again, lead to the same book
  abbrev pub EntersOn : Type 0
  EntersOn = entered_in cut_run (drop (number cut_run) (entries (book_at h))) ≡ at_rest (book_at h)

-- the lines since the opening stand behind those that it kept
abbrev pub JournalGrows : {i : Inputs} → History i → Type 0
JournalGrows {i} h = journal_of (book_at h) ≡ journal_of (opened_by i h.opening) ++ journal_bytes (drop (number (opened_by i h.opening)) (lines_of (book_at h)))
