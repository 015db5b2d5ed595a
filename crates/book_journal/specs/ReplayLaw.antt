-- What holds of the journal of a run and of running a journal again, as types (docs/SPECIFICATION.md, 8.4 to 8.8).
-- Definitions only.
use Rattle.std.specs.Prelude.{ℕ, suc, ◌*◌, ◌≤◌, ◌≡◌, ◌↔◌, ◌⊎◌, false, List, ◌∷◌, ◌++◌, length, take, drop, Float, Ok, Err}
use Rattle.common.specs.declared.Refusal.{Refusal}
use Rattle.common.specs.declared.Refusal.TheVariants as refusal
use Rattle.common.specs.Each.{All}
use Rattle.seeds.specs.Layout.{flat}
use Rattle.score.specs.declared.outcome.Scoring.{Scoring}
use Rattle.score.specs.Facts.{ScoredFacts}
use Rattle.score.specs.declared.best.Candidate.{Candidate}
use Rattle.journal.specs.declared.Line.{Line}
use Rattle.journal.specs.Line.{LineFits}
use Rattle.journal.specs.Reading.{line_number_of, ended, refused, read_journal}
use Rattle.replay.specs.declared.WalkEnd.TheVariants.{AllTaken, NotALine, NotTheRun}
use Rattle.replay.specs.declared.ReplayRefusal.TheVariants.{Refused, At}
use Rattle.replay.specs.Replay.{of_no_line}
use Rattle.book.specs.Book.{Inputs, demand, Entry, Book, entries, number}
use Rattle.book.specs.Conditions.{FirstHolds, NoneHolds, conditions}
use Rattle.book.specs.Theorem.{Wins}
use Rattle.book_journal.specs.Lines.{lines_of, journal_of}
use Rattle.book_journal.specs.Replay.{start_refused, follows, walked, kept_of, standing, replay_of}
use Rattle.book_journal.specs.History.{History, book_at, list_at, at_rest}

-- ---- Start's refusals: replay refuses with the first condition that holds, and with none where none holds
pub record StartRefused (i : Inputs) (n : ℕ) : Type 0 where
  pub refuses : (r : Refusal) → (start_refused i n ≡ Err r) ↔ FirstHolds (conditions i n) r
  pub accepts : (start_refused i n ≡ Ok tt) ↔ NoneHolds (conditions i n)

-- ---- The reader gives back the lines of a run whose numbers are those of binary64.
pub record LinesOfRun (b : Book) : Type 0 where
  pub lines_fit : All LineFits (lines_of b)
  pub read_back : read_journal (journal_of b) ≡ record { lines = lines_of b; ending = ended }

-- ---- A run's own journal, walked from the same inputs, leads to that run again.
pub record RunAgain (i : Inputs) (h : History i) (l : List Float) : Type 0 where
  pub all_lines : (walked i l (journal_of (book_at h))).walk_end ≡ AllTaken
  -- the book is the run's, except that no seed waits; so its list, its entries and its best are the run's
  pub same_book : (walked i l (journal_of (book_at h))).book ≡ at_rest (book_at h)
  -- the reply is the run's winner, that it has none, or Unfinished with the seed that waits or that Next would hand out
  pub same_standing : (replay_of i l (journal_of (book_at h))).reply ≡ of_no_line (standing (book_at h))
  -- the lent list is as the run left it, if the same list was lent
  pub same_buffer : (replay_of i l (journal_of (book_at h))).list ≡ list_at h l

-- ---- The list m beside the book b, where Start was lent l: the book's list stands in front, the length is l's, and
-- the numbers past the demand are l's.
pub record BufferOf (i : Inputs) (l : List Float) (b : Book) (m : List Float) : Type 0 where
  pub is_in_front : take (6 * length b.list) m ≡ flat b.list
  pub same_length : length m ≡ length l
  pub beyond : drop (demand i) m ≡ drop (demand i) l

-- ---- Whatever the bytes: where the reply is a winner, it has all that holds of Result's winner, and is the earliest
-- with the lowest score among the S lines.
pub record Accepted (i : Inputs) (l : List Float) (bs : List ℕ) (n : ℕ) (s : Float) : Type 0 where
  pub best : Candidate
  pub number_is : best.number ≡ n
  pub score_is : best.score ≡ s
  pub wins : Wins i (entries (walked i l bs).book) best
  -- the entries are the journal's lines, and all of it was read
  pub read_through : (read_journal bs).ending ≡ ended
  pub lines_are : lines_of (walked i l bs).book ≡ (read_journal bs).lines
  pub bytes_are : bs ≡ journal_of (walked i l bs).book

-- ---- What holds of an S line as of a scored finding: its camera is valid, and its score is the one that its mean, its
-- camera, the seed and the observed centre give.
abbrev pub ScoredHold : Inputs → Entry → Type 0
ScoredHold i e = (g : Scoring) → e.outcome ≡ Ok g → ScoredFacts e.seed.sensor i.center g

-- ---- The walk agrees with the reader.
pub record SameAsReader (i : Inputs) (l : List Float) (bs : List ℕ) : Type 0 where
  pub taken_is : (walked i l bs).taken ≡ number (walked i l bs).book
  -- `ScoredHold` of every S line that the walk took
  pub scored_hold : All (ScoredHold i) (entries (walked i l bs).book)
  -- all lines are read and entered
  pub all_read : (walked i l bs).walk_end ≡ AllTaken → read_journal bs ≡ record { lines = lines_of (walked i l bs).book; ending = ended }
  -- 29: the lines before are read and entered, and the reader refuses the next one with the same line number
  pub not_read : (walked i l bs).walk_end ≡ NotALine → read_journal bs ≡ record { lines = lines_of (walked i l bs).book; ending = refused (suc (walked i l bs).taken) }
  -- 30: the lines before are read and entered, and the next one is read, but isn't the run's next answer
  pub not_following : (walked i l bs).walk_end ≡ NotTheRun
      → (m : Line) × (ms : List Line) × ((read_journal bs).lines ≡ lines_of (walked i l bs).book ++ m ∷ ms) × (follows (walked i l bs).book m ≡ false)

-- ---- A refused line: 29 only where the reader refuses it, with the reader's line number; 30 where it is read and
-- can't follow the book of the lines before it. The number is the line's, counted from 1.
pub record Declines (i : Inputs) (l : List Float) (bs : List ℕ) : Type 0 where
  pub at_29 : (k : ℕ) → (replay_of i l bs).reply ≡ Err (At refusal.NotALine k) → (read_journal bs).ending ≡ refused k
  pub at_30 : (k : ℕ) → (replay_of i l bs).reply ≡ Err (At refusal.NotTheRun k)
      → (m : Line) × (ms : List Line) × ((read_journal bs).lines ≡ lines_of (walked i l bs).book ++ m ∷ ms) × (follows (walked i l bs).book m ≡ false)
      × (k ≡ suc (length (lines_of (walked i l bs).book)))
  pub no_others : (r : Refusal) (k : ℕ) → (replay_of i l bs).reply ≡ Err (At r k) → (r ≡ refusal.NotALine) ⊎ (r ≡ refusal.NotTheRun)
  -- Any other reply, where Start refuses nothing: every line is read and entered, and the reply is how the book stands.
  pub else_all_read : NoneHolds (conditions i (length l)) → ((r : Refusal) (k : ℕ) → (replay_of i l bs).reply ≡ Err (At r k) → ⊥)
      → (read_journal bs ≡ record { lines = lines_of (walked i l bs).book; ending = ended }) × ((replay_of i l bs).reply ≡ of_no_line (standing (walked i l bs).book))

-- Start's own refusals come before any line, and leave the lent list as it was.
abbrev pub StartRefuses : Inputs → List Float → List ℕ → Type 0
StartRefuses i l bs = (r : Refusal) → FirstHolds (conditions i (length l)) r → replay_of i l bs ≡ record { reply = Err (Refused r); list = l }

-- ---- What the walk keeps of a journal: the longest prefix of the bytes that is walked without 29 and 30. It leads to
-- the same book and the same lent list, so after a refused line the list is that of the lines before it.
module _ (i : Inputs) (l : List Float) (bs : List ℕ) where
  abbrev pub kept_bytes : List ℕ
  kept_bytes = kept_of bs (walked i l bs)

  pub record FrontAlone : Type 0 where
    pub is_front : take (length kept_bytes) bs ≡ kept_bytes
    pub is_walked : (walked i l kept_bytes).walk_end ≡ AllTaken
    pub is_longest : (at : ℕ) → at ≤ length bs → (walked i l (take at bs)).walk_end ≡ AllTaken → at ≤ length kept_bytes
    pub same_book : (walked i l kept_bytes).book ≡ (walked i l bs).book
    pub same_list : (walked i l kept_bytes).list ≡ (walked i l bs).list
    pub same_taken : (walked i l kept_bytes).taken ≡ (walked i l bs).taken
    -- the number that 29 and 30 give is that of the line behind the prefix
    pub next_number : line_number_of bs (length kept_bytes) ≡ suc (walked i l bs).taken
