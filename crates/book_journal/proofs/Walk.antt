-- The walk of a journal's lines, line by line: where it goes on, what it keeps, and that it doesn't depend on the lent
-- list. Assumes nothing.
use Rattle.std.proofs.Common.{ℕ, suc, ◌≡◌, refl, true, false, List, [], ◌∷◌, Float}
use Rattle.common.specs.Tests.{case}
use Rattle.common.specs.Each.{All}
use Rattle.seeds.specs.Layout.{written}
use Rattle.journal.specs.declared.Line.{Line}
use Rattle.journal.specs.Line.{LineFits, Writable}
use Rattle.journal.specs.Reading.{read_journal}
use Rattle.journal.proofs.Fronts.{whole_front}
use Rattle.journal.specs.Outcome.{outcome_in}
use Rattle.replay.specs.declared.WalkEnd.{WalkEnd}
use Rattle.replay.specs.declared.WalkEnd.TheVariants.{NotTheRun}
use Rattle.replay.specs.Walk.{walk_end_at}
use Rattle.book.specs.Book.{Inputs, Book, first_list, opened, book_enter}
use Rattle.book_journal.specs.Replay.{follows, Walked, buffer_after, walk_from, walked}

abbrev pub walk_end : Book → List Float → ℕ → WalkEnd → Walked
walk_end b l n e = record { book = b; list = l; taken = n; walk_end = e }

-- ---- one line
module _ (b : Book) (l : List Float) (n : ℕ) (e : WalkEnd) where
  pub walk_from_no_lines : walk_from b l n [] e ≡ walk_end b l n e
  unfolding walk_from
  walk_from_no_lines = refl

  module _ (m : Line) (ms : List Line) where
    pub walk_from_refused_line : follows b m ≡ false → walk_from b l n (m ∷ ms) e ≡ walk_end b l n NotTheRun
    unfolding walk_from
    walk_from_refused_line f = simp (walk_from, f)

    pub walk_from_taken_line : follows b m ≡ true
        → walk_from b l n (m ∷ ms) e ≡ walk_from (book_enter b (outcome_in m.outcome)) (buffer_after b (book_enter b (outcome_in m.outcome)) l) (suc n) ms e
    unfolding walk_from
    walk_from_taken_line f = simp (walk_from, f)

-- ---- A property of a book and its lent list that each line taken keeps holds where the walk stops.
pub walk_keeps : (P : Book → List Float → Type 0)
    → ((b : Book) (l : List Float) (m : Line) → LineFits m → Writable m → P b l → follows b m ≡ true
    → P (book_enter b (outcome_in m.outcome)) (buffer_after b (book_enter b (outcome_in m.outcome)) l))
    → (b : Book) (l : List Float) (n : ℕ) (ms : List Line) (e : WalkEnd) → All LineFits ms → All Writable ms → P b l → P (walk_from b l n ms e).book (walk_from b l n ms e).list
walk_keeps P f b l n [] e ok can h = rw (walk_from_no_lines b l n e) h
walk_keeps P f b l n (m ∷ ms) e ok can h =
    case (follows b m)
    (λ t.
    let c = book_enter b (outcome_in m.outcome) in
    rw (walk_from_taken_line b l n e m ms t) (walk_keeps P f c (buffer_after b c l) (suc n) ms e ok.1 can.1 (f b l m ok.0 can.0 h t)))
    (λ t. rw (walk_from_refused_line b l n e m ms t) h)

pub walked_keeps : (P : Book → List Float → Type 0)
    → ((b : Book) (l : List Float) (m : Line) → LineFits m → Writable m → P b l → follows b m ≡ true
    → P (book_enter b (outcome_in m.outcome)) (buffer_after b (book_enter b (outcome_in m.outcome)) l))
    → (i : Inputs) (l : List Float) (bs : List ℕ) → P (opened i) (written (first_list i) l) → P (walked i l bs).book (walked i l bs).list
unfolding walked
walked_keeps P f i l bs h =
    let w = whole_front bs in
    walk_keeps P f (opened i) (written (first_list i) l) 0 (read_journal bs).lines (walk_end_at (read_journal bs).ending) w.lines_fit w.can_be_written h

-- ---- the walk doesn't depend on the lent list
abbrev SameWalk : Walked → Walked → Type 0
SameWalk v w = (v.book ≡ w.book) × (v.taken ≡ w.taken) × (v.walk_end ≡ w.walk_end)

walk_ignores_list : (b : Book) (l k : List Float) (n : ℕ) (ms : List Line) (e : WalkEnd) → SameWalk (walk_from b l n ms e) (walk_from b k n ms e)
walk_ignores_list b l k n [] e = rw (walk_from_no_lines b l n e, walk_from_no_lines b k n e) (refl, refl, refl)
walk_ignores_list b l k n (m ∷ ms) e =
    case (follows b m)
    (λ t.
    let c = book_enter b (outcome_in m.outcome) in
    rw (walk_from_taken_line b l n e m ms t, walk_from_taken_line b k n e m ms t) (walk_ignores_list c (buffer_after b c l) (buffer_after b c k) (suc n) ms e))
    (λ t. rw (walk_from_refused_line b l n e m ms t, walk_from_refused_line b k n e m ms t) (refl, refl, refl))

pub walked_ignores_list : (i : Inputs) (l k : List Float) (bs : List ℕ) → ((walked i l bs).book ≡ (walked i k bs).book) × ((walked i l bs).taken ≡ (walked i k bs).taken) × ((walked i l bs).walk_end ≡ (walked i k bs).walk_end)
unfolding walked
walked_ignores_list i l k bs = walk_ignores_list (opened i) (written (first_list i) l) (written (first_list i) k) 0 (read_journal bs).lines (walk_end_at (read_journal bs).ending)
