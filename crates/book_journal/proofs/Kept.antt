-- The invariant of every run's book, however the run was opened and whatever the calls: the invariant `Good`, and that
-- the book's entries, entered one after the other in the book that Start opens, lead to it, each as it could be entered
-- there. It doesn't need the numbers to be those of binary64. Assumes nothing.
use Rattle.std.proofs.Common.{ℕ, ◌≡◌, refl, sym, ap, ◌∙◌, Bool, true, false, List, [], ◌∷◌, ◌++◌, append_assoc, append-nil, Float}
use Rattle.score.specs.Reasons.{Outcome}
use Rattle.journal.specs.declared.Line.{Line}
use Rattle.journal.specs.Line.{LineFits, Writable}
use Rattle.journal.specs.Outcome.{outcome_in}
use Rattle.book.specs.Calls.{Call}
use Rattle.book.specs.Book.{Inputs, Entry, Book, entries, current, opened, with_waiting, with_entry, book_enter, book_call, after}
use Rattle.book.specs.Conditions.{NoneHolds, conditions}
use Rattle.book.proofs.Moves.{entry, Stands, enter_adds_entry, waiting_keeps_entries, entered_by, call_adds_entries, Steps, calls_keep}
use Rattle.book.proofs.Good.{Good, calls_keep_good, book_not_over_where_seed_waits}
use Rattle.book_journal.specs.Replay.{follows, walked}
use Rattle.book_journal.specs.History.{Opening, fresh, from, opened_by, History, book_at, at_rest, entered_in}
use Rattle.book_journal.proofs.Opening.{opened_book_good}
use Rattle.book_journal.proofs.Standing.{following_line_is_of_entry}
use Rattle.book_journal.proofs.Walk.{walked_keeps}

-- ---- entries that lead from one book to another
abbrev pub Trail : Book → List Entry → Book → Type 0
Trail b [] c = b ≡ c
Trail b (e ∷ es) c = (b.over ≡ false) × (e ≡ entry b e.outcome) × Stands b.inputs (current b).sensor e.outcome × Trail (book_enter b e.outcome) es c

trail_snoc : (b c : Book) (es : List Entry) (o : Outcome) → Trail b es c → c.over ≡ false → Stands c.inputs (current c).sensor o → Trail b (es ++ entry c o ∷ []) (book_enter c o)
trail_snoc b c [] o t g s = rw t (g, refl, s, refl)
trail_snoc b c (e ∷ es) o t g s = (t.0, t.1, t.2, trail_snoc (book_enter b e.outcome) c es o t.3 g s)

pub trail_entered : (b c : Book) (es : List Entry) → Trail b es c → entered_in b es ≡ c
unfolding entered_in
trail_entered b c [] t = t
trail_entered b c (e ∷ es) t = trail_entered (book_enter b e.outcome) c es t.3

-- ---- the invariant
pub record GoodTrail (i : Inputs) (b : Book) : Type 0 where
  pub good : Good i b
  pub trail : Trail (opened i) (entries b) (at_rest b)

-- ---- a book with no seed waiting
pub at_rest_where_none_waits : (b : Book) → b.waits ≡ false → at_rest b ≡ b
unfolding at_rest
at_rest_where_none_waits b w = ap (λ (x : Bool). record { inputs = b.inputs; round = b.round; list = b.list; earlier = b.earlier; answered = b.answered; waits = x; over = b.over }) (sym w)

pub enter_at_rest : (b : Book) (o : Outcome) → book_enter (at_rest b) o ≡ book_enter b o
unfolding book_enter with_entry at_rest
enter_at_rest b o = refl

at_rest_after_waiting : (b : Book) → at_rest (with_waiting b) ≡ at_rest b
unfolding at_rest with_waiting
at_rest_after_waiting b = refl

-- ---- it holds at the start, and stays
pub opened_book_has_trail : (i : Inputs) (n : ℕ) → NoneHolds (conditions i n) → GoodTrail i (opened i)
opened_book_has_trail i n h = record { good = opened_book_good i n h; trail = at_start i }
  where
    at_start : (i : Inputs) → Trail (opened i) (entries (opened i)) (at_rest (opened i))
    at_start i = unfold opened at_rest in refl

waiting_keeps_trail : (i : Inputs) (b : Book) → b.over ≡ false → GoodTrail i b → GoodTrail i (with_waiting b)
waiting_keeps_trail i b g h = record { good = (calls_keep_good i).awaits b g h.good; trail = rw ((waiting_keeps_entries b).0, at_rest_after_waiting b) h.trail }

pub enter_keeps_trail : (i : Inputs) (b : Book) (o : Outcome) → b.over ≡ false → Stands b.inputs (current b).sensor o → GoodTrail i b → GoodTrail i (book_enter b o)
enter_keeps_trail i b o g s h = record {
  good = (calls_keep_good i).enters_by b o g s h.good;
  trail = rw ((enter_adds_entry b o).0, at_rest_where_none_waits (book_enter b o) (enter_adds_entry b o).1, ← enter_at_rest b o) (more b h.trail g s);
}
  where
    more : (b : Book) → Trail (opened i) (entries b) (at_rest b) → b.over ≡ false → Stands b.inputs (current b).sensor o → Trail (opened i) (entries b ++ entry b o ∷ []) (book_enter (at_rest b) o)
    more b t g s = unfold at_rest in trail_snoc (opened i) (at_rest b) (entries b) o t g s

pub calls_keep_trail : (i : Inputs) → Steps (GoodTrail i)
calls_keep_trail i = record { calm = λ b h. book_not_over_where_seed_waits i b h.good; awaits = waiting_keeps_trail i; enters_by = enter_keeps_trail i }

pub taken_line_keeps_trail : (i : Inputs) (b : Book) (m : Line) → LineFits m → Writable m → GoodTrail i b → follows b m ≡ true → GoodTrail i (book_enter b (outcome_in m.outcome))
taken_line_keeps_trail i b m ok can h t = let f = following_line_is_of_entry b m ok can t in enter_keeps_trail i b (outcome_in m.outcome) f.going f.stands h

pub walked_book_has_trail : (i : Inputs) (n : ℕ) → NoneHolds (conditions i n) → (l : List Float) (bs : List ℕ) → GoodTrail i (walked i l bs).book
walked_book_has_trail i n h l bs = walked_keeps (λ b k. GoodTrail i b) (λ b k. taken_line_keeps_trail i b) i l bs (opened_book_has_trail i n h)

-- ---- a history's
pub opening_book_has_trail : (i : Inputs) (n : ℕ) (o : Opening) → NoneHolds (conditions i n) → GoodTrail i (opened_by i o)
opening_book_has_trail i n fresh h = opened_book_has_trail i n h
opening_book_has_trail i n (from bs) h = walked_book_has_trail i n h [] bs

pub history_book_has_trail : (i : Inputs) (h : History i) → GoodTrail i (book_at h)
history_book_has_trail i h = calls_keep (calls_keep_trail i) (opened_by i h.opening) h.calls (opening_book_has_trail i h.room h.opening h.accepted)

-- ---- calls add entries behind the others
pub calls_add_entries : (b : Book) (cs : List Call) → (es : List Entry) × (entries (after b cs) ≡ entries b ++ es)
unfolding after
calls_add_entries b [] = ([], sym (append-nil (entries b)))
calls_add_entries b (c ∷ cs) =
    let y = calls_add_entries (book_call b c).book cs in
    (entered_by b c ++ y.0, y.1 ∙ ap (λ (z : List Entry). z ++ y.0) (call_adds_entries b c) ∙ append_assoc (entries b) (entered_by b c) y.0)
