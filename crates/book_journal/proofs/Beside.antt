-- The walk agrees with the reader: all lines are read; or the reader refuses the next one with the same line number; or
-- the next one is read, but isn't the run's next answer. Assumes nothing.
use Rattle.std.proofs.Common.{ℕ, suc, arith, ◌≡◌, refl, sym, ap, ◌∙◌, ◌⊎◌, inl, inr, ⊎_elim, true, false, List, [], ◌∷◌, ◌++◌, map, append_assoc, append-nil, length, length-append, Float}
use mathlib.Core.List.{map-append}
use lib.ListN.{length-map}
use Rattle.common.specs.Tests.{case}
use Rattle.common.specs.All.{all_map}
use Rattle.common.specs.Each.{All}
use Rattle.seeds.specs.Layout.{written}
use Rattle.score.specs.Reasons.{Outcome}
use Rattle.journal.specs.declared.Line.{Line}
use Rattle.journal.specs.Line.{LineFits, Writable}
use Rattle.journal.specs.Reading.{Ending, ended, refused, unread, Lines, read_journal}
use Rattle.journal.proofs.Numbers.{whole_numbered}
use Rattle.journal.proofs.Whole.{whole_stops}
use Rattle.journal.proofs.Fronts.{whole_front}
use Rattle.journal.specs.Outcome.{outcome_in}
use Rattle.replay.specs.declared.WalkEnd.{WalkEnd}
use Rattle.replay.specs.declared.WalkEnd.TheVariants.{AllTaken, NotALine, NotTheRun}
use Rattle.replay.specs.Walk.{walk_end_at}
use Rattle.book.specs.Book.{Inputs, Entry, Book, entries, number, first_list, opened, book_enter, line_of}
use Rattle.book.specs.Conditions.{NoneHolds, conditions}
use Rattle.book.proofs.Moves.{entry, enter_adds_entry as enter-place}
use Rattle.book.proofs.Good.{Proper, Good}
use Rattle.book_journal.specs.Lines.{lines_of}
use Rattle.book_journal.specs.Replay.{follows, Walked, buffer_after, walk_from, walked}
use Rattle.book_journal.specs.History.{InputsFit}
use Rattle.book_journal.specs.ReplayLaw.{ScoredHold, SameAsReader}
use Rattle.book_journal.proofs.Standing.{following_line_is_of_entry}
use Rattle.book_journal.proofs.Walk.{walk_from_no_lines, walk_from_taken_line, walk_from_refused_line}
use Rattle.book_journal.proofs.Kept.{GoodTrail, opened_book_has_trail, taken_line_keeps_trail, walked_book_has_trail}
use Rattle.book_journal.proofs.Held.{BookFits, current_fits, opened_book_fits, taken_line_keeps_book_fits}

-- ---- one more line
pub enter_adds_one_to_number : (b : Book) (o : Outcome) → number (book_enter b o) ≡ suc (number b)
enter_adds_one_to_number b o = ap length (enter-place b o).0 ∙ length-append (entries b) (entry b o ∷ []) ∙ omega arith

taken_line_added : (i : Inputs) (b : Book) (m : Line) → GoodTrail i b → BookFits b → LineFits m → Writable m → follows b m ≡ true → lines_of (book_enter b (outcome_in m.outcome)) ≡ lines_of b ++ m ∷ []
taken_line_added i b m k h ok can t =
    let o = outcome_in m.outcome in
    let f = following_line_is_of_entry b m ok can t in
    ap (map line_of) (enter-place b o).0 ∙ map-append line_of (entries b) (entry b o ∷ [])
    ∙ ap (λ (x : Line). lines_of b ++ x ∷ []) (f.line_is (current_fits i b k.good f.going h))

-- ---- a walk from a book b over the lines ms: all of them are entered, or one can't follow
abbrev AllEntered : Book → List Line → WalkEnd → Walked → Type 0
AllEntered b ms x w = (w.walk_end ≡ x) × (lines_of w.book ≡ lines_of b ++ ms)

abbrev OneStops : Book → List Line → Walked → Type 0
OneStops b ms w = (w.walk_end ≡ NotTheRun) × (m : Line) × (ks : List Line) × (lines_of b ++ ms ≡ lines_of w.book ++ m ∷ ks) × (follows w.book m ≡ false)

record Along (b : Book) (ms : List Line) (x : WalkEnd) (w : Walked) : Type 0 where
  taken_is : w.taken ≡ number w.book
  ends : AllEntered b ms x w ⊎ OneStops b ms w

along_cons : (b d : Book) (m : Line) (ms : List Line) (x : WalkEnd) (w : Walked) → lines_of d ≡ lines_of b ++ m ∷ [] → Along d ms x w → Along b (m ∷ ms) x w
along_cons b d m ms x w q a =
    let same : lines_of d ++ ms ≡ lines_of b ++ m ∷ ms = ap (λ (z : List Line). z ++ ms) q ∙ append_assoc (lines_of b) (m ∷ []) ms in
    record { taken_is = a.taken_is; ends = ⊎_elim (λ p. inl (p.0, p.1 ∙ same)) (λ p. inr (p.0, p.1, p.2, sym same ∙ p.3, p.4)) a.ends }

walk_along_lines : (i : Inputs) (b : Book) (l : List Float) (n : ℕ) (ms : List Line) (x : WalkEnd) → GoodTrail i b → BookFits b → All LineFits ms → All Writable ms → n ≡ number b → Along b ms x (walk_from b l n ms x)
walk_along_lines i b l n [] x k h ok can q = rw (walk_from_no_lines b l n x) (record { taken_is = q; ends = inl (refl, sym (append-nil (lines_of b))) })
walk_along_lines i b l n (m ∷ ms) x k h ok can q =
    case (follows b m)
    (λ t.
    let d = book_enter b (outcome_in m.outcome) in
    rw (walk_from_taken_line b l n x m ms t)
    (along_cons b d m ms x (walk_from d (buffer_after b d l) (suc n) ms x) (taken_line_added i b m k h ok.0 can.0 t)
    (walk_along_lines i d (buffer_after b d l) (suc n) ms x (taken_line_keeps_trail i b m ok.0 can.0 k t) (taken_line_keeps_book_fits b m ok.0 h) ok.1 can.1 (ap suc q ∙ sym (enter_adds_one_to_number b (outcome_in m.outcome))))))
    (λ t. rw (walk_from_refused_line b l n x m ms t) (record { taken_is = q; ends = inr (refl, m, ms, refl, t) }))

-- ---- how the reader ended
pub all_taken_ended : (x : Ending) → walk_end_at x ≡ AllTaken → x ≡ ended
all_taken_ended ended e = refl
all_taken_ended (refused k) e = let z : ◌≡◌ {A = ℕ} 0 1 = cc in absurd (omega arith)
all_taken_ended unread e = let z : ◌≡◌ {A = ℕ} 0 1 = cc in absurd (omega arith)

not_of_form_refused : (x : Ending) → (x ≡ unread → ⊥) → walk_end_at x ≡ NotALine → (k : ℕ) × (x ≡ refused k)
not_of_form_refused ended n e = let z : ◌≡◌ {A = ℕ} 0 1 = cc in absurd (omega arith)
not_of_form_refused (refused k) n e = (k, refl)
not_of_form_refused unread n e = absurd (n refl)

reader_never_not_the_run : (x : Ending) → walk_end_at x ≡ NotTheRun → ⊥
reader_never_not_the_run ended e = let z : ◌≡◌ {A = ℕ} 0 1 = cc in omega arith
reader_never_not_the_run (refused k) e = let z : ◌≡◌ {A = ℕ} 0 1 = cc in omega arith
reader_never_not_the_run unread e = let z : ◌≡◌ {A = ℕ} 0 1 = cc in omega arith

pub not_the_run_ne_all_taken : NotTheRun ≡ AllTaken → ⊥
not_the_run_ne_all_taken e = let z : ◌≡◌ {A = ℕ} 0 1 = cc in omega arith

not_the_run_ne_not_of_form : NotTheRun ≡ NotALine → ⊥
not_the_run_ne_not_of_form e = let z : ◌≡◌ {A = ℕ} 0 1 = cc in omega arith

-- ---- a scored entry has what holds of a scored finding
scored_entry_holds : (i : Inputs) (e : Entry) → Proper i e → ScoredHold i e
scored_entry_holds i e p g q = rw q at p.stands

scored_entries_hold : (i : Inputs) (b : Book) → Good i b → All (ScoredHold i) (entries b)
scored_entries_hold i b g = all_map (Proper i) (ScoredHold i) (scored_entry_holds i) (entries b) (rw g.inputs_are at g.core.proper)

-- ---- of a whole journal
reading_of_parts : (r : Lines) (ls : List Line) (x : Ending) → r.ending ≡ x → ls ≡ r.lines → r ≡ record { lines = ls; ending = x }
reading_of_parts r ls x e q = rw (q, ← e)

pub same_as_reader : (i : Inputs) (n : ℕ) → NoneHolds (conditions i n) → InputsFit i → (l : List Float) (bs : List ℕ) → SameAsReader i l bs
unfolding opened
same_as_reader i n a f l bs =
    let r = read_journal bs in
    let w = walked i l bs in
    let s = starts in
    let all : (x : WalkEnd) → w.walk_end ≡ x → (x ≡ NotTheRun → ⊥) → (walk_end_at r.ending ≡ x) × (lines_of w.book ≡ r.lines) =
    λ x e other. ⊎_elim (λ p. (sym p.0 ∙ e, p.1)) (λ p. absurd (other (sym e ∙ p.0))) s.ends in
    record {
      taken_is = s.taken_is;
      scored_hold = scored_entries_hold i w.book (walked_book_has_trail i n a l bs).good;
      all_read = λ e. let p = all AllTaken e (λ z. not_the_run_ne_all_taken (sym z)) in reading_of_parts r (lines_of w.book) ended (all_taken_ended r.ending p.0) p.1;
      not_read = λ e.
          let p = all NotALine e (λ z. not_the_run_ne_not_of_form (sym z)) in
          let k = not_of_form_refused r.ending (whole_stops bs) p.0 in
          let m = whole_numbered bs k.0 k.1 in
          let c : length r.lines ≡ w.taken = sym (ap length p.1) ∙ length-map (entries w.book) line_of ∙ sym s.taken_is in
          reading_of_parts r (lines_of w.book) (refused (suc w.taken)) (k.1 ∙ ap refused (m ∙ ap suc c)) p.1;
      not_following = λ e. ⊎_elim (λ p. absurd (reader_never_not_the_run r.ending (sym p.0 ∙ e))) (λ p. (p.1, p.2, p.3, p.4)) s.ends;
    }
  where
    starts : Along (opened i) (read_journal bs).lines (walk_end_at (read_journal bs).ending) (walked i l bs)
    starts = unfold walked opened in
        let c = whole_front bs in
        walk_along_lines i (opened i) (written (first_list i) l) 0 (read_journal bs).lines (walk_end_at (read_journal bs).ending) (opened_book_has_trail i n a) (opened_book_fits i f) c.lines_fit c.can_be_written refl
