-- What the walk keeps of a journal leads, walked alone, to the same book and the same lent list, and is the longest
-- such prefix. Assumes nothing.
use Rattle.std.proofs.Common.{ℕ, zero, suc, ◌+◌, ◌≤◌, arith, ◌≡◌, sym, ap, ◌∙◌, true, false, List, [], ◌∷◌, ◌++◌, append_assoc, length, take, drop, length-append, length-take, take-append-drop, Float}
use lib.Seq.{take-append_seam}
use Rattle.common.specs.Tests.{case}
use Rattle.common.specs.Each.{All}
use Rattle.seeds.specs.Layout.{written}
use Rattle.journal.specs.declared.Line.{Line}
use Rattle.journal.specs.Line.{line_bytes, journal_bytes}
use Rattle.journal.specs.Reading.{line_number_of, ended, read_journal}
use Rattle.journal.proofs.Whole.{written_journal_is_read, lines_read_to_the_end_were_written}
use Rattle.journal.proofs.Fronts.{whole_front, front_read_first, journal_bytes_append}
use Rattle.journal.proofs.Numbers.{line_number_behind_lines}
use Rattle.journal.specs.Outcome.{outcome_in}
use Rattle.replay.specs.declared.WalkEnd.{WalkEnd}
use Rattle.replay.specs.declared.WalkEnd.TheVariants.{AllTaken}
use Rattle.replay.specs.Walk.{walk_end_at}
use Rattle.book.specs.Book.{Inputs, Book, first_list, opened, book_enter}
use Rattle.book_journal.specs.Replay.{follows, Walked, buffer_after, walk_from, walked}
use Rattle.book_journal.specs.ReplayLaw.{kept_bytes, FrontAlone}
use Rattle.book_journal.proofs.Walk.{walk_end, walk_from_no_lines, walk_from_taken_line, walk_from_refused_line}
use Rattle.book_journal.proofs.Beside.{all_taken_ended, not_the_run_ne_all_taken}

abbrev with_all_taken : Walked → Walked
with_all_taken w = walk_end w.book w.list w.taken AllTaken

-- ---- of a walk
record LongestFront (b : Book) (l : List Float) (n : ℕ) (ms : List Line) (x : WalkEnd) : Type 0 where
  count : ℕ
  few : count ≤ length ms
  taken_is : (walk_from b l n ms x).taken ≡ n + count
  alone : walk_from b l n (take count ms) AllTaken ≡ with_all_taken (walk_from b l n ms x)
  longest : (k : ℕ) → k ≤ length ms → (walk_from b l n (take k ms) AllTaken).walk_end ≡ AllTaken → k ≤ count
  -- a walk that takes all its lines stops for the reason that it is given
  taken_all : (walk_from b l n ms x).walk_end ≡ AllTaken → x ≡ AllTaken

longest_front_of_none : (b : Book) (l : List Float) (n : ℕ) (x : WalkEnd) → LongestFront b l n [] x
longest_front_of_none b l n x =
    let e = walk_from_no_lines b l n x in
    record {
      count = 0;
      few = omega arith;
      taken_is = ap (λ (w : Walked). w.taken) e ∙ omega arith;
      alone = walk_from_no_lines b l n AllTaken ∙ ap with_all_taken (sym e);
      longest = λ k h q. omega arith;
      taken_all = λ h. sym (ap (λ (w : Walked). w.walk_end) e) ∙ h;
    }

longest_front_at_stop : (b : Book) (l : List Float) (n : ℕ) (m : Line) (ms : List Line) (x : WalkEnd) → follows b m ≡ false → LongestFront b l n (m ∷ ms) x
longest_front_at_stop b l n m ms x f =
    let e = walk_from_refused_line b l n x m ms f in
    record {
      count = 0;
      few = omega arith;
      taken_is = ap (λ (w : Walked). w.taken) e ∙ omega arith;
      alone = walk_from_no_lines b l n AllTaken ∙ ap with_all_taken (sym e);
      longest = none_longer;
      taken_all = λ h. absurd (not_the_run_ne_all_taken (sym (ap (λ (w : Walked). w.walk_end) e) ∙ h));
    }
  where
    none_longer : (k : ℕ) → k ≤ length (m ∷ ms) → (walk_from b l n (take k (m ∷ ms)) AllTaken).walk_end ≡ AllTaken → k ≤ 0
    none_longer zero h q = omega arith
    none_longer (suc k) h q = absurd (not_the_run_ne_all_taken (sym (ap (λ (w : Walked). w.walk_end) (walk_from_refused_line b l n AllTaken m (take k ms) f)) ∙ q))

longest_front_cons : (b : Book) (l : List Float) (n : ℕ) (m : Line) (ms : List Line) (x : WalkEnd) → follows b m ≡ true
    → LongestFront (book_enter b (outcome_in m.outcome)) (buffer_after b (book_enter b (outcome_in m.outcome)) l) (suc n) ms x → LongestFront b l n (m ∷ ms) x
longest_front_cons b l n m ms x t f =
    let e = walk_from_taken_line b l n x m ms t in
    record {
      count = suc f.count;
      few = let k = f.few in omega arith;
      taken_is = ap (λ (w : Walked). w.taken) e ∙ f.taken_is ∙ omega arith;
      alone = walk_from_taken_line b l n AllTaken m (take f.count ms) t ∙ f.alone ∙ ap with_all_taken (sym e);
      longest = none_longer;
      taken_all = λ h. f.taken_all (sym (ap (λ (w : Walked). w.walk_end) e) ∙ h);
    }
  where
    none_longer : (k : ℕ) → k ≤ length (m ∷ ms) → (walk_from b l n (take k (m ∷ ms)) AllTaken).walk_end ≡ AllTaken → k ≤ suc f.count
    none_longer zero h q = omega arith
    none_longer (suc k) h q = let g = f.longest k (omega arith) (sym (ap (λ (w : Walked). w.walk_end) (walk_from_taken_line b l n AllTaken m (take k ms) t)) ∙ q) in omega arith

walk_has_longest_front : (b : Book) (l : List Float) (n : ℕ) (ms : List Line) (x : WalkEnd) → LongestFront b l n ms x
walk_has_longest_front b l n [] x = longest_front_of_none b l n x
walk_has_longest_front b l n (m ∷ ms) x =
    case (follows b m)
    (λ t. longest_front_cons b l n m ms x t (walk_has_longest_front (book_enter b (outcome_in m.outcome)) (buffer_after b (book_enter b (outcome_in m.outcome)) l) (suc n) ms x))
    (λ t. longest_front_at_stop b l n m ms x t)

-- ---- lists of lines and their bytes
pub all_of_take : {A : Type 0} (P : A → Type 0) (n : ℕ) (xs : List A) → All P xs → All P (take n xs)
all_of_take P zero xs h = tt
all_of_take P (suc n) [] h = tt
all_of_take P (suc n) (x ∷ xs) h = (h.0, all_of_take P n xs h.1)

taken_bytes_length_le : (k n : ℕ) (ls : List Line) → k ≤ n → length (journal_bytes (take k ls)) ≤ length (journal_bytes (take n ls))
unfolding journal_bytes
taken_bytes_length_le zero n ls h = omega arith
taken_bytes_length_le (suc k) zero ls h = absurd (omega arith)
taken_bytes_length_le (suc k) (suc n) [] h = omega arith
taken_bytes_length_le (suc k) (suc n) (l ∷ ls) h = omega (arith, length-append (line_bytes l) (journal_bytes (take k ls)), length-append (line_bytes l) (journal_bytes (take n ls)), taken_bytes_length_le k n ls (omega arith))

-- ---- of a journal
-- the bytes of the first n lines, and all that follows them
pub bytes_begin_with_lines : (bs : List ℕ) (n : ℕ) → (rest : List ℕ) × (bs ≡ journal_bytes (take n (read_journal bs).lines) ++ rest)
bytes_begin_with_lines bs n =
    let w = whole_front bs in
    let ls = (read_journal bs).lines in
    let e : journal_bytes ls ≡ journal_bytes (take n ls) ++ journal_bytes (drop n ls) = ap journal_bytes (sym (take-append-drop n ls)) ∙ journal_bytes_append (take n ls) (drop n ls) in
    (journal_bytes (drop n ls) ++ w.rest, w.bytes_are ∙ ap (λ (z : List ℕ). z ++ w.rest) e ∙ append_assoc (journal_bytes (take n ls)) (journal_bytes (drop n ls)) w.rest)

pub front_reads_its_lines : (bs : List ℕ) (n : ℕ) → read_journal (journal_bytes (take n (read_journal bs).lines)) ≡ record { lines = take n (read_journal bs).lines; ending = ended }
front_reads_its_lines bs n =
    let w = whole_front bs in
    let ls = (read_journal bs).lines in
    written_journal_is_read (take n ls) (all_of_take _ n ls w.lines_fit) (all_of_take _ n ls w.can_be_written)

-- the lines that are read of a prefix are the first ones that are read of the whole
front_lines_read_first : (bs : List ℕ) (at : ℕ) → (read_journal (take at bs)).ending ≡ ended
    → (take at bs ≡ journal_bytes (read_journal (take at bs)).lines) × (take (length (read_journal (take at bs)).lines) (read_journal bs).lines ≡ (read_journal (take at bs)).lines)
front_lines_read_first bs at e =
    let w = lines_read_to_the_end_were_written (take at bs) e in
    let ls = (read_journal (take at bs)).lines in
    let b : journal_bytes ls ++ drop at bs ≡ bs = ap (λ (z : List ℕ). z ++ drop at bs) (sym w.bytes_are) ∙ take-append-drop at bs in
    let f = front_read_first ls (drop at bs) w.lines_fit w.can_be_written in
    (w.bytes_are, ap (λ (z : List ℕ). take (length ls) (read_journal z).lines) (sym b) ∙ ap (take (length ls)) f.lines_are ∙ take-append_seam ls f.more)

pub front_alone : (i : Inputs) (l : List Float) (bs : List ℕ) → FrontAlone i l bs
unfolding walked
front_alone i l bs =
    let o = opened i in
    let m = written (first_list i) l in
    let ls = (read_journal bs).lines in
    let x = walk_end_at (read_journal bs).ending in
    let n = (walked i l bs).taken in
    let f = walk_has_longest_front o m 0 ls x in
    let t : f.count ≡ n = let h = f.taken_is in omega arith in
    let kept = journal_bytes (take n ls) in
    let e : walked i l kept ≡ with_all_taken (walked i l bs) = rw (front_reads_its_lines bs n) (rw t at f.alone) in
    let g = bytes_begin_with_lines bs n in
    record {
      is_front = ap (take (length kept)) g.1 ∙ take-append_seam kept g.0;
      is_walked = ap (λ (w : Walked). w.walk_end) e;
      is_longest = longer;
      same_book = ap (λ (w : Walked). w.book) e;
      same_list = ap (λ (w : Walked). w.list) e;
      same_taken = ap (λ (w : Walked). w.taken) e;
      next_number = ap (λ (z : List ℕ). line_number_of z (length kept)) g.1 ∙ line_number_behind_lines (take n ls) g.0 ∙ ap suc (taken_length f.few t);
    }
  where
    taken_length : {c : ℕ} → c ≤ length (read_journal bs).lines → c ≡ (walked i l bs).taken → length (take (walked i l bs).taken (read_journal bs).lines) ≡ (walked i l bs).taken
    taken_length h e = omega (arith, length-take (walked i l bs).taken (read_journal bs).lines)

    longer : (at : ℕ) → at ≤ length bs → (walked i l (take at bs)).walk_end ≡ AllTaken → at ≤ length (kept_bytes i l bs)
    longer at h q = unfold walked in
        let o = opened i in
        let m = written (first_list i) l in
        let r = read_journal (take at bs) in
        let ls = (read_journal bs).lines in
        let ends = all_taken_ended r.ending ((walk_has_longest_front o m 0 r.lines (walk_end_at r.ending)).taken_all q) in
        let p = front_lines_read_first bs at ends in
        let k = length r.lines in
        let f = walk_has_longest_front o m 0 ls (walk_end_at (read_journal bs).ending) in
        let c : (walk_from o m 0 r.lines AllTaken).walk_end ≡ AllTaken = rw ends at q in
        let d : (walk_from o m 0 (take k ls) AllTaken).walk_end ≡ AllTaken = rw p.1 c in
        let u : k ≤ length ls = omega (arith, ap length p.1, length-take k ls) in
        let v : k ≤ (walked i l bs).taken = let g = f.longest k u d in let y = f.taken_is in omega arith in
        let s : at ≡ length (journal_bytes (take k ls)) = at_length at h ∙ ap length p.0 ∙ ap (λ (z : List Line). length (journal_bytes z)) (sym p.1) in
        let y = taken_bytes_length_le k (walked i l bs).taken ls v in
        omega arith
      where
        at_length : (at : ℕ) → at ≤ length bs → at ≡ length (take at bs)
        at_length at h = let e = length-take at bs in omega arith
