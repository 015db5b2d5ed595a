-- What Resume reports on any bytes. Where a run's journal is cut after any byte, only the line that the cut fell in is
-- lost, and the run goes on from the kept lines as if it had not stopped. Assumes nothing.
use Rattle.std.proofs.Common.{ℕ, zero, suc, ◌+◌, ◌≤◌, arith, ◌≡◌, refl, sym, ap, ◌∙◌, Bool, true, false, cond, true≢false, List, [], ◌∷◌, ◌++◌, map, append_assoc, append-nil, eqb-true, eq-eqb, length, take, drop, length-append, length-take, Float}
use borrow.Author.Tests.{eqb-false}
use lib.ListN.{length-map}
use lib.Seq.{take-append_seam, drop-append_seam}
use Rattle.common.specs.All.{all_right}
use Rattle.common.specs.Each.{All}
use Rattle.seeds.specs.Layout.{written}
use Rattle.journal.specs.declared.Line.{Line}
use Rattle.journal.specs.Line.{line_bytes, LineFits, Writable, journal_bytes}
use Rattle.journal.specs.Reading.{newlines, Lines, read_journal}
use Rattle.journal.proofs.Numbers.{newlines_append}
use Rattle.journal.proofs.Whole.{lines_read_to_the_end_were_written}
use Rattle.journal.specs.Theorem.{NoLine}
use Rattle.journal.proofs.Fronts.{whole_front, whole_rest_has_no_line, front_lines_read_back, front_ended, no_newline_no_line, Cut, cut_journal_is_lines_and_part, journal_bytes_append}
use Rattle.replay.specs.declared.WalkEnd.{WalkEnd}
use Rattle.replay.specs.declared.WalkEnd.TheVariants.{AllTaken, NotALine, NotTheRun}
use Rattle.replay.specs.declared.EndedBy.TheVariants as by
use Rattle.replay.specs.declared.KeptLines.{KeptLines}
use Rattle.replay.specs.Walk.{walk_end_at}
use Rattle.replay.specs.Resume.{is_cut_line, ended_by_of}
use Rattle.book.specs.Book.{Inputs, Entry, Book, entries, first_list, opened, book_enter, line_of}
use Rattle.book.specs.Conditions.{NoneHolds, conditions}
use Rattle.book.proofs.Cases.{case_result}
use Rattle.book.proofs.Moves.{entry, enter_adds_entry}
use Rattle.book_journal.specs.Lines.{lines_of, journal_of}
use Rattle.book_journal.specs.Replay.{start_refused, follows, Walked, walked, kept_of}
use Rattle.book_journal.specs.History.{History, book_at, InputsFit, CallFits, at_rest, entered_in}
use Rattle.book_journal.specs.ReplayLaw.{kept_bytes}
use Rattle.book_journal.specs.Resume.{rest_of, kept_lines_of, resumed, not_resumed, resume_of, ResumeRefuses, ResumeAccepts, GivesBack, CutAt}
use Rattle.book_journal.proofs.Opening.{start_refused_by_conditions, start_not_refused}
use Rattle.book_journal.proofs.Walk.{walk_end, walked_keeps}
use Rattle.book_journal.proofs.Kept.{Trail}
use Rattle.book_journal.proofs.Again.{list_along, Sound, history_sound, kept_lines_writable, sound_lines_read_back, walk_of_whole_trail}
use Rattle.book_journal.proofs.Beside.{same_as_reader}
use Rattle.book_journal.proofs.Front.{all_of_take, bytes_begin_with_lines, front_reads_its_lines, front_alone}
use Rattle.book_journal.proofs.Buffer.{walked_buffer}

-- ---- what ended the kept lines, by cases
cut_where_newline_missing : (x : Bool) (s : WalkEnd) → cond x by.MissingNewline (by.WalkEnded s) ≡ by.MissingNewline → x ≡ true
cut_where_newline_missing true s e = refl
cut_where_newline_missing false s e = let z : ◌≡◌ {A = ℕ} 0 1 = cc in absurd (omega arith)

not_cut_where_stopped : (x : Bool) (s t : WalkEnd) → cond x by.MissingNewline (by.WalkEnded s) ≡ by.WalkEnded t → (x ≡ false) × (s ≡ t)
not_cut_where_stopped true s t e = let z : ◌≡◌ {A = ℕ} 0 1 = cc in absurd (omega arith)
not_cut_where_stopped false s t e = (refl, cc)

-- ---- bytes with and without a newline
cut_line_has_no_newline : (s : List ℕ) → is_cut_line s ≡ true → (s ≡ [] → ⊥) × (newlines s ≡ 0)
cut_line_has_no_newline [] e = absurd (true≢false (sym e))
cut_line_has_no_newline (c ∷ cs) e = ((λ q. let z : ◌≡◌ {A = ℕ} 0 1 = cc in omega arith), eqb-true (newlines (c ∷ cs)) 0 e)

no_newline_is_cut_line : (s : List ℕ) → (s ≡ [] → ⊥) → newlines s ≡ 0 → is_cut_line s ≡ true
no_newline_is_cut_line [] n e = absurd (n refl)
no_newline_is_cut_line (c ∷ cs) n e = eq-eqb (newlines (c ∷ cs)) 0 e

not_cut_has_newline : (s : List ℕ) → (s ≡ [] → ⊥) → is_cut_line s ≡ false → 1 ≤ newlines s
not_cut_has_newline [] n e = absurd (n refl)
not_cut_has_newline (c ∷ cs) n e = let k = eqb-false (newlines (c ∷ cs)) 0 e in omega arith

-- if all bytes end with a newline, the part at their end that has none is empty
no_part_behind_newline : (j part s : List ℕ) → j ++ part ≡ s ++ 10 ∷ [] → newlines part ≡ 0 → part ≡ []
no_part_behind_newline [] part s e n = absurd (omega (arith, ap newlines e, newlines_append s (10 ∷ []), one_newline))
  where
    one_newline : newlines (10 ∷ []) ≡ 1
    one_newline = unfold newlines in refl
no_part_behind_newline (c ∷ j) [] s e n = refl
no_part_behind_newline (c ∷ j) (d ∷ part) [] e n = let q : j ++ d ∷ part ≡ [] = cc in absurd (omega (arith, ap length q, length-append j (d ∷ part)))
no_part_behind_newline (c ∷ j) (d ∷ part) (t ∷ s) e n = let q : j ++ d ∷ part ≡ s ++ 10 ∷ [] = cc in no_part_behind_newline j (d ∷ part) s q n

-- ---- the report on any bytes
pub none_waits_when_opened : (i : Inputs) → (opened i).waits ≡ false
unfolding opened
none_waits_when_opened i = refl

module _ (i : Inputs) (l : List Float) (bs : List ℕ) where
  abbrev walk : Walked
  walk = walked i l bs

  bytes_are_kept_and_rest : bs ≡ kept_of bs walk ++ rest_of bs walk
  bytes_are_kept_and_rest =
      let g = bytes_begin_with_lines bs walk.taken in
      g.1 ∙ ap (λ (z : List ℕ). kept_of bs walk ++ z) (sym (ap (drop (length (kept_of bs walk))) g.1 ∙ drop-append_seam (kept_of bs walk) g.0))

  adds_up : (kept_lines_of bs walk).kept + (kept_lines_of bs walk).dropped ≡ length bs
  unfolding kept_lines_of
  adds_up = sym (length-append (kept_of bs walk) (rest_of bs walk)) ∙ sym (ap length bytes_are_kept_and_rest)

  pub none_waits : walk.book.waits ≡ false
  none_waits = walked_keeps (λ b k. b.waits ≡ false) (λ b k m ok can h t. (enter_adds_entry b _).1) i l bs (none_waits_when_opened i)

  module _ (a : NoneHolds (conditions i (length l))) (f : InputsFit i) where
    -- the lines taken are those of the book
    taken_lines_are_book_lines : take walk.taken (read_journal bs).lines ≡ lines_of walk.book
    taken_lines_are_book_lines =
        let alone = front_alone i l bs in
        let r = same_as_reader i (length l) a f l (kept_bytes i l bs) in
        let e = r.all_read alone.is_walked in
        let own : (read_journal (kept_bytes i l bs)).lines ≡ lines_of walk.book = ap (λ (z : Lines). z.lines) e ∙ ap lines_of alone.same_book in
        sym (ap (λ (z : Lines). z.lines) (front_reads_its_lines bs walk.taken)) ∙ own

    kept_journal : take (kept_lines_of bs walk).kept bs ≡ journal_of walk.book
    unfolding kept_lines_of
    kept_journal = ap (take (length (kept_of bs walk))) bytes_are_kept_and_rest ∙ take-append_seam (kept_of bs walk) (rest_of bs walk) ∙ ap journal_bytes taken_lines_are_book_lines

    -- the bytes behind them
    rest_behind_book_lines : (x : List ℕ) → bs ≡ journal_bytes (lines_of walk.book) ++ x → rest_of bs walk ≡ x
    rest_behind_book_lines x e =
        ap (λ (z : List Line). drop (length (journal_bytes z)) bs) taken_lines_are_book_lines
        ∙ ap (drop (length (journal_bytes (lines_of walk.book)))) e
        ∙ drop-append_seam (journal_bytes (lines_of walk.book)) x

    nothing_behind : walk.walk_end ≡ AllTaken → rest_of bs walk ≡ []
    nothing_behind e =
        let r = (same_as_reader i (length l) a f l bs).all_read e in
        let w = lines_read_to_the_end_were_written bs (ap (λ (z : Lines). z.ending) r) in
        rest_behind_book_lines [] (w.bytes_are ∙ ap (λ (z : Lines). journal_bytes z.lines) r ∙ sym (append-nil (journal_bytes (lines_of walk.book))))

    no_line_behind : walk.walk_end ≡ NotALine → (rest_of bs walk ≡ [] → ⊥) × NoLine (rest_of bs walk)
    no_line_behind e =
        let r = (same_as_reader i (length l) a f l bs).not_read e in
        let w = whole_front bs in
        let q : rest_of bs walk ≡ w.rest = rest_behind_book_lines w.rest (w.bytes_are ∙ ap (λ (z : Lines). journal_bytes z.lines ++ w.rest) r) in
        rw q (w.before_end (suc walk.taken) (ap (λ (z : Lines). z.ending) r), whole_rest_has_no_line bs)

    other_line_behind : walk.walk_end ≡ NotTheRun → (m : Line) × (tail : List ℕ) × LineFits m × Writable m × (rest_of bs walk ≡ line_bytes m ++ tail) × (follows walk.book m ≡ false)
    unfolding journal_bytes
    other_line_behind e =
        let r = (same_as_reader i (length l) a f l bs).not_following e in
        let m = r.0 in
        let ms = r.1 in
        let ls = lines_of walk.book in
        let w = whole_front bs in
        let q : rest_of bs walk ≡ line_bytes m ++ (journal_bytes ms ++ w.rest) =
        rest_behind_book_lines (line_bytes m ++ (journal_bytes ms ++ w.rest))
        (w.bytes_are
        ∙ ap (λ (z : List Line). journal_bytes z ++ w.rest) r.2
        ∙ ap (λ (z : List ℕ). z ++ w.rest) (journal_bytes_append ls (m ∷ ms))
        ∙ append_assoc (journal_bytes ls) (line_bytes m ++ journal_bytes ms) w.rest
        ∙ ap (λ (z : List ℕ). journal_bytes ls ++ z) (append_assoc (line_bytes m) (journal_bytes ms) w.rest)) in
        let ok = all_right LineFits ls (m ∷ ms) (rw r.2 at w.lines_fit) in
        let can = all_right Writable ls (m ∷ ms) (rw r.2 at w.can_be_written) in
        (m, journal_bytes ms ++ w.rest, ok.0, can.0, q, r.3)

    walk_gives_back : GivesBack i l bs walk.book walk.list (kept_lines_of bs walk)
    unfolding kept_lines_of ended_by_of
    walk_gives_back =
        let x = is_cut_line (rest_of bs walk) in
        let s = walk.walk_end in
        record {
          none_waits = none_waits;
          buffer = walked_buffer i l bs a;
          lines_are = (same_as_reader i (length l) a f l bs).taken_is;
          kept_journal = kept_journal;
          is_longest = (front_alone i l bs).is_longest;
          adds_up = adds_up;
          nothing_left = λ e. nothing_behind (not_cut_where_stopped x s AllTaken e).1;
          newline_missing = λ e. cut_line_has_no_newline (rest_of bs walk) (cut_where_newline_missing x s e);
          not_a_line = λ e. let p = not_cut_where_stopped x s NotALine e in let q = no_line_behind p.1 in (not_cut_has_newline (rest_of bs walk) q.0 p.0, q.1);
          not_the_run = λ e. other_line_behind (not_cut_where_stopped x s NotTheRun e).1;
        }

-- ---- the reply
module _ (i : Inputs) (l : List Float) (bs : List ℕ) where
  pub resume_refuses : ResumeRefuses i l bs
  unfolding resume_of
  resume_refuses r h = rw (((start_refused_by_conditions i (length l)).refuses r).1 h, resume_of)

  pub resume_accepts : ResumeAccepts i l bs
  unfolding resume_of
  resume_accepts h = rw (start_not_refused i (length l) h, resume_of)

  resumed_after_start : (b : Book) (m : List Float) (r : KeptLines) → resume_of i l bs ≡ resumed b m r → NoneHolds (conditions i (length l))
  unfolding resume_of
  resumed_after_start b m r h =
      case_result (start_refused i (length l))
      (λ u e. (start_refused_by_conditions i (length l)).accepts.0 e)
      (λ s e. let q : not_resumed s l ≡ resumed b m r = rw (e, resume_of) at h in cc)

  resumed_injective : (b c : Book) (m k : List Float) (r q : KeptLines) → resumed b m r ≡ resumed c k q → (b ≡ c) × (m ≡ k) × (r ≡ q)
  resumed_injective b c m k r q h = (cc, cc, cc)

  pub gives_back : InputsFit i → (b : Book) (m : List Float) (r : KeptLines) → resume_of i l bs ≡ resumed b m r → GivesBack i l bs b m r
  gives_back f b m r h =
      let a = resumed_after_start b m r h in
      let w = walked i l bs in
      let e = resumed_injective w.book b w.list m (kept_lines_of bs w) r (sym (resume_accepts a) ∙ h) in
      rw (e.2, e.0, e.1) at (walk_gives_back i l bs a f)

-- ---- the first entries of a trail lead to the book of as many entries
trail_of_front : (b c : Book) (n : ℕ) (es : List Entry) → Trail b es c → Trail b (take n es) (entered_in b (take n es))
unfolding entered_in
trail_of_front b c zero es t = refl
trail_of_front b c (suc n) [] t = refl
trail_of_front b c (suc n) (e ∷ es) t = (t.0, t.1, t.2, trail_of_front (book_enter b e.outcome) c n es t.3)

trail_adds_entries : (b c : Book) (es : List Entry) → Trail b es c → entries c ≡ entries b ++ es
trail_adds_entries b c [] t = rw t (sym (append-nil (entries c)))
trail_adds_entries b c (e ∷ es) t =
    trail_adds_entries (book_enter b e.outcome) c es t.3
    ∙ ap (λ (z : List Entry). z ++ es) (enter_adds_entry b e.outcome).0
    ∙ append_assoc (entries b) (entry b e.outcome ∷ []) es
    ∙ ap (λ (x : Entry). entries b ++ x ∷ es) (sym t.1)

take_of_map_line_of : (n : ℕ) (es : List Entry) → take n (map line_of es) ≡ map line_of (take n es)
take_of_map_line_of zero es = refl
take_of_map_line_of (suc n) [] = refl
take_of_map_line_of (suc n) (e ∷ es) = ap (λ (z : List Line). line_of e ∷ z) (take_of_map_line_of n es)

take_twice : (n : ℕ) (ls : List Line) → take n (take n ls) ≡ take n ls
take_twice zero ls = refl
take_twice (suc n) [] = refl
take_twice (suc n) (l ∷ ls) = ap (λ (z : List Line). l ∷ z) (take_twice n ls)

-- ---- the walk of a run's journal that was cut
module _ (i : Inputs) (b : Book) (s : Sound i b) (l : List Float) (at : ℕ) where
  abbrev front : List ℕ
  front = take at (journal_of b)

  pub cut : Cut (lines_of b) at
  cut = cut_journal_is_lines_and_part (lines_of b) at

  abbrev whole : List Line
  whole = take cut.whole (lines_of b)

  whole_lines_fit : All LineFits whole
  whole_lines_fit = all_of_take LineFits cut.whole (lines_of b) (sound_lines_read_back i b s).lines_fit

  whole_lines_writable : All Writable whole
  whole_lines_writable = all_of_take Writable cut.whole (lines_of b) (kept_lines_writable i b s.start s.kept)

  cut_reads_whole_lines : (read_journal front).lines ≡ whole
  cut_reads_whole_lines = ap (λ (z : List ℕ). (read_journal z).lines) cut.cut_is ∙ front_lines_read_back whole cut.part whole_lines_fit whole_lines_writable (no_newline_no_line cut.part cut.no_newline)

  cut_reader_ended : cut.part ≡ [] → walk_end_at (read_journal front).ending ≡ AllTaken
  cut_reader_ended e = ap (λ (z : List ℕ). walk_end_at (read_journal z).ending) cut.cut_is ∙ ap walk_end_at (front_ended whole cut.part whole_lines_fit whole_lines_writable (no_newline_no_line cut.part cut.no_newline) e)

  abbrev kept : List Entry
  kept = take cut.whole (entries b)

  pub kept_as_many_as_whole_lines : length kept ≡ cut.whole
  kept_as_many_as_whole_lines = let m = cut.no_more in omega (arith, length-take cut.whole (entries b), length-map (entries b) line_of)

  kept_trail : Trail (opened i) kept (entered_in (opened i) kept)
  kept_trail = trail_of_front (opened i) (at_rest b) cut.whole (entries b) s.kept.trail

  walk_of_cut_journal : walked i l front ≡ walk_end (entered_in (opened i) kept) (list_along (opened i) (written (first_list i) l) kept) cut.whole (walk_end_at (read_journal front).ending)
  unfolding walked
  walk_of_cut_journal =
      let o = opened i in
      let m = written (first_list i) l in
      let x = walk_end_at (read_journal front).ending in
      rw (cut_reads_whole_lines, take_of_map_line_of cut.whole (entries b))
      (walk_of_whole_trail o (entered_in o kept) m 0 kept x kept_trail ∙ ap (λ (k : ℕ). walk_end (entered_in o kept) (list_along o m kept) k x) (let q = kept_as_many_as_whole_lines in omega arith))

  pub cut_leads_to_kept_book : (walked i l front).book ≡ entered_in (opened i) kept
  cut_leads_to_kept_book = ap (λ (z : Walked). z.book) walk_of_cut_journal

  cut_takes_whole_lines : (walked i l front).taken ≡ cut.whole
  cut_takes_whole_lines = ap (λ (z : Walked). z.taken) walk_of_cut_journal

  cut_keeps_whole_lines : kept_of front (walked i l front) ≡ journal_bytes whole
  cut_keeps_whole_lines = ap journal_bytes (ap (λ (k : ℕ). take k (read_journal front).lines) cut_takes_whole_lines ∙ ap (take cut.whole) cut_reads_whole_lines ∙ take_twice cut.whole (lines_of b))

  cut_rest_is_part : rest_of front (walked i l front) ≡ cut.part
  cut_rest_is_part = ap (λ (z : List ℕ). drop (length z) front) cut_keeps_whole_lines ∙ ap (drop (length (journal_bytes whole))) cut.cut_is ∙ drop-append_seam (journal_bytes whole) cut.part

  -- the walked book has as many entries as lines were taken
  pub cut_entries_are_kept : entries (walked i l front).book ≡ kept
  cut_entries_are_kept = ap entries cut_leads_to_kept_book ∙ entered_entries kept kept_trail
    where
      entered_entries : (es : List Entry) → Trail (opened i) es (entered_in (opened i) es) → entries (entered_in (opened i) es) ≡ es
      entered_entries es t = unfold opened in trail_adds_entries (opened i) (entered_in (opened i) es) es t

  cut_ended_by_nothing : cut.part ≡ [] → (kept_lines_of front (walked i l front)).ended_by ≡ by.WalkEnded AllTaken
  unfolding kept_lines_of ended_by_of
  cut_ended_by_nothing e = rw (cut_rest_is_part ∙ e, ap (λ (z : Walked). z.walk_end) walk_of_cut_journal ∙ cut_reader_ended e)

  cut_ended_by_missing_newline : (cut.part ≡ [] → ⊥) → (kept_lines_of front (walked i l front)).ended_by ≡ by.MissingNewline
  unfolding kept_lines_of ended_by_of
  cut_ended_by_missing_newline e = rw (cut_rest_is_part, no_newline_is_cut_line cut.part e cut.no_newline)

pub cut_anywhere : (i : Inputs) (h : History i) → InputsFit i → All CallFits h.calls → (at : ℕ) (l : List Float) → CutAt i h at l
cut_anywhere i h f k at l =
    let b = book_at h in
    let s = history_sound i h f k in
    let c = cut i b s l at in
    record {
      lines = c.whole;
      part = c.part;
      cut_is = c.cut_is;
      no_newline = c.no_newline;
      after_newline = λ t e. no_part_behind_newline (journal_bytes (take c.whole (lines_of b))) c.part t (sym c.cut_is ∙ e) c.no_newline;
      kept_lines = unfold kept_lines_of in cut_takes_whole_lines i b s l at;
      kept_bytes_lem = unfold kept_lines_of in ap length (cut_keeps_whole_lines i b s l at);
      dropped_part = unfold kept_lines_of in ap length (cut_rest_is_part i b s l at);
      by_nothing = cut_ended_by_nothing i b s l at;
      by_newline = cut_ended_by_missing_newline i b s l at;
      book_is = cut_leads_to_kept_book i b s l at;
    }
