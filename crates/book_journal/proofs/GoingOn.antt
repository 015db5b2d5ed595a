-- A run whose journal was cut goes on from the kept lines as if it had not stopped, and its later lines stand behind
-- them. Assumes nothing.
use Rattle.std.proofs.Common.{ℕ, suc, ◌≤◌, arith, ◌≡◌, refl, sym, ap, ◌∙◌, Bool, true, false, List, [], ◌∷◌, ◌++◌, map, le-ltb, eqb-true, eqb, length, take, drop, length-append, length-take, take-append-drop, take_at, drop_at}
use mathlib.Core.List.{map-append}
use borrow.Author.Tests.{eqb-false}
use lib.ListN.{length-map}
use Rattle.common.specs.Tests.{case}
use Rattle.common.specs.Each.{All}
use Rattle.journal.specs.declared.Line.{Line}
use Rattle.journal.specs.Line.{journal_bytes}
use Rattle.journal.proofs.Fronts.{journal_bytes_append}
use Rattle.book.specs.Calls.{Call, next}
use Rattle.book.specs.Book.{Inputs, demand, Entry, Book, entries, number, opened, with_waiting, book_enter, BookLeft as Answer, book_next, book_call, replies, after, line_of}
use Rattle.book.proofs.Moves.{entered_by, Moves, stays, hands, enters, call_moves, call_adds_entries, calls_keep}
use Rattle.book.proofs.Good.{Good, book_not_over_where_seed_waits}
use Rattle.book.proofs.Stops.{after_append}
use Rattle.book_journal.specs.Lines.{lines_of, journal_of}
use Rattle.book_journal.specs.History.{opened_by, History, book_at, InputsFit, CallFits, at_rest, entered_in}
use Rattle.book_journal.specs.Resume.{cut_run, again, uncut, going_on, GoesOn, GoesOnSomewhere, EntersOn, JournalGrows}
use Rattle.book_journal.proofs.Kept.{GoodTrail, trail_entered, at_rest_where_none_waits, opening_book_has_trail, calls_keep_trail, calls_add_entries}
use Rattle.book_journal.proofs.Again.{Sound, history_sound}
use Rattle.book_journal.proofs.Buffer.{list_by_entries, history_leaves_list_by_entries}
use Rattle.book_journal.proofs.Cut.{cut, kept_as_many_as_whole_lines, cut_leads_to_kept_book, cut_entries_are_kept}

-- ---- a seed that waited is handed out again
waiting_again_is_same_book : (b : Book) → b.waits ≡ true → with_waiting (at_rest b) ≡ b
unfolding with_waiting at_rest
waiting_again_is_same_book b w = ap (λ (x : Bool). record { inputs = b.inputs; round = b.round; list = b.list; earlier = b.earlier; answered = b.answered; waits = x; over = b.over }) (sym w)

next_hands_out_again : (b : Book) → b.over ≡ false → (book_call (at_rest b) (next (demand b.inputs))).book ≡ with_waiting (at_rest b)
unfolding book_call book_next at_rest
next_hands_out_again b o = simp (o, le-ltb (demand b.inputs) (demand b.inputs) (omega arith))

-- ---- a call enters one answer at most
call_enters_at_most_one : (b : Book) (c : Call) → length (entered_by b c) ≤ 1
call_enters_at_most_one b c = go (book_call b c) (call_moves b c)
  where
    go : (k : Answer) → Moves b c k → length (entered_by b c) ≤ 1
    go k (stays e n) = rw n (omega arith)
    go k (hands o w e n) = rw n (omega arith)
    go k (enters o w s e n) = rw n (omega arith)

call_number_le_suc : (b : Book) (c : Call) → number (book_call b c).book ≤ suc (number b)
call_number_le_suc b c = let m = call_enters_at_most_one b c in omega (arith, ap length (call_adds_entries b c), length-append (entries b) (entered_by b c))

-- so for every number of answers between the first and the last there is a place in the calls
abbrev CallsSplitAt : Book → List Call → ℕ → Type 0
CallsSplitAt b cs n = (xs : List Call) × (ys : List Call) × (cs ≡ xs ++ ys) × (number (after b xs) ≡ n)

calls_split_at_number : (b : Book) (cs : List Call) (n : ℕ) → number b ≤ n → n ≤ number (after b cs) → CallsSplitAt b cs n
unfolding after
calls_split_at_number b [] n p q = ([], [], refl, omega arith)
calls_split_at_number b (c ∷ cs) n p q =
    case (eqb (number b) n)
    (λ e. ([], c ∷ cs, refl, eqb-true (number b) n e))
    (λ e.
    let d = (book_call b c).book in
    let g = call_number_le_suc b c in
    let differ = eqb-false (number b) n e in
    let r = calls_split_at_number d cs n (omega arith) q in
    (c ∷ r.0, r.1, ap (λ (z : List Call). c ∷ z) r.2, r.3))

entered_in_append : (b : Book) (es gs : List Entry) → entered_in b (es ++ gs) ≡ entered_in (entered_in b es) gs
unfolding entered_in
entered_in_append b [] gs = refl
entered_in_append b (e ∷ es) gs = entered_in_append (book_enter b e.outcome) es gs

module _ (i : Inputs) (h : History i) where
  -- from the book at rest, handing the waiting seed out again leads back to the book
  again_leads_back : (at : ℕ) (b : Book) → Good i b → after (at_rest b) (again i h at b) ≡ b
  unfolding after
  again_leads_back at b g =
      case b.waits
      (λ w. simp (w, after) (next_hands_out_again b (book_not_over_where_seed_waits i b g w) ∙ waiting_again_is_same_book b w))
      (λ w. simp (w, after) (at_rest_where_none_waits b w))

  module _ (f : InputsFit i) (k : All CallFits h.calls) (at : ℕ) where
    sound : Sound i (book_at h)
    sound = history_sound i h f k

    abbrev count : ℕ
    count = (cut i (book_at h) sound [] at).whole

    cut_run_number : number (cut_run i h at) ≡ count
    cut_run_number = ap length (cut_entries_are_kept i (book_at h) sound [] at) ∙ kept_as_many_as_whole_lines i (book_at h) sound [] at

    pub goes_on : (cs ds : List Call) → h.calls ≡ cs ++ ds → number (uncut i h at cs ds) ≡ number (cut_run i h at) → GoesOn i h at cs ds
    goes_on cs ds e n =
        let o = opened i in
        let b = book_at h in
        let u = uncut i h at cs ds in
        let r = cut_run i h at in
        let whole : b ≡ after u ds = ap (after (opened_by i h.opening)) e ∙ after_append (opened_by i h.opening) cs ds in
        let here : GoodTrail i u = calls_keep (calls_keep_trail i) (opened_by i h.opening) cs (opening_book_has_trail i h.room h.opening h.accepted) in
        let g = calls_add_entries u ds in
        let split : take count (entries b) ≡ entries u = ap (λ (z : Book). take count (entries z)) whole ∙ ap (take count) g.1 ∙ take_at (entries u) g.0 count (n ∙ cut_run_number) in
        let stands : r ≡ at_rest u = cut_leads_to_kept_book i b sound [] at ∙ ap (entered_in o) split ∙ trail_entered o (at_rest u) (entries u) here.trail in
        let back : after r (again i h at u) ≡ u = ap (λ (z : Book). after z (again i h at u)) stands ∙ again_leads_back at u here.good in
        let end : after r (again i h at u ++ ds) ≡ b = after_append r (again i h at u) ds ∙ ap (λ (z : Book). after z ds) back ∙ sym whole in
        record {
          stands_there = stands;
          same_replies = λ qs. ap (λ (z : Book). replies z qs) back;
          same_end = end;
          same_buffer = λ l. history_leaves_list_by_entries i l (going_on i h at cs ds) ∙ ap (list_by_entries i l) end ∙ sym (history_leaves_list_by_entries i l h);
        }

    -- ---- there always is such a place
    pub goes_on_somewhere : number (opened_by i h.opening) ≤ number (cut_run i h at) → GoesOnSomewhere i h at
    goes_on_somewhere l =
        let few : number (cut_run i h at) ≤ number (book_at h) = let n = ap length (cut_entries_are_kept i (book_at h) sound [] at) in omega (arith, length-take count (entries (book_at h))) in
        let p = calls_split_at_number (opened_by i h.opening) h.calls (number (cut_run i h at)) l few in
        record { before = p.0; behind = p.1; split = p.2; goes_on = goes_on p.0 p.1 p.2 p.3 }

    -- ---- the lost answers, entered again, lead to the same book
    pub enters_on : EntersOn i h at
    enters_on =
        let o = opened i in
        let b = book_at h in
        ap (λ (m : ℕ). entered_in (cut_run i h at) (drop m (entries b))) cut_run_number
        ∙ ap (λ (z : Book). entered_in z (drop count (entries b))) (cut_leads_to_kept_book i b sound [] at)
        ∙ sym (entered_in_append o (take count (entries b)) (drop count (entries b)))
        ∙ ap (entered_in o) (take-append-drop count (entries b))
        ∙ trail_entered o (at_rest b) (entries b) sound.kept.trail

  -- ---- the later lines stand behind the kept ones
  pub journal_grows : JournalGrows h
  journal_grows =
      let b = opened_by i h.opening in
      let g = calls_add_entries b h.calls in
      let e : lines_of (book_at h) ≡ lines_of b ++ map line_of g.0 = ap (map line_of) g.1 ∙ map-append line_of (entries b) g.0 in
      let d : drop (number b) (lines_of (book_at h)) ≡ map line_of g.0 = ap (drop (number b)) e ∙ drop_at (lines_of b) (map line_of g.0) (number b) (length-map (entries b) line_of) in
      ap journal_bytes e ∙ journal_bytes_append (lines_of b) (map line_of g.0) ∙ ap (λ (z : List Line). journal_of b ++ journal_bytes z) (sym d)
