-- The lent list beside a book: the book's list stands in front, and what no list can reach stays as it was. Walking a
-- run's journal leaves the lent list as the run did. Assumes nothing.
use Rattle.std.proofs.Common.{ℕ, ◌+◌, ◌-◌, ◌*◌, ◌≤◌, ◌<◌, arith, ◌≡◌, refl, sym, ap, ◌∙◌, ◌⊎◌, inl, inr, ⊎_elim, false, List, [], ◌∷◌, ◌++◌, eq-eqb, ne_eqb, length, drop, length-append, length-drop, take_at, drop-drop, Float}
use lib.Seq.{drop-append-add}
use Rattle.common.specs.Each.{All}
use Rattle.seeds.specs.declared.CandidateSeed.{CandidateSeed}
use Rattle.seeds.specs.Layout.{flat, written}
use Rattle.seeds.specs.LayoutLaws.{flat_length}
use Rattle.score.specs.Reasons.{Outcome}
use Rattle.book.specs.Calls.{Call}
use Rattle.book.specs.Book.{Inputs, demand, Entry, Book, entries, current, first_list, opened, with_waiting, with_entry, with_round, with_end, book_enter, BookLeft as Answer, book_call, after}
use Rattle.book.specs.Conditions.{NoneHolds, conditions}
use Rattle.book.proofs.Moves.{entry, Stands, Closing, close_round_by, enter_by_round_end, enter_adds_entry as enter-place, waiting_keeps_entries as await_place, Moves, stays, hands, enters, call_moves, call_keeps}
use Rattle.book.proofs.Good.{Good, book_not_over_where_seed_waits}
use Rattle.book_journal.specs.Replay.{buffer_after, Walked, walked}
use Rattle.book_journal.specs.History.{Opening, fresh, from, opened_by, History, book_at, InputsFit, CallFits, at_rest, opened_list, list_under, list_at}
use Rattle.book_journal.specs.ReplayLaw.{RunAgain, BufferOf}
use Rattle.book_journal.proofs.Opening.{lent_list_long_enough}
use Rattle.book_journal.proofs.Standing.{following_line_is_of_entry}
use Rattle.book_journal.proofs.Walk.{walked_keeps, walked_ignores_list}
use Rattle.book_journal.proofs.Kept.{Trail, GoodTrail, enter_at_rest, opened_book_has_trail, opening_book_has_trail, enter_keeps_trail, taken_line_keeps_trail, calls_keep_trail}
use Rattle.book_journal.proofs.Again.{list_along, history_sound, walked_again, replayed_standing, replayed_list}
use Rattle.journal.specs.Outcome.{outcome_in}

-- ---- entering an outcome: the round and its list stay, or a later round opens
abbrev Moved : Book → Book → Type 0
Moved b c = ((b.round ≡ c.round) × (c.list ≡ b.list)) ⊎ (b.round < c.round)

end_keeps_moved : (b c : Book) → Moved b c → Moved b (with_end c)
unfolding with_end
end_keeps_moved b c h = h

next_round_moved : (b c : Book) (ss : List CandidateSeed) → Moved b c → Moved b (with_round c ss)
unfolding with_round
next_round_moved b c ss h = ⊎_elim (λ p. let q = p.0 in inr (omega arith)) (λ p. inr (omega arith)) h

entry_keeps_list : (b : Book) (o : Outcome) → Moved b (with_entry b o)
unfolding with_entry
entry_keeps_list b o = inl (refl, refl)

closing_keeps_moved : (b : Book) → Closing (λ k. Moved b) (Moved b)
closing_keeps_moved b = record { ends = λ k c r h. end_keeps_moved b c h; skips = λ k c w e q h. next_round_moved b c [] h; opens = λ k c w s ss e q h. next_round_moved b c (s ∷ ss) h }

enter_stays_or_moves : (b : Book) (o : Outcome) → Moved b (book_enter b o)
enter_stays_or_moves b o = enter_by_round_end (Moved b) b o (λ e. entry_keeps_list b o) (λ e. close_round_by (closing_keeps_moved b) ((with_entry b o).inputs.rounds - (with_entry b o).round) (with_entry b o) (entry_keeps_list b o))

pub waiting_keeps_round_and_list : (b : Book) → (b.round ≡ (with_waiting b).round) × ((with_waiting b).list ≡ b.list)
unfolding with_waiting
waiting_keeps_round_and_list b = (refl, refl)

-- ---- where the round stays nothing is written, and where one opens its list is
pub buffer_after_same_round : (b c : Book) (l : List Float) → b.round ≡ c.round → buffer_after b c l ≡ l
unfolding buffer_after
buffer_after_same_round b c l e = simp (eq-eqb b.round c.round e)

buffer_after_opened_round : (b c : Book) (l : List Float) → b.round < c.round → buffer_after b c l ≡ written c.list l
unfolding buffer_after
buffer_after_opened_round b c l h = simp (ne_eqb b.round c.round (λ e. omega arith))

-- ---- writing a list
drop_written : (d : ℕ) (ss : List CandidateSeed) (m : List Float) → 6 * length ss ≤ d → drop d (written ss m) ≡ drop d m
drop_written d ss m h =
    let n = 6 * length ss in
    let q : length (flat ss) ≡ n = flat_length ss in
    let e : length (flat ss) + (d - n) ≡ d = omega arith in
    let g : n + (d - n) ≡ d = omega arith in
    ap (λ (k : ℕ). drop k (written ss m)) (sym e) ∙ drop-append-add (flat ss) (drop n m) (d - n) ∙ drop-drop (d - n) n m ∙ ap (λ (k : ℕ). drop k m) g

module _ (i : Inputs) (l : List Float) (room : demand i ≤ length l) where
  buffer_of_written_list : (c : Book) (m : List Float) → length m ≡ length l → drop (demand i) m ≡ drop (demand i) l → 6 * length c.list ≤ demand i → BufferOf i l c (written c.list m)
  buffer_of_written_list c m s h f = record {
    is_in_front = take_at (flat c.list) (drop (6 * length c.list) m) (6 * length c.list) (flat_length c.list);
    same_length = omega (arith, length-append (flat c.list) (drop (6 * length c.list) m), length-drop (6 * length c.list) m, flat_length c.list);
    beyond = drop_written (demand i) c.list m f ∙ h;
  }

  buffer_of_same_list : (b c : Book) (m : List Float) → c.list ≡ b.list → BufferOf i l b m → BufferOf i l c m
  buffer_of_same_list b c m e h = record { is_in_front = rw e h.is_in_front; same_length = h.same_length; beyond = h.beyond }

  list_le_demand : (b : Book) → Good i b → 6 * length b.list ≤ demand i
  list_le_demand b g = rw g.inputs_are at g.core.fits

  abbrev ListInBuffer : Book → List Float → Type 0
  ListInBuffer b m = GoodTrail i b × BufferOf i l b m

  enter_keeps_list_in_buffer : (b : Book) (m : List Float) (o : Outcome) → b.over ≡ false → Stands b.inputs (current b).sensor o → ListInBuffer b m → ListInBuffer (book_enter b o) (buffer_after b (book_enter b o) m)
  enter_keeps_list_in_buffer b m o g s h =
      let c = book_enter b o in
      let k = enter_keeps_trail i b o g s h.0 in (
        k,
        ⊎_elim
            (λ p. rw (buffer_after_same_round b c m p.0) (buffer_of_same_list b c m p.1 h.1))
            (λ p. rw (buffer_after_opened_round b c m p) (buffer_of_written_list c m h.1.same_length h.1.beyond (list_le_demand c k.good)))
            (enter_stays_or_moves b o),
      )

  call_keeps_list_in_buffer : (b : Book) (m : List Float) (c : Call) → ListInBuffer b m → ListInBuffer (book_call b c).book (buffer_after b (book_call b c).book m)
  call_keeps_list_in_buffer b m c h = (call_keeps (calls_keep_trail i) b c h.0, go (book_call b c) (call_moves b c))
    where
      go : (d : Answer) → Moves b c d → BufferOf i l d.book (buffer_after b d.book m)
      go d (stays e n) = rw (e, buffer_after_same_round b b m refl) h.1
      go d (hands o w e n) = let p = waiting_keeps_round_and_list b in rw (e, buffer_after_same_round b (with_waiting b) m p.0) (buffer_of_same_list b (with_waiting b) m p.1 h.1)
      go d (enters o w s e n) = rw e (enter_keeps_list_in_buffer b m o (book_not_over_where_seed_waits i b h.0.good w) s h).1

  calls_keep_list_in_buffer : (b : Book) (m : List Float) (cs : List Call) → ListInBuffer b m → ListInBuffer (after b cs) (list_under b m cs)
  unfolding after list_under
  calls_keep_list_in_buffer b m [] h = h
  calls_keep_list_in_buffer b m (c ∷ cs) h = let d = (book_call b c).book in calls_keep_list_in_buffer d (buffer_after b d m) cs (call_keeps_list_in_buffer b m c h)

  -- ---- at the start, and after a walk
  module _ (a : NoneHolds (conditions i (length l))) where
    start_puts_list_in_buffer : ListInBuffer (opened i) (written (first_list i) l)
    unfolding opened
    start_puts_list_in_buffer = let k = opened_book_has_trail i (length l) a in (k, buffer_of_written_list (opened i) l refl refl (list_le_demand (opened i) k.good))

    walk_puts_list_in_buffer : (bs : List ℕ) → ListInBuffer (walked i l bs).book (walked i l bs).list
    walk_puts_list_in_buffer bs = walked_keeps ListInBuffer (λ b m x ok can h t. let f = following_line_is_of_entry b x ok can t in enter_keeps_list_in_buffer b m (outcome_in x.outcome) f.going f.stands h) i l bs start_puts_list_in_buffer

    opening_puts_list_in_buffer : (o : Opening) → ListInBuffer (opened_by i o) (opened_list i l o)
    opening_puts_list_in_buffer fresh = start_puts_list_in_buffer
    opening_puts_list_in_buffer (from bs) = rw (walked_ignores_list i l [] bs).0 at (walk_puts_list_in_buffer bs)

pub walked_buffer : (i : Inputs) (l : List Float) (bs : List ℕ) → NoneHolds (conditions i (length l)) → BufferOf i l (walked i l bs).book (walked i l bs).list
walked_buffer i l bs a = (walk_puts_list_in_buffer i l (lent_list_long_enough i (length l) a) a bs).1

pub called_buffer : (i : Inputs) (h : History i) (l : List Float) → NoneHolds (conditions i (length l)) → BufferOf i l (book_at h) (list_at h l)
called_buffer i h l a =
    let r = lent_list_long_enough i (length l) a in
    (calls_keep_list_in_buffer i l r (opened_by i h.opening) (opened_list i l h.opening) h.calls (opening_puts_list_in_buffer i l r a h.opening)).1

-- ---- the lent list is a function of the entries
list_along_snoc : (b c : Book) (l : List Float) (es : List Entry) (e : Entry) → Trail b es c → list_along b l (es ++ e ∷ []) ≡ buffer_after c (book_enter c e.outcome) (list_along b l es)
unfolding list_along
list_along_snoc b c l [] e t = rw t
list_along_snoc b c l (d ∷ es) e t = list_along_snoc (book_enter b d.outcome) c (buffer_after b (book_enter b d.outcome) l) es e t.3

at_rest_keeps_buffer_after : (b c : Book) (l : List Float) → buffer_after (at_rest b) c l ≡ buffer_after b c l
unfolding buffer_after at_rest
at_rest_keeps_buffer_after b c l = refl

module _ (i : Inputs) (l : List Float) where
  abbrev pub list_by_entries : Book → List Float
  list_by_entries b = list_along (opened i) (written (first_list i) l) (entries b)

  abbrev IsListByEntries : Book → List Float → Type 0
  IsListByEntries b m = GoodTrail i b × (m ≡ list_by_entries b)

  enter_leaves_list_by_entries : (b : Book) (m : List Float) (o : Outcome) → IsListByEntries b m → buffer_after b (book_enter b o) m ≡ list_by_entries (book_enter b o)
  enter_leaves_list_by_entries b m o h =
      let k = written (first_list i) l in
      ap (buffer_after b (book_enter b o)) h.1
      ∙ sym (ap (list_along (opened i) k) (enter-place b o).0
      ∙ list_along_snoc (opened i) (at_rest b) k (entries b) (entry b o) h.0.trail
      ∙ at_rest_keeps_buffer_after b (book_enter (at_rest b) o) (list_by_entries b)
      ∙ ap (λ (c : Book). buffer_after b c (list_by_entries b)) (enter_at_rest b o))

  call_leaves_list_by_entries : (b : Book) (m : List Float) (c : Call) → IsListByEntries b m → buffer_after b (book_call b c).book m ≡ list_by_entries (book_call b c).book
  call_leaves_list_by_entries b m c h = go (book_call b c) (call_moves b c)
    where
      go : (d : Answer) → Moves b c d → buffer_after b d.book m ≡ list_by_entries d.book
      go d (stays e n) = rw e (buffer_after_same_round b b m refl ∙ h.1)
      go d (hands o w e n) = rw e (buffer_after_same_round b (with_waiting b) m (waiting_keeps_round_and_list b).0 ∙ h.1 ∙ sym (ap (list_along (opened i) (written (first_list i) l)) (await_place b).0))
      go d (enters o w s e n) = rw e (enter_leaves_list_by_entries b m o h)

  calls_leave_list_by_entries : (b : Book) (m : List Float) (cs : List Call) → IsListByEntries b m → list_under b m cs ≡ list_by_entries (after b cs)
  unfolding list_under after
  calls_leave_list_by_entries b m [] h = h.1
  calls_leave_list_by_entries b m (c ∷ cs) h = let d = (book_call b c).book in calls_leave_list_by_entries d (buffer_after b d m) cs (call_keeps (calls_keep_trail i) b c h.0, call_leaves_list_by_entries b m c h)

  walk_leaves_list_by_entries : (n : ℕ) → NoneHolds (conditions i n) → (bs : List ℕ) → (walked i l bs).list ≡ list_by_entries (walked i l bs).book
  unfolding list_along opened
  walk_leaves_list_by_entries n a bs = (walked_keeps IsListByEntries (λ b m x ok can h t. (taken_line_keeps_trail i b x ok can h.0 t, enter_leaves_list_by_entries b m (outcome_in x.outcome) h)) i l bs (opened_book_has_trail i n a, refl)).1

  opening_leaves_list_by_entries : (n : ℕ) (o : Opening) → NoneHolds (conditions i n) → opened_list i l o ≡ list_by_entries (opened_by i o)
  unfolding list_along opened
  opening_leaves_list_by_entries n fresh a = refl
  opening_leaves_list_by_entries n (from bs) a = walk_leaves_list_by_entries n a bs ∙ ap list_by_entries (walked_ignores_list i l [] bs).0

  pub history_leaves_list_by_entries : (h : History i) → list_at h l ≡ list_by_entries (book_at h)
  history_leaves_list_by_entries h =
      calls_leave_list_by_entries (opened_by i h.opening) (opened_list i l h.opening) h.calls
      (opening_book_has_trail i h.room h.opening h.accepted, opening_leaves_list_by_entries h.room h.opening h.accepted)

-- ---- a run's journal, run again
pub run_again : (i : Inputs) (h : History i) → InputsFit i → All CallFits h.calls → (l : List Float) → NoneHolds (conditions i (length l)) → RunAgain i h l
run_again i h f k l a =
    let b = book_at h in
    let s = history_sound i h f k in
    let e = walked_again i b l s in
    record {
      all_lines = ap (λ (z : Walked). z.walk_end) e;
      same_book = ap (λ (z : Walked). z.book) e;
      same_standing = replayed_standing i b l s a;
      same_buffer = replayed_list i b l s a ∙ sym (history_leaves_list_by_entries i l h);
    }
