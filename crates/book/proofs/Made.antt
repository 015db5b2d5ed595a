-- The candidate that the book's list lies around: in a later round, the best of the round before or else of all rounds
-- before. Assumes nothing.
use Rattle.std.proofs.Common.{ℕ, zero, suc, ◌<◌, arith, ◌≡◌, refl, sym, ◌∙◌, true, false, List, [], ◌++◌, append-nil, eq-eqb, ne_eqb, le-leb, leb, eqb}
use borrow.Author.Tests.{lt-leb}
use Rattle.common.specs.Each.{All}
use Rattle.common.specs.All.{all_append, all_map}
use Rattle.seeds.specs.declared.CandidateSeed.{CandidateSeed}
use Rattle.seeds.proofs.MergeLaws.{keep_append, keep_none, keep_whole}
use Rattle.score.specs.Reasons.{Outcome}
use Rattle.score.specs.declared.best.Candidate.{Candidate}
use Rattle.score.specs.Best.{chosen}
use Rattle.book.specs.Book.{Inputs, Entry, Book, entries, round_best_of, run_best_of, or_else, list_around, opened, with_waiting, with_entry, with_round, with_end}
use Rattle.book.specs.Rounds.{of_round, up_to, centre_of}
use Rattle.book.proofs.Planned.{Planned}

pub data ListByRule (b : Book) : Type 0 where
  first : b.round ≡ 0 → ListByRule b
  later : (w : Candidate) → centre_of b.round b.earlier ≡ chosen w → b.list ≡ list_around b.inputs b.round w → ListByRule b

-- ---- the entries of a book by their rounds
module _ (r : ℕ) (es : List Entry) where
  -- entries of rounds before r, of round r, and of the round after it
  pub of_round_none : All (λ e. e.round < r) es → of_round r es ≡ []
  of_round_none h = keep_none (λ e. eqb e.round r) es (all_map (λ e. e.round < r) (λ e. eqb e.round r ≡ false) (λ e p. ne_eqb e.round r (λ q. omega arith)) es h)

  pub of_round_all : All (λ e. e.round ≡ r) es → of_round r es ≡ es
  of_round_all h = keep_whole (λ e. eqb e.round r) es (all_map (λ e. e.round ≡ r) (λ e. eqb e.round r ≡ true) (λ e p. eq-eqb e.round r p) es h)

  pub up_to_all : All (λ e. e.round < suc r) es → up_to r es ≡ es
  up_to_all h = keep_whole (λ e. leb e.round r) es (all_map (λ e. e.round < suc r) (λ e. leb e.round r ≡ true) (λ e p. le-leb e.round r (omega arith)) es h)

  next_round_not_among : All (λ e. e.round ≡ suc r) es → (of_round r es ≡ []) × (up_to r es ≡ [])
  next_round_not_among h = (
    keep_none (λ e. eqb e.round r) es (all_map (λ e. e.round ≡ suc r) (λ e. eqb e.round r ≡ false) (λ e p. ne_eqb e.round r (λ q. omega arith)) es h),
    keep_none (λ e. leb e.round r) es (all_map (λ e. e.round ≡ suc r) (λ e. leb e.round r ≡ false) (λ e p. lt-leb e.round r (omega arith)) es h),
  )

-- all entries are of rounds up to this one
pub entries_up_to_this_round : (b : Book) → Planned b → All (λ e. e.round < suc b.round) (entries b)
entries_up_to_this_round b h =
    all_append (λ e. e.round < suc b.round) b.earlier b.answered
    (all_map (λ e. e.round < b.round) (λ e. e.round < suc b.round) (λ e p. omega arith) b.earlier h.past)
    (all_map (λ e. e.round ≡ b.round) (λ e. e.round < suc b.round) (λ e p. omega arith) b.answered h.this)

entries_of_this_round : (b : Book) → Planned b → of_round b.round (entries b) ≡ b.answered
entries_of_this_round b h =
    keep_append (λ e. eqb e.round b.round) b.earlier b.answered
    ∙ rw (of_round_none b.round b.earlier h.past, of_round_all b.round b.answered h.this)

-- The answers of round r don't change the candidate that its list lies around.
centre_kept_by_own_round : (r : ℕ) (es ds : List Entry) → All (λ e. e.round ≡ r) ds → centre_of r (es ++ ds) ≡ centre_of r es
unfolding centre_of
centre_kept_by_own_round zero es ds h = refl
centre_kept_by_own_round (suc r) es ds h =
    let n = next_round_not_among r ds h in
    let x : of_round r (es ++ ds) ≡ of_round r es = keep_append (λ e. eqb e.round r) es ds ∙ rw n.0 (append-nil (of_round r es)) in
    let y : up_to r (es ++ ds) ≡ up_to r es = keep_append (λ e. leb e.round r) es ds ∙ rw n.1 (append-nil (up_to r es)) in
    rw (x, y)

-- ---- the steps that keep it
pub waiting_keeps_list_by_rule : (b : Book) → ListByRule b → ListByRule (with_waiting b)
unfolding with_waiting
waiting_keeps_list_by_rule b (first z) = first z
waiting_keeps_list_by_rule b (later w c e) = later w c e

pub end_keeps_list_by_rule : (b : Book) → ListByRule b → ListByRule (with_end b)
unfolding with_end
end_keeps_list_by_rule b (first z) = first z
end_keeps_list_by_rule b (later w c e) = later w c e

pub entry_keeps_list_by_rule : (b : Book) (o : Outcome) → ListByRule b → ListByRule (with_entry b o)
unfolding with_entry
entry_keeps_list_by_rule b o (first z) = first z
entry_keeps_list_by_rule b o (later w c e) = later w c e

next_centre_is_best : (b : Book) → Planned b → centre_of (suc b.round) (entries b) ≡ or_else (round_best_of b) (run_best_of b)
unfolding centre_of round_best_of run_best_of
next_centre_is_best b h = rw (entries_of_this_round b h, up_to_all b.round (entries b) (entries_up_to_this_round b h))

pub next_round_list_by_rule : (b : Book) (w : Candidate) (ss : List CandidateSeed) → Planned b → or_else (round_best_of b) (run_best_of b) ≡ chosen w → list_around b.inputs (suc b.round) w ≡ ss
    → ListByRule (with_round b ss)
unfolding with_round
next_round_list_by_rule b w ss h c q = later w (next_centre_is_best b h ∙ c) (sym q)

pub opened_list_by_rule : (i : Inputs) → ListByRule (opened i)
unfolding opened
opened_list_by_rule i = first refl

-- ---- a later round
pub record Around (b : Book) : Type 0 where
  pub centre : Candidate
  pub is_best : centre_of b.round (entries b) ≡ chosen centre
  pub list_is : b.list ≡ list_around b.inputs b.round centre

pub later_list_around_centre : (b : Book) → Planned b → ListByRule b → 0 < b.round → Around b
later_list_around_centre b h (first z) p = absurd (omega arith)
later_list_around_centre b h (later w c e) p = record { centre = w; is_best = centre_kept_by_own_round b.round b.earlier b.answered h.this ∙ c; list_is = e }
