-- Where the floor isn't below the score of the book's best, no seed left beats that best, so the round gains nothing,
-- whatever calls follow. Assumes nothing.
use Rattle.std.proofs.Common.{ℕ, zero, suc, ◌≤◌, ◌<◌, arith, ◌≡◌, refl, sym, ap, subst, ◌∙◌, ◌⊎◌, inl, inr, ⊎_elim, false, List, [], ◌∷◌, ◌++◌, append_assoc, append-nil, le-leb, leb, length, get_or, drop, length-append, Ok}
use Rattle.std.specs.Float.Ieee.{lt}
use mathlib.Core.List.{Memᴰ}
use borrow.Author.Tests.{lt-leb}
use Rattle.common.specs.Each.{All}
use Rattle.common.specs.All.{all_append}
use Rattle.float_laws.specs.NotBelow.{not_below_trans}
use Rattle.seeds.specs.declared.CandidateSeed.{CandidateSeed}
use Rattle.seeds.specs.Merge.{keep}
use Rattle.seeds.proofs.MergeLaws.{keep_append}
use Rattle.score.specs.declared.outcome.Scoring.{Scoring}
use Rattle.score.specs.Reasons.{Outcome}
use Rattle.score.specs.Facts.{ScoredFacts}
use Rattle.score.specs.declared.best.Candidate.{Candidate}
use Rattle.score.specs.Best.{beats, chosen, best_of, candidate_of}
use Rattle.score.specs.Theorem.{HasNumber}
use Rattle.score.proofs.Order.{lower_beats, best_of_is_best, best_stays_unless_beaten_by_any, chosen_is_best}
use Rattle.score.specs.Floor.{floor_of}
use Rattle.score.proofs.FloorLaws.{floor_is_number, scored_not_below_floor}
use Rattle.book.specs.Calls.{Call}
use Rattle.book.specs.Book.{Inputs, Entry, Book, entries, no_seed, current, scored_of, run_best_of, with_waiting, with_entry, with_round, with_end, book_enter, left_in, after}
use Rattle.book.specs.Rounds.{up_to}
use Rattle.book.proofs.Cases.{case_result}
use Rattle.book.proofs.Moves.{entry, Stands, Closing, close_round_by, enter_by_round_end, enter_adds_entry, waiting_keeps_entries, Steps, calls_keep}
use Rattle.book.proofs.Made.{up_to_all, entries_up_to_this_round}
use Rattle.book.proofs.Good.{Good, book_not_over_where_seed_waits, calls_keep_good}
use Rattle.book.proofs.Simulation.{scored_of_append}

mem_of_drop : {A : Type 0} (d : A) (xs : List A) (k j : ℕ) → k ≤ j → j < length xs → Memᴰ (get_or xs j d) (drop k xs)
mem_of_drop d [] k j h l = absurd (omega arith)
mem_of_drop d (x ∷ xs) zero zero h l = Memᴰ.head refl
mem_of_drop d (x ∷ xs) zero (suc j) h l = Memᴰ.tail (mem_of_drop d xs zero j (omega arith) (omega arith))
mem_of_drop d (x ∷ xs) (suc k) zero h l = absurd (omega arith)
mem_of_drop d (x ∷ xs) (suc k) (suc j) h l = mem_of_drop d xs k j (omega arith) (omega arith)

module _ (i : Inputs) (b : Book) where
  -- ---- what is entered after the book b while its round lasts: outcomes of the seeds left
  record FromLeft (e : Entry) : Type 0 where
    this_round : e.round ≡ b.round
    listed : Memᴰ e.seed (left_in b)
    stands : Stands i e.seed.sensor e.outcome

  abbrev NewEntry : Entry → Type 0
  NewEntry e = (b.round < e.round) ⊎ FromLeft e

  -- a later book in the same round
  record SameRound (c : Book) : Type 0 where
    round_is : c.round ≡ b.round
    list_is : c.list ≡ b.list
    further : length b.answered ≤ length c.answered

  abbrev SameOrLaterRound : Book → Type 0
  SameOrLaterRound c = (b.round < c.round) ⊎ SameRound c

  pub record Since (c : Book) : Type 0 where
    new : List Entry
    entries_are : entries c ≡ entries b ++ new
    each : All NewEntry new
    stands : SameOrLaterRound c

  later_round_ge : (c : Book) → SameOrLaterRound c → b.round ≤ c.round
  later_round_ge c l = ⊎_elim (λ p. omega arith) (λ s. let e = s.round_is in omega arith) l

  end_keeps_later : (c : Book) → SameOrLaterRound c → SameOrLaterRound (with_end c)
  unfolding with_end
  end_keeps_later c (inl p) = inl p
  end_keeps_later c (inr s) = inr (record { round_is = s.round_is; list_is = s.list_is; further = s.further })

  next_round_later : (c : Book) (ss : List CandidateSeed) → SameOrLaterRound c → SameOrLaterRound (with_round c ss)
  unfolding with_round
  next_round_later c ss l = let p = later_round_ge c l in inl (omega arith)

  closing_keeps_later : Closing (λ k c. SameOrLaterRound c) SameOrLaterRound
  closing_keeps_later = record {
    ends = λ k c r l. end_keeps_later c l;
    skips = λ k c w e q l. next_round_later c [] l;
    opens = λ k c w s ss e q l. next_round_later c (s ∷ ss) l;
  }

  entry_keeps_later : (c : Book) (o : Outcome) → SameOrLaterRound c → SameOrLaterRound (with_entry c o)
  unfolding with_entry
  entry_keeps_later c o (inl p) = inl p
  entry_keeps_later c o (inr s) = inr (record { round_is = s.round_is; list_is = s.list_is; further = let x = length-append c.answered (entry c o ∷ []) in let y = s.further in omega arith })

  enter_keeps_later : (c : Book) (o : Outcome) → SameOrLaterRound c → SameOrLaterRound (book_enter c o)
  enter_keeps_later c o l = enter_by_round_end SameOrLaterRound c o (λ e. entry_keeps_later c o l) (λ e. close_round_by closing_keeps_later _ (with_entry c o) (entry_keeps_later c o l))

  waiting_keeps_later : (c : Book) → SameOrLaterRound c → SameOrLaterRound (with_waiting c)
  unfolding with_waiting
  waiting_keeps_later c (inl p) = inl p
  waiting_keeps_later c (inr s) = inr (record { round_is = s.round_is; list_is = s.list_is; further = s.further })

  entry_is_new : (c : Book) (o : Outcome) → length c.answered < length c.list → Stands i (current c).sensor o → SameOrLaterRound c → NewEntry (entry c o)
  entry_is_new c o r t (inl p) = inl p
  entry_is_new c o r t (inr s) = inr (record {
    this_round = s.round_is;
    listed = subst (λ (z : List CandidateSeed). Memᴰ (current c) (drop (length b.answered) z)) s.list_is (mem_of_drop no_seed c.list (length b.answered) (length c.answered) s.further r);
    stands = t;
  })

  enter_keeps_since : (c : Book) (o : Outcome) → c.over ≡ false → Stands c.inputs (current c).sensor o → Good i c → Since c → Since (book_enter c o)
  enter_keeps_since c o v t g h = record {
    new = h.new ++ entry c o ∷ [];
    entries_are = (enter_adds_entry c o).0 ∙ ap (λ (z : List Entry). z ++ entry c o ∷ []) h.entries_are ∙ append_assoc (entries b) h.new (entry c o ∷ []);
    each = all_append NewEntry h.new (entry c o ∷ []) h.each (entry_is_new c o (g.room v) (subst (λ (j : Inputs). Stands j (current c).sensor o) g.inputs_are t) h.stands, tt);
    stands = enter_keeps_later c o h.stands;
  }

  steps_keep_since : Steps (λ c. Good i c × Since c)
  steps_keep_since = record {
    calm = λ c q w. book_not_over_where_seed_waits i c q.0 w;
    awaits = λ c v q. (
      (calls_keep_good i).awaits c v q.0,
      record { new = q.1.new; entries_are = (waiting_keeps_entries c).0 ∙ q.1.entries_are; each = q.1.each; stands = waiting_keeps_later c q.1.stands },
    );
    enters_by = λ c o v t q. ((calls_keep_good i).enters_by c o v t q.0, enter_keeps_since c o v t q.0 q.1);
  }

  -- so after any calls
  pub calls_keep_since : (ds : List Call) → Good i b → Good i (after b ds) × Since (after b ds)
  calls_keep_since ds g =
      calls_keep steps_keep_since b ds
      (g, record { new = []; entries_are = sym (append-nil (entries b)); each = tt; stands = inr (record { round_is = refl; list_is = refl; further = omega arith }) })

  -- ---- the entries up to this round's end: those of b, and new ones for the seeds left
  entries_to_round_end_from_left : (es : List Entry) → All NewEntry es → All FromLeft (up_to b.round es)
  unfolding keep
  entries_to_round_end_from_left [] h = tt
  entries_to_round_end_from_left (e ∷ es) h =
      let r = entries_to_round_end_from_left es h.1 in
      ⊎_elim
      (λ p. simp (lt-leb e.round b.round p) r)
      (λ f. let q = f.this_round in let l : e.round ≤ b.round = omega arith in simp (le-leb e.round b.round l) (f, r))
      h.0

  -- ---- none of the new ones beats w, if the floor isn't below w's score
  module _ (w : Candidate) (number : HasNumber w) (high : lt (floor_of (left_in b)) w.score ≡ false) where
    left_seed_loses : (e : Entry) → FromLeft e → (m : Scoring) → e.outcome ≡ Ok m → beats (candidate_of e.number e.seed.sensor m) w ≡ false
    left_seed_loses e f m q =
        let v = candidate_of e.number e.seed.sensor m in
        let s : ScoredFacts e.seed.sensor i.center m = subst (Stands i e.seed.sensor) q f.stands in
        lower_beats v w s.score_number number
        ∙ not_below_trans m.score (floor_of (left_in b)) w.score (floor_is_number (left_in b)) (scored_not_below_floor (left_in b) f.listed i.center m s) high

    left_seeds_lose : (es : List Entry) → All FromLeft es → All (λ v. beats v w ≡ false) (scored_of es)
    unfolding scored_of
    left_seeds_lose [] h = tt
    left_seeds_lose (e ∷ es) h =
        let r = left_seeds_lose es h.1 in
        case_result e.outcome (λ m q. simp (scored_of, q) (left_seed_loses e h.0 m q, r)) (λ reason q. simp (scored_of, q) r)

  pub no_gain_keeps_best_to_round_end : Good i b → (w : Candidate) → run_best_of b ≡ chosen w → lt (floor_of (left_in b)) w.score ≡ false → (c : Book) → Since c
      → best_of (scored_of (up_to b.round (entries c))) ≡ run_best_of b
  unfolding run_best_of
  no_gain_keeps_best_to_round_end g w e high c s =
      let ks = up_to b.round s.new in
      let l = chosen_is_best (scored_of (entries b)) w e in
      let a : up_to b.round (entries c) ≡ entries b ++ ks =
      ap (up_to b.round) s.entries_are
      ∙ keep_append (λ x. leb x.round b.round) (entries b) s.new
      ∙ ap (λ (z : List Entry). z ++ ks) (up_to_all b.round (entries b) (entries_up_to_this_round b g.core.planned)) in
      ap (λ (z : List Entry). best_of (scored_of z)) a
      ∙ ap best_of (scored_of_append (entries b) ks)
      ∙ best_of_is_best (scored_of (entries b) ++ scored_of ks) w (best_stays_unless_beaten_by_any (scored_of (entries b)) w (scored_of ks) l (left_seeds_lose w l.number high ks (entries_to_round_end_from_left s.new s.each)))
      ∙ sym e
