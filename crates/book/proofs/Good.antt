-- The one invariant of the book: Next and Answer keep it. Assumes nothing.
use Rattle.std.proofs.Common.{ℕ, zero, suc, ◌+◌, ◌-◌, ◌*◌, ◌≤◌, ◌<◌, arith, ◌≡◌, refl, sym, ◌∙◌, ◌⊎◌, inl, inr, ⊎_elim, true, false, true≢false, List, [], ◌∷◌, ◌++◌, append_assoc, append-nil, ltb-true, ltb-false, length, get_or, length-append}
use Rattle.std.specs.Float.Ieee.{lt}
use Rattle.common.specs.Tests.{case}
use Rattle.common.specs.All.{all_append, all_right}
use Rattle.common.specs.Each.{All}
use Rattle.float.specs.Float.{is_finite}
use Rattle.float.specs.Literals.{half₆₄}
use Rattle.seeds.specs.declared.CandidateSeed.{CandidateSeed}
use Rattle.seeds.specs.Rules.{in_bound, untilted_y}
use Rattle.seeds.specs.AnyOffsets.{most_seeds}
use Rattle.score.specs.declared.outcome.Scoring.{Scoring}
use Rattle.score.specs.Reasons.{Outcome}
use Rattle.score.specs.Facts.{ScoredFacts}
use Rattle.score.specs.declared.best.Candidate.{Candidate}
use Rattle.score.specs.Best.{Chosen, nothing, chosen}
use Rattle.book.specs.Book.{Inputs, demand, Entry, Book, entries, no_seed, current, scored_of, round_best_of, run_best_of, or_else, list_around, with_waiting, with_entry, with_round, with_end, book_enter}
use Rattle.book.proofs.Cases.{case_result}
use Rattle.book.proofs.Moves.{entry, Stands, Closing, close_round_by, enter_by_round_end, Steps}
use Rattle.book.proofs.Planned.{Planned, waiting_keeps_planned, end_keeps_planned, entry_keeps_planned, next_round_planned}
use Rattle.book.proofs.Seeds.{Seeded, best_has_property_of_all, list_around_seeded, list_around_few, list_around_le_nine}
use Rattle.book.proofs.PerRound.{FewPerRound, few_per_round_of_next_round}
use Rattle.book.proofs.Made.{ListByRule, waiting_keeps_list_by_rule, end_keeps_list_by_rule, entry_keeps_list_by_rule, next_round_list_by_rule}

-- ---- entries and scored candidates of a run
pub record Proper (i : Inputs) (e : Entry) : Type 0 where
  pub seeded : Seeded i e.round e.seed
  pub stands : Stands i e.seed.sensor e.outcome

abbrev scoring_of : Candidate → Scoring
scoring_of w = record { camera = w.camera; mean = w.mean_reproj_error; score = w.score }

pub record ProperCandidate (i : Inputs) (w : Candidate) : Type 0 where
  pub within : in_bound i.max w.sensor ≡ true
  pub untilted : i.one_axis ≡ true → untilted_y w.sensor ≡ true
  pub facts : ScoredFacts w.sensor i.center (scoring_of w)

pub scored_of_proper_entries : (i : Inputs) (es : List Entry) → All (Proper i) es → All (ProperCandidate i) (scored_of es)
unfolding scored_of
scored_of_proper_entries i [] h = tt
scored_of_proper_entries i (e ∷ es) h =
    let r = scored_of_proper_entries i es h.1 in
    let s = h.0.stands in
    let d = h.0.seeded in
    case_result e.outcome (λ g q. simp (scored_of, q) (record { within = d.within; untilted = d.untilted; facts = rw q at s }, r)) (λ reason q. simp (scored_of, q) r)

-- the entries are numbered from k
abbrev pub NumberedFrom : ℕ → List Entry → Type 0
NumberedFrom k [] = Unit {0}
NumberedFrom k (e ∷ es) = (e.number ≡ k) × NumberedFrom (suc k) es

-- ---- the invariant
-- the inputs' limits, which Start checks
pub record Sized (i : Inputs) : Type 0 where
  pub few_rounds : i.rounds ≤ 16
  pub least : 54 ≤ demand i
  pub most : demand i ≤ 3072
  pub finite_bound : is_finite i.max ≡ true
  pub small_bound : lt half₆₄ i.max ≡ false
  pub small_share : i.share ≤ 100

-- holds of a book also between an answer and the end of its round
pub record Core (b : Book) : Type 0 where
  pub sized : Sized b.inputs
  pub in_rounds : b.round ≤ b.inputs.rounds
  -- at most 512 seeds in round 0, and nine in each later round
  pub few : length b.earlier + length b.list ≤ 512 + 9 * b.round
  pub fits : 6 * length b.list ≤ demand b.inputs
  pub seeds : All (Seeded b.inputs b.round) b.list
  pub proper : All (Proper b.inputs) (entries b)
  pub numbered : NumberedFrom 0 (entries b)
  pub planned : Planned b
  pub per_round : FewPerRound b
  pub made : ListByRule b

-- holds of a book between the calls: a seed is left unless the run is over, and none waits once it is; a run that is
-- over has had every round, or nothing was scored
pub record Good (i : Inputs) (b : Book) : Type 0 where
  pub inputs_are : b.inputs ≡ i
  pub core : Core b
  pub room : b.over ≡ false → length b.answered < length b.list
  pub full : b.over ≡ true → length b.answered ≡ length b.list
  pub calm : b.over ≡ true → b.waits ≡ false
  pub finished : b.over ≡ true → (run_best_of b ≡ nothing) ⊎ (b.round ≡ b.inputs.rounds)

pub book_not_over_where_seed_waits : (i : Inputs) (b : Book) → Good i b → b.waits ≡ true → b.over ≡ false
book_not_over_where_seed_waits i b g w = case b.over (λ o. absurd (true≢false (sym w ∙ g.calm o))) (λ o. o)

-- no more seeds are answered than the list has
pub answered_le_list : (i : Inputs) (b : Book) → Good i b → length b.answered ≤ length b.list
answered_le_list i b g = case b.over (λ o. let e = g.full o in omega arith) (λ o. let e = g.room o in omega arith)

-- ---- Next
waiting_keeps_core : (b : Book) → Core b → Core (with_waiting b)
unfolding with_waiting
waiting_keeps_core b h = record {
  sized = h.sized;
  in_rounds = h.in_rounds;
  few = h.few;
  fits = h.fits;
  seeds = h.seeds;
  proper = h.proper;
  numbered = h.numbered;
  planned = unfold with_waiting in waiting_keeps_planned b h.planned;
  per_round = record { listed = h.per_round.listed; before = h.per_round.before };
  made = unfold with_waiting in waiting_keeps_list_by_rule b h.made;
}

waiting_keeps_good : (i : Inputs) (b : Book) → b.over ≡ false → Good i b → Good i (with_waiting b)
unfolding with_waiting
waiting_keeps_good i b o g = record {
  inputs_are = g.inputs_are;
  core = waiting_keeps_core b g.core;
  room = g.room;
  full = g.full;
  calm = λ e. absurd (true≢false (sym e ∙ o));
  finished = λ e. absurd (true≢false (sym e ∙ o));
}

-- ---- the end of a round: all its seeds are answered, and k further rounds are asked for
record Ending (i : Inputs) (k : ℕ) (b : Book) : Type 0 where
  inputs_are : b.inputs ≡ i
  core : Core b
  full : length b.answered ≡ length b.list
  going : b.over ≡ false
  left : b.round + k ≡ b.inputs.rounds

end_keeps_core : (b : Book) → Core b → Core (with_end b)
unfolding with_end
end_keeps_core b h = record {
  sized = h.sized;
  in_rounds = h.in_rounds;
  few = h.few;
  fits = h.fits;
  seeds = h.seeds;
  proper = h.proper;
  numbered = h.numbered;
  planned = end_keeps_planned b h.planned;
  per_round = record { listed = h.per_round.listed; before = h.per_round.before };
  made = end_keeps_list_by_rule b h.made;
}

nothing_of_or_else : (a c : Chosen) → or_else a c ≡ nothing → c ≡ nothing
nothing_of_or_else nothing c e = e
nothing_of_or_else (chosen w) c e = let z : ◌≡◌ {A = ℕ} 0 1 = cc in absurd (omega arith)

ended_book_good : (i : Inputs) (k : ℕ) (b : Book) → (k ≡ 0) ⊎ (or_else (round_best_of b) (run_best_of b) ≡ nothing) → Ending i k b → Good i (with_end b)
unfolding with_end run_best_of
ended_book_good i k b r e = record {
  inputs_are = e.inputs_are;
  core = end_keeps_core b e.core;
  room = λ o. absurd (true≢false o);
  full = λ o. e.full;
  calm = λ o. refl;
  finished = λ o. ⊎_elim (λ z. inr (let l = e.left in omega arith)) (λ n. inl (nothing_of_or_else (round_best_of b) (run_best_of b) n)) r;
}

-- the candidate that the next list lies around
chosen_of_or_else : (a c : Chosen) (w : Candidate) → or_else a c ≡ chosen w → (a ≡ chosen w) ⊎ (c ≡ chosen w)
chosen_of_or_else nothing c w e = inr e
chosen_of_or_else (chosen v) c w e = inl e

next_centre_proper : (b : Book) (w : Candidate) → All (Proper b.inputs) (entries b) → or_else (round_best_of b) (run_best_of b) ≡ chosen w → ProperCandidate b.inputs w
unfolding round_best_of run_best_of
next_centre_proper b w h e =
    let P = Proper b.inputs in
    let Q = ProperCandidate b.inputs in
    ⊎_elim
    (λ r. best_has_property_of_all Q (scored_of b.answered) w (scored_of_proper_entries b.inputs b.answered (all_right P b.earlier b.answered h)) r)
    (λ r. best_has_property_of_all Q (scored_of (entries b)) w (scored_of_proper_entries b.inputs (entries b) h) r)
    (chosen_of_or_else (round_best_of b) (run_best_of b) w e)

next_round_core : (i : Inputs) (k : ℕ) (b : Book) (w : Candidate) (ss : List CandidateSeed) → or_else (round_best_of b) (run_best_of b) ≡ chosen w → list_around b.inputs (suc b.round) w ≡ ss
    → Ending i (suc k) b → Core (with_round b ss)
unfolding with_round
next_round_core i k b w ss c q e =
    let h = e.core in
    let p = h.few in
    let f = e.full in
    let l = e.left in
    let d = h.sized.least in
    let n : length ss ≤ 9 = rw q at (list_around_le_nine b.inputs (suc b.round) w) in
    let most : length ss ≤ most_seeds b.inputs.one_axis = rw q at (list_around_few b.inputs (suc b.round) w) in
    let m = length-append b.earlier b.answered in
    record {
      sized = h.sized;
      in_rounds = omega arith;
      few = omega arith;
      fits = omega arith;
      seeds = rw q at (list_around_seeded b.inputs (suc b.round) w (next_centre_proper b w h.proper c).untilted);
      proper = rw append-nil h.proper;
      numbered = rw append-nil h.numbered;
      planned = next_round_planned b w ss h.planned f c q;
      per_round = unfold with_round in few_per_round_of_next_round b ss h.per_round h.planned f most;
      made = next_round_list_by_rule b w ss h.planned c q;
    }

empty_round_ending : (i : Inputs) (k : ℕ) (b : Book) → Core (with_round b []) → Ending i (suc k) b → Ending i k (with_round b [])
unfolding with_round
empty_round_ending i k b h e = record { inputs_are = e.inputs_are; core = h; full = refl; going = e.going; left = let l = e.left in omega arith }

opened_round_good : (i : Inputs) (k : ℕ) (b : Book) (s : CandidateSeed) (ss : List CandidateSeed) → Core (with_round b (s ∷ ss)) → Ending i (suc k) b → Good i (with_round b (s ∷ ss))
unfolding with_round
opened_round_good i k b s ss h e = record {
  inputs_are = e.inputs_are;
  core = h;
  room = λ o. omega arith;
  full = λ o. absurd (true≢false (sym o ∙ e.going));
  calm = λ o. refl;
  finished = λ o. absurd (true≢false (sym o ∙ e.going));
}

closed_round_good : (i : Inputs) → Closing (Ending i) (Good i)
closed_round_good i = record {
  ends = ended_book_good i;
  skips = λ k b w c q e. empty_round_ending i k b (next_round_core i k b w [] c q e) e;
  opens = λ k b w s ss c q e. opened_round_good i k b s ss (next_round_core i k b w (s ∷ ss) c q e) e;
}

-- ---- an outcome is entered
pub get_or_of_all : {A : Type 0} (P : A → Type 0) (d : A) (xs : List A) (k : ℕ) → All P xs → k < length xs → P (get_or xs k d)
get_or_of_all P d [] k h l = absurd (omega arith)
get_or_of_all P d (x ∷ xs) zero h l = h.0
get_or_of_all P d (x ∷ xs) (suc k) h l = get_or_of_all P d xs k h.1 (omega arith)

pub current_seeded : (b : Book) → Core b → length b.answered < length b.list → Seeded b.inputs b.round (current b)
current_seeded b h l = get_or_of_all (Seeded b.inputs b.round) no_seed b.list (length b.answered) h.seeds l

numbered_from_snoc : (k : ℕ) (es : List Entry) (e : Entry) → NumberedFrom k es → e.number ≡ k + length es → NumberedFrom k (es ++ e ∷ [])
numbered_from_snoc k [] e h n = (omega arith, tt)
numbered_from_snoc k (d ∷ es) e h n = (h.0, numbered_from_snoc (suc k) es e h.1 (omega arith))

module _ (b : Book) (o : Outcome) where
  entry_keeps_core : Core b → length b.answered < length b.list → Stands b.inputs (current b).sensor o → Core (with_entry b o)
  unfolding with_entry
  entry_keeps_core h r s =
      let e : entries (with_entry b o) ≡ entries b ++ entry b o ∷ [] = sym (append_assoc b.earlier b.answered (entry b o ∷ [])) in
      let own : Proper b.inputs (entry b o) = record { seeded = current_seeded b h r; stands = s } in
      record {
        sized = h.sized;
        in_rounds = h.in_rounds;
        few = h.few;
        fits = h.fits;
        seeds = h.seeds;
        proper = rw e (all_append (Proper b.inputs) (entries b) (entry b o ∷ []) h.proper (own, tt));
        numbered = rw e (numbered_from_snoc 0 (entries b) (entry b o) h.numbered (omega arith));
        planned = entry_keeps_planned b o h.planned r;
        per_round = record { listed = h.per_round.listed; before = h.per_round.before };
        made = entry_keeps_list_by_rule b o h.made;
      }

  entry_adds_one_answered : ((with_entry b o).over ≡ b.over) × ((with_entry b o).inputs ≡ b.inputs) × (length (with_entry b o).list ≡ length b.list) × (length (with_entry b o).answered ≡ length b.answered + 1) × ((with_entry b o).waits ≡ false)
  unfolding with_entry
  entry_adds_one_answered = (refl, refl, refl, length-append b.answered (entry b o ∷ []), refl)

  enter_keeps_good : (i : Inputs) → b.over ≡ false → Stands b.inputs (current b).sensor o → Good i b → Good i (book_enter b o)
  enter_keeps_good i v s g =
      let c = with_entry b o in
      let h = entry_keeps_core g.core (g.room v) s in
      let over : c.over ≡ false = entry_adds_one_answered.0 ∙ v in
      enter_by_round_end (Good i) b o
      (λ e. record {
        inputs_are = entry_adds_one_answered.1 ∙ g.inputs_are;
        core = h;
        room = λ p. ltb-true (length c.answered) (length c.list) e;
        full = λ p. absurd (true≢false (sym p ∙ over));
        calm = λ p. entry_adds_one_answered.4;
        finished = λ p. absurd (true≢false (sym p ∙ over));
      })
      (λ e.
      let x = ltb-false (length c.answered) (length c.list) e in
      let y = entry_adds_one_answered.2 in
      let z = entry_adds_one_answered.3 in
      let r = g.room v in
      let n = h.in_rounds in
      close_round_by (closed_round_good i) (c.inputs.rounds - c.round) c (record { inputs_are = entry_adds_one_answered.1 ∙ g.inputs_are; core = h; full = omega arith; going = over; left = omega arith }))

-- ---- so Next and Answer keep the invariant
pub calls_keep_good : (i : Inputs) → Steps (Good i)
calls_keep_good i = record { calm = book_not_over_where_seed_waits i; awaits = waiting_keeps_good i; enters_by = λ b o v s g. enter_keeps_good b o i v s g }
