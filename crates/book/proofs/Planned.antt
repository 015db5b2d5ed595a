-- The book's lists and entries are those that the rules name, round by round. Assumes nothing.
use Rattle.std.proofs.Common.{ℕ, zero, suc, ◌+◌, ◌<◌, arith, ◌≡◌, refl, sym, ap, ◌∙◌, List, [], ◌∷◌, ◌++◌, map, append-nil, eq-eqb, ne_eqb, eqb, length, get_or, length-append}
use mathlib.Core.List.{map-append}
use lib.ListN.{length-map}
use Rattle.common.specs.Tests.{case}
use Rattle.common.specs.All.{all_append, all_map}
use Rattle.common.specs.Each.{All}
use Rattle.seeds.specs.declared.CandidateSeed.{CandidateSeed}
use Rattle.seeds.specs.Layout.{six}
use Rattle.score.specs.Reasons.{Outcome}
use Rattle.score.specs.declared.best.Candidate.{Candidate}
use Rattle.score.specs.Best.{chosen}
use Rattle.book.specs.Book.{Inputs, Entry, Book, entries, number, no_seed, round_best_of, run_best_of, or_else, first_list, list_around, opened, with_waiting, with_entry, with_round, with_end}
use Rattle.book.specs.Trace.{Handing, handing_of}
use Rattle.book.specs.Named.{outcomes_in, entered_all, following, Plan, plan, handings_of, handings}
use Rattle.book.proofs.Moves.{entry}

-- ---- the outcomes of a round
outcomes_in_append : (xs ys : List Entry) (r : ℕ) → outcomes_in (xs ++ ys) r ≡ outcomes_in xs r ++ outcomes_in ys r
unfolding outcomes_in
outcomes_in_append [] ys r = refl
outcomes_in_append (e ∷ xs) ys r =
    case (eqb e.round r)
    (λ t. simp (outcomes_in, t) (ap (λ (z : List Outcome). e.outcome ∷ z) (outcomes_in_append xs ys r)))
    (λ t. simp (outcomes_in, t) (outcomes_in_append xs ys r))

outcomes_in_none : (xs : List Entry) (r : ℕ) → All (λ e. e.round ≡ r → ⊥) xs → outcomes_in xs r ≡ []
unfolding outcomes_in
outcomes_in_none [] r h = refl
outcomes_in_none (e ∷ xs) r h = simp (outcomes_in, ne_eqb e.round r h.0) (outcomes_in_none xs r h.1)

outcomes_in_all : (xs : List Entry) (r : ℕ) → All (λ e. e.round ≡ r) xs → outcomes_in xs r ≡ map (λ e. e.outcome) xs
unfolding outcomes_in
outcomes_in_all [] r h = refl
outcomes_in_all (e ∷ xs) r h = simp (outcomes_in, eq-eqb e.round r h.0) (ap (λ (z : List Outcome). e.outcome ∷ z) (outcomes_in_all xs r h.1))

-- ---- a plan depends on the outcomes of the rounds before alone
module _ (i : Inputs) (os ps : ℕ → List Outcome) where
  plan_of_same_outcomes : (r : ℕ) → ((k : ℕ) → k < r → os k ≡ ps k) → plan i os r ≡ plan i ps r
  unfolding plan
  plan_of_same_outcomes zero h = refl
  plan_of_same_outcomes (suc r) h = rw (h r (omega arith), plan_of_same_outcomes r (λ k l. h k (omega arith)))

  handings_of_same_outcomes : (r : ℕ) → ((k : ℕ) → k < r → os k ≡ ps k) → handings i os r ≡ handings i ps r
  unfolding handings
  handings_of_same_outcomes zero h = refl
  handings_of_same_outcomes (suc r) h = rw (handings_of_same_outcomes r (λ k l. h k (omega arith)), ap (λ (p : Plan). p.list) (plan_of_same_outcomes r (λ k l. h k (omega arith))))

-- ---- a round's entries
entered_all_no_outcomes : (r n : ℕ) (ss : List CandidateSeed) → entered_all r n ss [] ≡ []
unfolding entered_all
entered_all_no_outcomes r n [] = refl
entered_all_no_outcomes r n (s ∷ ss) = refl

entered_all_snoc : (r n : ℕ) (ss : List CandidateSeed) (os : List Outcome) (o : Outcome) → length os < length ss
    → entered_all r n ss (os ++ o ∷ []) ≡ entered_all r n ss os ++ record { number = n + length os; round = r; seed = get_or ss (length os) no_seed; outcome = o } ∷ []
unfolding entered_all
entered_all_snoc r n [] os o h = absurd (omega arith)
entered_all_snoc r n (s ∷ ss) [] o h = let e : n + 0 ≡ n = omega arith in rw (e, entered_all_no_outcomes r (suc n) ss)
entered_all_snoc r n (s ∷ ss) (p ∷ os) o h =
    let e : n + suc (length os) ≡ suc n + length os = omega arith in
    rw e (ap (λ (z : List Entry). record { number = n; round = r; seed = s; outcome = p } ∷ z) (entered_all_snoc r (suc n) ss os o (omega arith)))

-- the seeds of a whole round, as they are handed out
handings_of_entered_all : (r n : ℕ) (ss : List CandidateSeed) (os : List Outcome) → length os ≡ length ss → handings_of r n ss ≡ map handing_of (entered_all r n ss os)
unfolding entered_all handings_of
handings_of_entered_all r n [] os h = refl
handings_of_entered_all r n (s ∷ ss) [] h = absurd (omega arith)
handings_of_entered_all r n (s ∷ ss) (o ∷ os) h = ap (λ (z : List Handing). record { round = r; number = n; part = six s } ∷ z) (handings_of_entered_all r (suc n) ss os (omega arith))

-- ---- what holds of every book that follows an accepted Start
pub record Planned (b : Book) : Type 0 where
  pub past : All (λ e. e.round < b.round) b.earlier
  pub this : All (λ e. e.round ≡ b.round) b.answered
  pub before_is : b.earlier ≡ (plan b.inputs (outcomes_in b.earlier) b.round).before
  pub list_is : b.list ≡ (plan b.inputs (outcomes_in b.earlier) b.round).list
  pub so_far : b.answered ≡ entered_all b.round (length b.earlier) b.list (map (λ e. e.outcome) b.answered)
  pub handings_are : map handing_of b.earlier ≡ handings b.inputs (outcomes_in b.earlier) b.round

-- the rounds up to this one, when all seeds of this one are answered
pub record PlannedThrough (b : Book) : Type 0 where
  pub before_is : entries b ≡ (plan b.inputs (outcomes_in (entries b)) (suc b.round)).before
  pub list_is : following b.inputs b.round b.answered (entries b) ≡ (plan b.inputs (outcomes_in (entries b)) (suc b.round)).list
  pub handings_are : map handing_of (entries b) ≡ handings b.inputs (outcomes_in (entries b)) (suc b.round)

module _ (b : Book) (h : Planned b) where
  -- this round's outcomes don't change those of earlier rounds
  earlier_outcomes_same : (k : ℕ) → k < b.round → outcomes_in (entries b) k ≡ outcomes_in b.earlier k
  earlier_outcomes_same k l =
      outcomes_in_append b.earlier b.answered k
      ∙ rw (outcomes_in_none b.answered k (all_map (λ e. e.round ≡ b.round) (λ e. e.round ≡ k → ⊥) (λ e p q. omega arith) b.answered h.this)) (append-nil (outcomes_in b.earlier k))

  this_round_outcomes : outcomes_in (entries b) b.round ≡ map (λ e. e.outcome) b.answered
  this_round_outcomes =
      outcomes_in_append b.earlier b.answered b.round
      ∙ rw (outcomes_in_none b.earlier b.round (all_map (λ e. e.round < b.round) (λ e. e.round ≡ b.round → ⊥) (λ e p q. omega arith) b.earlier h.past)) (outcomes_in_all b.answered b.round h.this)

  plan_of_all_entries : plan b.inputs (outcomes_in (entries b)) b.round ≡ plan b.inputs (outcomes_in b.earlier) b.round
  plan_of_all_entries = plan_of_same_outcomes b.inputs (outcomes_in (entries b)) (outcomes_in b.earlier) b.round earlier_outcomes_same

  handings_of_all_entries : handings b.inputs (outcomes_in (entries b)) b.round ≡ map handing_of b.earlier
  handings_of_all_entries = handings_of_same_outcomes b.inputs (outcomes_in (entries b)) (outcomes_in b.earlier) b.round earlier_outcomes_same ∙ sym h.handings_are

  plan_before_is_earlier : (plan b.inputs (outcomes_in (entries b)) b.round).before ≡ b.earlier
  plan_before_is_earlier = ap (λ (p : Plan). p.before) plan_of_all_entries ∙ sym h.before_is

  plan_list_is_list : (plan b.inputs (outcomes_in (entries b)) b.round).list ≡ b.list
  plan_list_is_list = ap (λ (p : Plan). p.list) plan_of_all_entries ∙ sym h.list_is

  planned_entries_are_answered : entered_all b.round (length (plan b.inputs (outcomes_in (entries b)) b.round).before) (plan b.inputs (outcomes_in (entries b)) b.round).list (outcomes_in (entries b) b.round) ≡ b.answered
  planned_entries_are_answered = rw (plan_before_is_earlier, plan_list_is_list, this_round_outcomes) (sym h.so_far)

  handed_seeds_are_answered : length b.answered ≡ length b.list → handings_of b.round (length b.earlier) b.list ≡ map handing_of b.answered
  handed_seeds_are_answered c =
      handings_of_entered_all b.round (length b.earlier) b.list (map (λ e. e.outcome) b.answered) (length-map b.answered (λ e. e.outcome) ∙ c)
      ∙ ap (map handing_of) (sym h.so_far)

  planned_through_before : entries b ≡ (plan b.inputs (outcomes_in (entries b)) (suc b.round)).before
  unfolding plan
  planned_through_before = rw (planned_entries_are_answered, plan_before_is_earlier)

  planned_through_list : following b.inputs b.round b.answered (entries b) ≡ (plan b.inputs (outcomes_in (entries b)) (suc b.round)).list
  unfolding plan
  planned_through_list = rw (planned_entries_are_answered, plan_before_is_earlier)

  planned_through_handings : length b.answered ≡ length b.list → map handing_of (entries b) ≡ handings b.inputs (outcomes_in (entries b)) (suc b.round)
  unfolding handings
  planned_through_handings c = rw (handings_of_all_entries, plan_list_is_list, length-map b.earlier handing_of, handed_seeds_are_answered c) (map-append handing_of b.earlier b.answered)

  pub answered_round_planned_through : length b.answered ≡ length b.list → PlannedThrough b
  answered_round_planned_through c = record { before_is = planned_through_before; list_is = planned_through_list; handings_are = planned_through_handings c }

-- ---- the steps that keep it
pub waiting_keeps_planned : (b : Book) → Planned b → Planned (with_waiting b)
unfolding with_waiting
waiting_keeps_planned b h = record { past = h.past; this = h.this; before_is = h.before_is; list_is = h.list_is; so_far = h.so_far; handings_are = h.handings_are }

pub end_keeps_planned : (b : Book) → Planned b → Planned (with_end b)
unfolding with_end
end_keeps_planned b h = record { past = h.past; this = h.this; before_is = h.before_is; list_is = h.list_is; so_far = h.so_far; handings_are = h.handings_are }

entry_keeps_answered_planned : (b : Book) (o : Outcome) → Planned b → length b.answered < length b.list
    → b.answered ++ entry b o ∷ [] ≡ entered_all b.round (length b.earlier) b.list (map (λ e. e.outcome) (b.answered ++ entry b o ∷ []))
entry_keeps_answered_planned b o h r =
    let os = map (λ (e : Entry). e.outcome) b.answered in
    let m : length os ≡ length b.answered = length-map b.answered (λ e. e.outcome) in
    let n : number b ≡ length b.earlier + length b.answered = length-append b.earlier b.answered in
    let at : Entry = record { number = length b.earlier + length os; round = b.round; seed = get_or b.list (length os) no_seed; outcome = o } in
    let same : at ≡ entry b o = rw (m, n) in
    let split : map (λ e. e.outcome) (b.answered ++ entry b o ∷ []) ≡ os ++ o ∷ [] = map-append (λ e. e.outcome) b.answered (entry b o ∷ []) in
    sym (ap (entered_all b.round (length b.earlier) b.list) split
    ∙ entered_all_snoc b.round (length b.earlier) b.list os o (rw m r)
    ∙ ap (λ (z : List Entry). z ++ at ∷ []) (sym h.so_far)
    ∙ ap (λ (z : Entry). b.answered ++ z ∷ []) same)

pub entry_keeps_planned : (b : Book) (o : Outcome) → Planned b → length b.answered < length b.list → Planned (with_entry b o)
unfolding with_entry
entry_keeps_planned b o h r = record {
  past = h.past;
  this = all_append (λ e. e.round ≡ b.round) b.answered (entry b o ∷ []) h.this (refl, tt);
  before_is = h.before_is;
  list_is = h.list_is;
  so_far = entry_keeps_answered_planned b o h r;
  handings_are = h.handings_are;
}

following_round_planned : (b : Book) → Planned b → length b.answered ≡ length b.list → Planned (with_round b (following b.inputs b.round b.answered (entries b)))
unfolding with_round
following_round_planned b h c =
    let d = answered_round_planned_through b h c in
    record {
      past = all_append (λ e. e.round < suc b.round) b.earlier b.answered
          (all_map (λ e. e.round < b.round) (λ e. e.round < suc b.round) (λ e p. omega arith) b.earlier h.past)
          (all_map (λ e. e.round ≡ b.round) (λ e. e.round < suc b.round) (λ e p. omega arith) b.answered h.this);
      this = tt;
      before_is = d.before_is;
      list_is = d.list_is;
      so_far = sym (entered_all_no_outcomes (suc b.round) (length (entries b)) (following b.inputs b.round b.answered (entries b)));
      handings_are = d.handings_are;
    }

following_is_list_around : (b : Book) (w : Candidate) → or_else (round_best_of b) (run_best_of b) ≡ chosen w → following b.inputs b.round b.answered (entries b) ≡ list_around b.inputs (suc b.round) w
unfolding following round_best_of run_best_of
following_is_list_around b w e = simp (following, e)

pub next_round_planned : (b : Book) (w : Candidate) (ss : List CandidateSeed) → Planned b → length b.answered ≡ length b.list → or_else (round_best_of b) (run_best_of b) ≡ chosen w
    → list_around b.inputs (suc b.round) w ≡ ss → Planned (with_round b ss)
next_round_planned b w ss h c e q =
    let z : following b.inputs b.round b.answered (entries b) ≡ ss = following_is_list_around b w e ∙ q in
    rw z at (following_round_planned b h c)

pub opened_planned : (i : Inputs) → Planned (opened i)
unfolding opened plan handings
opened_planned i = record { past = tt; this = tt; before_is = refl; list_is = refl; so_far = sym (entered_all_no_outcomes 0 0 (first_list i)); handings_are = refl }
