-- What the reply of Stop means in a run. Assumes nothing.
use Rattle.std.proofs.Common.{ℕ, zero, suc, ◌≤◌, ◌<◌, arith, ◌≡◌, refl, sym, ap, ◌∙◌, ◌↔◌, true, false, cond, true≢false, List, [], ◌∷◌, ◌++◌, ltb, length, take, drop, drop_of_length-le, Float}
use Rattle.std.specs.Float.Ieee.{lt}
use borrow.Author.Tests.{not-true}
use Rattle.common.specs.Tests.{case}
use Rattle.std.specs.Prelude.{Option, None, Result, Ok, Err}
use Rattle.common.specs.declared.Refusal.{Refusal}
use Rattle.common.specs.declared.Refusal.TheVariants.{ListShortened}
use Rattle.seeds.specs.declared.CandidateSeed.{CandidateSeed}
use Rattle.score.specs.declared.best.Candidate.{Candidate}
use Rattle.score.specs.Best.{Chosen, nothing, chosen, best_of, no_best, best_candidate, held}
use Rattle.score.specs.Floor.{floor_of}
use Rattle.search.specs.declared.stop.Outlook.{Outlook}
use Rattle.search.specs.Stop.{outlook_of, stop_def}
use Rattle.book.specs.Calls.{Call}
use Rattle.book.specs.Book.{Inputs, demand, Entry, Book, entries, scored_of, run_best_of, left_in, book_call, after}
use Rattle.book.specs.Rounds.{up_to}
use Rattle.book.specs.Trace.{all_answers, run_after, list_after}
use Rattle.book.specs.Stop.{NothingGained, Stops}
use Rattle.book.proofs.Made.{up_to_all, entries_up_to_this_round}
use Rattle.book.proofs.Good.{Good}
use Rattle.book.specs.RunOf.{run_of}
use Rattle.book.proofs.RunOf.{State, run_over, run_round, run_run_best}
use Rattle.book.proofs.Simulation.{stop_def_of_run}
use Rattle.book.proofs.Walks.{walks}
use Rattle.book.proofs.Stopping.{calls_keep_since, no_gain_keeps_best_to_round_end}

-- ---- two lists of calls, one after the other
pub after_append : (b : Book) (cs ds : List Call) → after b (cs ++ ds) ≡ after (after b cs) ds
unfolding after
after_append b [] ds = refl
after_append b (c ∷ cs) ds = after_append (book_call b c).book cs ds

-- ---- what the reply says
outlook_where_long_enough : (n : ℕ) (c : Chosen) (ss : List CandidateSeed) (d : ℕ) (o : Outlook) → cond (ltb n d) (Err ListShortened) (Ok (outlook_of (best_candidate (held c)) ss)) ≡ Ok o → outlook_of (best_candidate (held c)) ss ≡ o
outlook_where_long_enough n c ss d o h =
    case (ltb n d)
    (λ s. let k : ◌≡◌ {A = Result Outlook Refusal} (Err ListShortened) (Ok o) = simp s at h in cc)
    (λ s. let k : ◌≡◌ {A = Result Outlook Refusal} (Ok (outlook_of (best_candidate (held c)) ss)) (Ok o) = simp s at h in cc)

pub record GainsNothing (c : Chosen) (ss : List CandidateSeed) : Type 0 where
  pub best : Candidate
  pub is_best : c ≡ chosen best
  pub high : lt (floor_of ss) best.score ≡ false

no_gain_gains_nothing : (c : Chosen) (ss : List CandidateSeed) → (outlook_of (best_candidate (held c)) ss).no_gain ≡ true → GainsNothing c ss
unfolding outlook_of no_best
no_gain_gains_nothing c [] h = absurd (true≢false (sym h))
no_gain_gains_nothing nothing (s ∷ ss) h = absurd (true≢false (sym h))
no_gain_gains_nothing (chosen w) (s ∷ ss) h = record { best = w; is_best = refl; high = not-true (lt (floor_of (s ∷ ss)) w.score) h }

-- nothing is left exactly where the run is over
no_floor_iff_none_left : (b : Option Candidate) (ss : List CandidateSeed) → ((outlook_of b ss).floor ≡ None) ↔ (ss ≡ [])
unfolding outlook_of
no_floor_iff_none_left b [] = ((λ h. refl), (λ h. refl))
no_floor_iff_none_left b (s ∷ ss) = ((λ h. cc), (λ h. let z : ◌≡◌ {A = ℕ} 0 1 = cc in absurd (omega arith)))

drop_within_not_empty : {A : Type 0} (k : ℕ) (xs : List A) → k < length xs → drop k xs ≡ [] → ⊥
drop_within_not_empty k [] h e = omega arith
drop_within_not_empty zero (x ∷ xs) h e = let z : ◌≡◌ {A = ℕ} 0 1 = cc in omega arith
drop_within_not_empty (suc k) (x ∷ xs) h e = drop_within_not_empty k xs (omega arith) e

none_left_iff_over : (i : Inputs) (b : Book) → Good i b → (left_in b ≡ []) ↔ (b.over ≡ true)
none_left_iff_over i b g = (
  (λ e. case b.over (λ o. o) (λ o. absurd (drop_within_not_empty (length b.answered) b.list (g.room o) e))),
  (λ o. let q = g.full o in let l : length b.list ≤ length b.answered = omega arith in drop_of_length-le b.list l),
)

-- ---- the book's best after further calls
best_to_round_end_after_calls : (i : Inputs) (b : Book) (ds : List Call) → Good i b → GainsNothing (run_best_of b) (left_in b) → best_of (scored_of (up_to b.round (entries (after b ds)))) ≡ run_best_of b
best_to_round_end_after_calls i b ds g h = no_gain_keeps_best_to_round_end i b g h.best h.is_best h.high (after b ds) (calls_keep_since i b ds g).1

run_best_stays_in_round : (i : Inputs) (b : Book) (ds : List Call) → Good i b → GainsNothing (run_best_of b) (left_in b) → (after b ds).round ≡ b.round → run_best_of (after b ds) ≡ run_best_of b
run_best_stays_in_round i b ds g h e =
    let c = after b ds in
    let z : up_to b.round (entries c) ≡ entries c = ap (λ (r : ℕ). up_to r (entries c)) (sym e) ∙ up_to_all c.round (entries c) (entries_up_to_this_round c (calls_keep_since i b ds g).0.core.planned) in
    whole c z ∙ best_to_round_end_after_calls i b ds g h
  where
    whole : (c : Book) → up_to b.round (entries c) ≡ entries c → run_best_of c ≡ best_of (scored_of (up_to b.round (entries c)))
    whole c z = unfold run_best_of in ap (λ (es : List Entry). best_of (scored_of es)) (sym z)

-- ---- in a run
module _ (i : Inputs) (b : Book) (l : List Float) (cs : List Call) (t : State i b l) where
  nothing_gained_after_calls : (ds : List Call) → GainsNothing (run_best_of (after b cs)) (left_in (after b cs)) → NothingGained (entries b) (run_of b) l cs ds
  nothing_gained_after_calls ds h =
      let c = after b cs in
      let w = walks i b l cs t in
      let v = walks i b l (cs ++ ds) t in
      let g = w.state.good in
      let all : all_answers (entries b) (run_of b) l (cs ++ ds) ≡ entries (after c ds) = v.same_entries ∙ ap entries (after_append b cs ds) in
      let run : run_after (run_of b) l (cs ++ ds) ≡ run_of (after c ds) = v.run_is ∙ ap run_of (after_append b cs ds) in
      record {
        up_to_round = rw (w.run_is, all, w.same_entries, run_round c) (best_to_round_end_after_calls i c ds g h ∙ best_is c);
        best_stays = rw (w.run_is, run, run_round (after c ds), run_round c, run_run_best (after c ds), run_run_best c) (λ e. ap held (run_best_stays_in_round i c ds g h e));
      }
    where
      best_is : (b : Book) → run_best_of b ≡ best_of (scored_of (entries b))
      best_is b = unfold run_best_of in refl

  pub stops : (n : ℕ) (o : Outlook) → stop_def (run_after (run_of b) l cs) (take n (list_after (run_of b) l cs)) ≡ Ok o → Stops (entries b) (run_of b) l cs o
  stops n o e =
      let c = after b cs in
      let w = walks i b l cs t in
      let k = list_after (run_of b) l cs in
      let f : stop_def (run_of c) (take n k) ≡ Ok o = rw w.run_is at e in
      let q = outlook_where_long_enough n (run_best_of c) (left_in c) (demand c.inputs) o (sym (stop_def_of_run i c k n w.state) ∙ f) in
      let there = no_floor_iff_none_left (best_candidate (held (run_best_of c))) (left_in c) in
      let done = none_left_iff_over i c w.state.good in
      record {
        nothing_left = rw (w.run_is, run_over c, ← q) ((λ h. done.0 (there.0 h)), (λ h. there.1 (done.1 h)));
        nothing_gained = λ h ds. nothing_gained_after_calls ds (no_gain_gains_nothing (run_best_of c) (left_in c) (ap (λ (p : Outlook). p.no_gain) q ∙ h));
      }
