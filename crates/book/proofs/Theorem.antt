-- The theorem about every list of calls. Assumes nothing.
use Rattle.std.proofs.Common.{ℕ, suc, ◌≤◌, arith, ◌≡◌, refl, sym, ap, subst, ◌∙◌, ◌⊎◌, ⊎_elim, true, false, List, [], map, ◌++◌, append_assoc, append-nil, le-ltb, length, length-append, Float, Result, Ok, Err}
use Rattle.std.specs.Float.Ieee.{eq}
use mathlib.Core.List.{map-append}
use lib.ListN.{length-map}
use Rattle.common.specs.Tests.{case}
use Rattle.common.specs.All.{all_append, all_map}
use Rattle.common.specs.Each.{All}
use Rattle.common.specs.Checks.{first_refusal}
use Rattle.common.specs.declared.Refusal.{Refusal}
use Rattle.common.specs.declared.Refusal.TheVariants.{NothingScored, NotOver}
use Rattle.float.specs.Literals.{plus_zero}
use Rattle.seeds.specs.declared.CandidateSeed.{CandidateSeed}
use Rattle.seeds.specs.Rules.{untilted_y}
use Rattle.seeds.specs.Layout.{six}
use Rattle.seeds.specs.AnyOffsets.{most_seeds}
use Rattle.score.specs.declared.outcome.Finding.{Finding}
use Rattle.score.specs.declared.outcome.Finding.TheVariants.{Failed}
use Rattle.score.specs.Evaluation.{row_checks}
use Rattle.score.specs.declared.best.Candidate.{Candidate}
use Rattle.score.specs.Best.{chosen}
use Rattle.search.specs.Answer.{answer_refusal}
use Rattle.search.specs.Result.{result_def}
use Rattle.book.specs.Calls.{Call}
use Rattle.book.specs.Book.{Inputs, demand, Entry, Book, entries, current, run_best_of, opened, after}
use Rattle.book.specs.Trace.{Handing, tilt_y_of, PlusZeroLater, handed_in_round, handed, handing_of, all_handed, list_after}
use Rattle.book.specs.Named.{outcomes_in, handings}
use Rattle.book.specs.Lent.{through}
use Rattle.book.specs.Theorem.{started_list, NoNan, Over, ByBook, Ends, SearchIsBook}
use Rattle.book.proofs.Cases.{case_chosen}
use Rattle.book.proofs.Planned.{answered_round_planned_through}
use Rattle.book.proofs.Seeds.{Seeded}
use Rattle.book.proofs.PerRound.{all_of_handed_entries, few_handed_in_later_rounds}
use Rattle.book.proofs.Good.{Proper, Good, book_not_over_where_seed_waits, current_seeded}
use Rattle.book.specs.RunOf.{run_of}
use Rattle.book.proofs.RunOf.{State, run-fields, run-bests, run_of_sound, number_le_656}
use Rattle.book.proofs.Growth.{waiting_handing, handed_in, current_handing}
use Rattle.book.proofs.Winner.{scored_have_numbers, run_best_wins}
use Rattle.book.proofs.Walks.{walks}
use Rattle.book.proofs.Stops.{stops}
use Rattle.book.proofs.Share.{scored_by_calls_or_before, rests_on_share_or_kept}
use Rattle.book.proofs.Tilts.{every_typed_tilt_tried}
use Rattle.book.proofs.Taken.{finding_not_refused}
use Rattle.book.proofs.Simulation.{progress_def_of_run}
use Rattle.book.proofs.Lengths.{later_round, listed_untilted}
use Rattle.book.proofs.Starts.{starts}
use Rattle.book.proofs.Opening.{start_opens_book}
use Rattle.book.proofs.Ending.{run_ends}

-- ---- a run that gives a result
pub result_is_best_of_over_run : (i : Inputs) (b : Book) (w : Candidate) → Good i b → result_def (run_of b) ≡ Ok w → (b.over ≡ true) × (run_best_of b ≡ chosen w)
unfolding result_def
result_is_best_of_over_run i b w g h =
    let t = run_of_sound i b g in
    case b.over
    (λ o. case_chosen (run_best_of b)
    (λ e. let k : ◌≡◌ {A = Result Candidate Refusal} (Err NothingScored) (Ok w) = simp (result_def, run-fields, run-bests, t, o, e) at h in cc)
    (λ v e. let k : ◌≡◌ {A = Result Candidate Refusal} (Ok v) (Ok w) = simp (result_def, run-fields, run-bests, t, o, e) at h in (o, cc)))
    (λ o. let k : ◌≡◌ {A = Result Candidate Refusal} (Err NotOver) (Ok w) = simp (result_def, run-fields, t, o) at h in cc)

-- a run is over where Result gives a winner or 11
over_run_has_over_book : (i : Inputs) (b : Book) → Good i b → Over (run_of b) → b.over ≡ true
unfolding result_def
over_run_has_over_book i b g =
    ⊎_elim
    (λ p. (result_is_best_of_over_run i b p.0 g p.1).0)
    (λ h.
    let t = run_of_sound i b g in
    case b.over (λ o. o) (λ o. let k : ◌≡◌ {A = Result Candidate Refusal} (Err NotOver) (Err NothingScored) = simp (result_def, run-fields, t, o) at h in cc))

-- what a book with no seed waiting has handed out
handed_in_where_none_waits : (b : Book) → b.waits ≡ false → handed_in b ≡ map handing_of (entries b)
unfolding handed_in
handed_in_where_none_waits b w = simp w (append-nil (map handing_of (entries b)))

over_run_handed_all : (i : Inputs) (b : Book) (w : Candidate) → Good i b → b.over ≡ true → run_best_of b ≡ chosen w → handed_in b ≡ handings i (outcomes_in (entries b)) (suc i.rounds)
over_run_handed_all i b w g o e =
    ⊎_elim
    (λ n. let z : ◌≡◌ {A = ℕ} 0 1 = cc in absurd (omega arith))
    (λ p. handed_in_where_none_waits b (g.calm o) ∙ (answered_round_planned_through b g.core.planned (g.full o)).handings_are ∙ ap (λ (r : ℕ). handings b.inputs (outcomes_in (entries b)) (suc r)) p
    ∙ ap (λ (j : Inputs). handings j (outcomes_in (entries b)) (suc j.rounds)) g.inputs_are)
    (g.finished o)

-- ---- the seeds that were handed out, round by round
all_of_waiting_handing : (P : Handing → Type 0) (b : Book) → (b.waits ≡ true → P (current_handing b)) → All P (waiting_handing b)
all_of_waiting_handing P b f = case b.waits (λ w. rw w (f w, tt)) (λ w. rw w tt)

few_handed_in : (i : Inputs) (b : Book) → Good i b → (k : ℕ) → length (handed_in_round (suc k) (handed_in b)) ≤ most_seeds b.inputs.one_axis
unfolding handed_in
few_handed_in i b g k =
    let ws = map handing_of b.answered ++ waiting_handing b in
    let e : map handing_of (entries b) ++ waiting_handing b ≡ map handing_of b.earlier ++ ws =
    rw (map-append handing_of b.earlier b.answered) (append_assoc (map handing_of b.earlier) (map handing_of b.answered) (waiting_handing b)) in
    let h = g.core in
    let n : length (map handing_of b.answered) ≡ length b.answered = length-map b.answered handing_of in
    let m = length-append (map handing_of b.answered) (waiting_handing b) in
    rw e
    (few_handed_in_later_rounds b ws h.per_round h.planned
    (all_append (λ h. h.round ≡ b.round) (map handing_of b.answered) (waiting_handing b) (all_of_handed_entries (λ h. h.round ≡ b.round) b.answered h.planned.this) (all_of_waiting_handing (λ h. h.round ≡ b.round) b (λ w. refl)))
    (case b.waits (λ w. let r = g.room (book_not_over_where_seed_waits i b g w) in let z : length (waiting_handing b) ≡ 1 = rw w in omega arith) (λ w.
    let z : length (waiting_handing b) ≡ 0 = rw w in
    case b.over (λ o. let f = g.full o in omega arith) (λ o. let r = g.room o in omega arith)))
    k)

-- each handed-out seed belongs to its round
abbrev HandedSeed : Inputs → Handing → Type 0
HandedSeed i h = (s : CandidateSeed) × (h.part ≡ six s) × Seeded i h.round s

handed_seeded : (i : Inputs) (b : Book) → Good i b → All (HandedSeed b.inputs) (handed_in b)
unfolding handed_in
handed_seeded i b g =
    all_append (HandedSeed b.inputs) (map handing_of (entries b)) (waiting_handing b)
    (all_of_handed_entries (HandedSeed b.inputs) (entries b) (all_map (Proper b.inputs) (λ e. HandedSeed b.inputs (handing_of e)) (λ e p. (e.seed, refl, p.seeded)) (entries b) g.core.proper))
    (all_of_waiting_handing (HandedSeed b.inputs) b (λ w. (current b, refl, current_seeded b g.core (g.room (book_not_over_where_seed_waits i b g w)))))

-- ---- while a seed waits
later_tilt_y_plus_zero : (i : Inputs) → i.one_axis ≡ true → (h : Handing) → HandedSeed i h → PlusZeroLater h
later_tilt_y_plus_zero i one h p = rw p.1 (p.2.later one)

waiting_answer_accepted : (i : Inputs) (b : Book) (l : List Float) → State i b l → (run_of b).waiting.is_waiting ≡ true
    → (f : Finding) (rows : List Float) (flags : List ℕ) → (f ≡ Failed) ⊎ (first_refusal (row_checks rows flags) ≡ Ok tt) → answer_refusal (run_of b) (length l) f rows flags ≡ Ok tt
waiting_answer_accepted i b l s w f rows flags k =
    let g = s.good in
    let q : b.waits ≡ true = simp run-fields at w in
    let z = finding_not_refused b.inputs.max (current b).sensor f rows flags g.core.sized.small_bound (current_seeded b g.core (g.room (book_not_over_where_seed_waits i b g q))).within k in
    simp (answer_refusal, run_of_sound i b g, run-fields, q, z, le-ltb (length l) (demand b.inputs) s.there.long)

-- ---- any book between the calls with no seed waiting
pub calls_by_book : (i : Inputs) (b : Book) (l : List Float) (cs : List Call) → b.waits ≡ false → State i b l → ByBook i b (entries b) (run_of b) l cs
unfolding NoNan
calls_by_book i b l cs q t =
    let c = after b cs in
    let w = walks i b l cs t in
    let g = w.state.good in
    let p : All (Proper i) (entries c) = rw g.inputs_are at g.core.proper in
    let seeded = subst (λ (j : Inputs). All (HandedSeed j) (handed_in c)) g.inputs_are (handed_seeded i c g) in
    let same = w.same_entries in
    let out : all_handed (entries b) (run_of b) l cs ≡ handed_in c = ap (λ (hs : List Handing). hs ++ handed (run_of b) l cs) (sym (handed_in_where_none_waits b q)) ∙ w.same_handed in
    record {
      same_replies = w.same_replies;
      same_entries = same;
      no_nan = rw same (scored_have_numbers i (entries c) p);
      handed_out = λ v h.
          let r = result_is_best_of_over_run i c v g (rw w.run_is at h) in
          rw same (out ∙ over_run_handed_all i c v g r.0 r.1);
      wins = λ v h.
          let r = result_is_best_of_over_run i c v g (rw w.run_is at h) in
          rw same (run_best_wins i (entries c) v g.core.numbered p (unfold run_best_of in r.1));
      rests = λ v h.
          let r = result_is_best_of_over_run i c v g (rw w.run_is at h) in
          rests_on_share_or_kept i.share (entries b) (run_of b) l cs v (scored_by_calls_or_before i b l cs v t (run_best_wins i (entries c) v g.core.numbered p (unfold run_best_of in r.1)).is_scored);
      every_tilt = λ v x y mx my lx hx ly hy.
          let o = over_run_has_over_book i c g (rw w.run_is at v) in
          rw (same, out ∙ handed_in_where_none_waits c (g.calm o)) (every_typed_tilt_tried i c g o x y mx my lx hx ly hy);
      few_later = λ k. rw out (subst (λ (j : Inputs). length (handed_in_round (suc k) (handed_in c)) ≤ most_seeds j.one_axis) g.inputs_are (few_handed_in i c g k));
      untilted = λ one. rw out (all_map (HandedSeed i) (λ h. eq (tilt_y_of h) plus_zero ≡ true) (λ h p. rw p.1 (unfold untilted_y in p.2.untilted one)) (handed_in c) seeded);
      later_untilted = λ one. rw out (all_map (HandedSeed i) PlusZeroLater (later_tilt_y_plus_zero i one) (handed_in c) seeded);
      few_answers = rw same (number_le_656 i c g);
      answer_accepted = rw w.run_is (waiting_answer_accepted i c (list_after (run_of b) l cs) w.state);
      later_round = rw (w.run_is, same, progress_def_of_run i c g) (later_round i c (list_after (run_of b) l cs) w.state);
      listed_untilted = rw (w.run_is, progress_def_of_run i c g) (listed_untilted i c (list_after (run_of b) l cs) w.state);
      stops = stops i b l cs t;
    }

-- ---- the book that an accepted Start opens: no seed waits, and nothing was kept
opened_has_no_entries : (i : Inputs) → ((opened i).waits ≡ false) × (entries (opened i) ≡ [])
unfolding opened
opened_has_no_entries i = (refl, refl)

pub search_is_book : SearchIsBook
search_is_book i l =
    let e = opened_has_no_entries i in
    let s = run_of (opened i) in
    record {
      starts = starts i l;
      follows = λ r h cs.
          let o = start_opens_book i l r h in
          rw o.run_is (subst (λ (kept : List Entry). ByBook i (opened i) kept s (started_list i l) cs) e.1 (calls_by_book i (opened i) (started_list i l) cs e.0 o.state));
      ends = λ r h cs.
          let o = start_opens_book i l r h in
          rw o.run_is (subst (λ (kept : List Entry). Ends i (length kept) s cs (through s cs)) e.1 (run_ends i (opened i) cs o.state.good));
    }
