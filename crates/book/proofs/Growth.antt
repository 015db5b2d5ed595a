-- Each call adds the same answers and the same handed-out seeds to the run as to the book. Assumes nothing.
use Rattle.std.proofs.Common.{◌≡◌, refl, sym, ap, ◌∙◌, true, false, cond, List, [], ◌∷◌, ◌++◌, map, append-nil, ltb-false, le-leb, ltb, length, take, Float}
use mathlib.Core.List.{map-append}
use Rattle.common.specs.Tests.{case}
use Rattle.seeds.specs.Layout.{six}
use Rattle.score.specs.Reasons.{Outcome}
use Rattle.score.specs.Evaluation.{finding_refusal}
use Rattle.search.specs.Next.{next_def, seed_lent, seed_part}
use Rattle.book.specs.Calls.{Call, next, seed, answer, ask, progress, stop, last, counts}
use Rattle.book.specs.Book.{Inputs, demand, Book, entries, number, current, run_best_of, with_waiting, book_enter, book_outcome, unless, book_next, book_seed, book_answer, book_result, book_progress, book_stop, book_call, book_last, book_counts}
use Rattle.book.specs.Trace.{Handing, handed_by, answered_by, handing_of}
use Rattle.book.proofs.Cases.{case_result, case_chosen}
use Rattle.book.proofs.Lists.{front_of_lent_part, lent_part_too_short}
use Rattle.book.proofs.Moves.{entered_for, entry, enter_adds_entry, entered_by}
use Rattle.book.proofs.Good.{book_not_over_where_seed_waits, calls_keep_good}
use Rattle.book.specs.RunOf.{run_of}
use Rattle.book.proofs.RunOf.{State, run-fields, run-bests, run_of_sound}
use Rattle.book.proofs.Simulation.{refused_where_none_waits, refused_where_list_short, refused_for_finding, awaiting_run_of, waiting_keeps_list_in_front, seed_at_is_current, lent_part_is_current}

-- ---- the run accepts the answers that the book enters
pub answers_agree : (i : Inputs) (b : Book) (l : List Float) (c : Call) → State i b l → answered_by (run_of b) l c ≡ entered_by b c
unfolding answered_by entered_by
answers_agree i b l (next n) f = refl
answers_agree i b l (seed n) f = refl
answers_agree i b l (answer n f rows flags) g =
    case b.waits
    (λ w. case (ltb n (demand b.inputs))
    (λ s. simp (answered_by, entered_for, refused_where_list_short i b l n f rows flags g w s, w, s))
    (λ s. case_result (finding_refusal f (current b).sensor rows flags)
    (λ u z. simp (answered_by, entered_for, refused_for_finding i b l n f rows flags g w s ∙ z, run-fields, w, s, z))
    (λ r z. simp (answered_by, entered_for, refused_for_finding i b l n f rows flags g w s ∙ z, w, s, z))))
    (λ w. simp (answered_by, refused_where_none_waits i b l n f rows flags g w, w))
answers_agree i b l ask f = refl
answers_agree i b l progress f = refl
answers_agree i b l (stop n) f = refl
answers_agree i b l last f = refl
answers_agree i b l counts f = refl

-- ---- what was handed out so far: the answered candidates, and the one that waits
abbrev pub current_handing : Book → Handing
current_handing b = record { round = b.round; number = number b; part = six (current b) }

abbrev pub waiting_handing : Book → List Handing
waiting_handing b = cond b.waits (current_handing b ∷ []) []

unfoldable pub handed_in : Book → List Handing
handed_in b = map handing_of (entries b) ++ waiting_handing b

seed_part_is_waiting_seed : (i : Inputs) (b : Book) (l : List Float) → State i b l → b.waits ≡ true → seed_part (run_of b) l ≡ six (current b)
unfolding seed_part seed_lent
seed_part_is_waiting_seed i b l f w =
    simp (run-fields, run_of_sound i b f.good, w, le-leb (demand b.inputs) (length l) f.there.long, lent_part_is_current b l f.there (f.good.room (book_not_over_where_seed_waits i b f.good w)))

waiting_hands_out_current : (b : Book) → b.waits ≡ false → handed_in b ++ current_handing b ∷ [] ≡ handed_in (with_waiting b)
unfolding with_waiting handed_in
waiting_hands_out_current b w = simp (w, append-nil)

enter_keeps_handed_in : (b : Book) (o : Outcome) → b.waits ≡ true → handed_in b ≡ handed_in (book_enter b o)
unfolding handed_in
enter_keeps_handed_in b o w = simp (w, (enter_adds_entry b o).1, (enter_adds_entry b o).0) (sym (append-nil (map handing_of (entries b ++ entry b o ∷ [])) ∙ map-append handing_of (entries b) (entry b o ∷ [])))

waiting_keeps_round : (b : Book) → ((with_waiting b).waits ≡ true) × ((with_waiting b).round ≡ b.round)
unfolding with_waiting
waiting_keeps_round b = (refl, refl)

waiting_keeps_current : (b : Book) → current (with_waiting b) ≡ current b
unfolding with_waiting
waiting_keeps_current b = refl

seed_part_after_waiting : (i : Inputs) (b : Book) (l : List Float) → b.over ≡ false → State i b l → seed_part (run_of (with_waiting b)) l ≡ six (current b)
seed_part_after_waiting i b l o f = seed_part_is_waiting_seed i (with_waiting b) l (record { good = (calls_keep_good i).awaits b o f.good; there = waiting_keeps_list_in_front b l f.there }) (waiting_keeps_round b).0 ∙ ap six (waiting_keeps_current b)

pub hands_agree : (i : Inputs) (b : Book) (l : List Float) (c : Call) → State i b l → handed_in b ++ handed_by (run_of b) l c ≡ handed_in (book_call b c).book
unfolding handed_by book_call next_def book_next book_seed book_answer book_result book_progress book_stop book_last book_counts
hands_agree i b l (next n) f =
    let d = lent_part_too_short (demand b.inputs) l n f.there.long in
    let t = run_of_sound i b f.good in
    let z = append-nil (handed_in b) in
    case b.waits (λ w. simp (next_def, unless, run-fields, t, w) z) (λ w.
    case (ltb n (demand b.inputs)) (λ s. simp (next_def, unless, run-fields, t, w, d, s) z) (λ s.
    case b.over
    (λ o. case_chosen (run_best_of b)
    (λ e. simp (next_def, unless, run-fields, run-bests, t, w, d, s, o, e) z)
    (λ v e. simp (next_def, unless, run-fields, run-bests, t, w, d, s, o, e) z))
    (λ o.
    let g = front_of_lent_part (demand b.inputs) b.list l n f.there (ltb-false n (demand b.inputs) s) in
    simp (next_def, unless, run-fields, t, w, d, s, o, seed_at_is_current b (take n l) g (f.good.room o), awaiting_run_of b, seed_part_after_waiting i b l o f, (waiting_keeps_round b).1) (waiting_hands_out_current b w))))
hands_agree i b l (seed n) f = append-nil (handed_in b)
hands_agree i b l (answer n f rows flags) g =
    let q = append-nil (handed_in b) in
    case b.waits
    (λ w. case (ltb n (demand b.inputs))
    (λ s. simp (unless, w, s) q)
    (λ s. case_result (finding_refusal f (current b).sensor rows flags)
    (λ u z. simp (unless, w, s, z) (q ∙ enter_keeps_handed_in b (book_outcome b f rows flags) w))
    (λ r z. simp (unless, w, s, z) q)))
    (λ w. simp w q)
hands_agree i b l ask f = let z = append-nil (handed_in b) in case b.over (λ o. case_chosen (run_best_of b) (λ e. simp (o, e) z) (λ v e. simp (o, e) z)) (λ o. simp o z)
hands_agree i b l progress f = append-nil (handed_in b)
hands_agree i b l (stop n) f = let z = append-nil (handed_in b) in case (ltb n (demand b.inputs)) (λ s. simp s z) (λ s. simp s z)
hands_agree i b l last f = append-nil (handed_in b)
hands_agree i b l counts f = append-nil (handed_in b)
