-- The lent list that a live run leaves is the one of the reference model, call by call; and a run that goes with a
-- walked journal's book answers every list of calls as that book does. Assumes nothing.
use Rattle.std.proofs.Common.{ℕ, zero, suc, ◌-◌, ◌*◌, ◌≤◌, arith, ◌≡◌, refl, sym, ap, ◌∙◌, ◌⊎◌, inl, inr, ⊎_elim, true, false, cond, List, [], ◌∷◌, ◌++◌, append_assoc, ltb-false, ne_eqb, ltb, eqb, length, take, drop, length-take, take-append-drop, Float, Ok, Err}
use borrow.Author.Tests.{eqb-false}
use lib.Seq.{drop-append-le}
use Rattle.common.specs.Tests.{case}
use Rattle.common.specs.Each.{All}
use Rattle.seeds.specs.declared.CandidateSeed.{CandidateSeed}
use Rattle.seeds.specs.Layout.{laid, flat, written}
use Rattle.score.specs.declared.outcome.Finding.{Finding}
use Rattle.score.specs.Reasons.{Outcome}
use Rattle.score.specs.Evaluation.{finding_refusal}
use Rattle.score.specs.Best.{no_best}
use Rattle.search.specs.declared.run.Run.{Run}
use Rattle.search.specs.Answer as ans
use Rattle.search.specs.AnswerLaws.{answer_refused, answer_enters}
use Rattle.common.specs.declared.Refusal.{Refusal}
use Rattle.common.specs.declared.Refusal.TheVariants.{ListShortened, NoSeedWaiting}
use Rattle.book.specs.Calls.{Call, next, seed, answer, ask, progress, stop, last, counts}
use Rattle.book.specs.Book.{Inputs, demand, Book, current, round_best_of, run_best_of, or_else, list_around, opened, with_waiting, with_entry, with_round, with_end, close_round, book_enter, book_outcome, unless, BookLeft as Answer, book_answer, book_call}
use Rattle.book.specs.Conditions.{NoneHolds, conditions}
use Rattle.book.specs.Walk.{run_call}
use Rattle.book.specs.Trace as trace
use Rattle.book.specs.Lent.{Lent}
use Rattle.book.specs.Theorem.{start_of, started_list}
use Rattle.book.proofs.Cases.{case_result, case_chosen, case_list}
use Rattle.book.proofs.Moves.{outcome_stands, entered_by, Moves, stays, hands, enters, call_moves, call_keeps}
use Rattle.book.proofs.Good.{Good, book_not_over_where_seed_waits, calls_keep_good}
use Rattle.book.specs.RunOf.{run_of}
use Rattle.book.proofs.RunOf.{State, run-fields}
use Rattle.book.proofs.Simulation.{refused_for, refused_where_none_waits, refused_where_list_short, refused_for_finding, outcome_agrees, next_seeds_of_run, round_opened_run_of, run_bests_or_else, entered_run_of, call_agrees}
use Rattle.book.proofs.Starts.{accepted_start_opens_run, accepted_start_writes_list}
use Rattle.book.proofs.Opening.{start_opens_book}
use Rattle.book.proofs.Ending.{run_ends}
use Rattle.book.proofs.Theorem.{calls_by_book}
use Rattle.book_journal.specs.Replay.{start_refused, buffer_after, walked}
use Rattle.book_journal.specs.History.{fresh, History, InputsFit, CallFits, list_under}
use Rattle.book_journal.specs.ReplayLaw.{BufferOf}
use Rattle.book_journal.specs.Live.{LiveBuffer, Continues, ContinuesToEnd}
use Rattle.book_journal.proofs.Opening.{start_refused_by_conditions, lent_list_long_enough}
use Rattle.book_journal.proofs.Kept.{walked_book_has_trail}
use Rattle.book_journal.proofs.Held.{no_entries_ne_entry}
use Rattle.book_journal.proofs.Buffer.{waiting_keeps_round_and_list, buffer_after_same_round, walked_buffer, run_again}
use Rattle.book_journal.proofs.Cut.{none_waits}

-- ---- the end of a round: where a later round opens, its list stands in front of the lent list
-- a book at or after round r, where the rounds in between had no seeds
abbrev Passed : ℕ → Book → Type 0
Passed r b = (r ≡ b.round) ⊎ ((suc r ≤ b.round) × (b.list ≡ []))

abbrev list_from : ℕ → Book → List Float → List Float
list_from r c l = cond (eqb r c.round) l (written c.list l)

written_no_seeds : (l : List Float) → written [] l ≡ l
unfolding laid
written_no_seeds l = refl

list_from_passed : (r : ℕ) (b : Book) (l : List Float) → Passed r b → list_from r b l ≡ l
list_from_passed r b l p =
    case (eqb r b.round) (λ e. simp e) (λ e. simp e (⊎_elim
    (λ q. absurd (eqb-false r b.round e q))
    (λ q. rw q.1 (written_no_seeds l)) p))

list_from_end : (r : ℕ) (b : Book) (l : List Float) → list_from r (with_end b) l ≡ list_from r b l
unfolding with_end
list_from_end r b l = refl

list_from_next_round : (r : ℕ) (b : Book) (ss : List CandidateSeed) (l : List Float) → r ≤ b.round → list_from r (with_round b ss) l ≡ written ss l
unfolding with_round
list_from_next_round r b ss l h = simp (ne_eqb r (suc b.round) (λ e. omega arith))

empty_round_passed : (r : ℕ) (b : Book) → r ≤ b.round → Passed r (with_round b []) × ((with_round b []).waits ≡ false)
unfolding with_round
empty_round_passed r b h = (inr (omega arith, refl), refl)

passed_round_ge : (r : ℕ) (b : Book) → Passed r b → r ≤ b.round
passed_round_ge r b p = ⊎_elim (λ e. omega arith) (λ q. let k = q.0 in omega arith) p

abbrev CloseList : ℕ → Type 0
CloseList k = (r : ℕ) (b : Book) (l : List Float) → b.waits ≡ false → Passed r b → (ans.close_round k (run_of b) l).list ≡ list_from r (close_round k b) l

close_list_zero : CloseList 0
unfolding ans.close_round close_round
close_list_zero r b l w p = sym (list_from_end r b l ∙ list_from_passed r b l p)

close_list_suc : (k : ℕ) → CloseList k → CloseList (suc k)
unfolding ans.close_round close_round no_best
close_list_suc k ih r b l w p =
    let h = passed_round_ge r b p in
    case_chosen (or_else (round_best_of b) (run_best_of b))
    (λ q. simp (ans.close_round, close_round, run_bests_or_else b, q) (sym (list_from_end r b l ∙ list_from_passed r b l p)))
    (λ v q.
    case_list (list_around b.inputs (suc b.round) v)
    (λ t. let n = empty_round_passed r b h in simp (ans.close_round, close_round, run_bests_or_else b, q, next_seeds_of_run, t, round_opened_run_of b [] w) (ih r (with_round b []) l n.1 n.0))
    (λ s ss t. simp (ans.close_round, close_round, run_bests_or_else b, q, next_seeds_of_run, t) (sym (list_from_next_round r b (s ∷ ss) l h))))

close_list : (k : ℕ) → CloseList k
close_list zero = close_list_zero
close_list (suc k) = close_list_suc k (close_list k)

-- ---- an outcome is entered
entry_keeps_round : (b : Book) (o : Outcome) → ((with_entry b o).waits ≡ false) × (b.round ≡ (with_entry b o).round)
unfolding with_entry
entry_keeps_round b o = (refl, refl)

buffer_after_is_list_from : (b c : Book) (l : List Float) → buffer_after b c l ≡ list_from b.round c l
unfolding buffer_after
buffer_after_is_list_from b c l = refl

pub enter_list_is_buffer_after : (b : Book) (o : Outcome) (l : List Float) → b.waits ≡ true → (ans.enter_def (run_of b) l o).list ≡ buffer_after b (book_enter b o) l
unfolding ans.enter_def book_enter
enter_list_is_buffer_after b o l w =
    let c = with_entry b o in
    let s = entry_keeps_round b o in
    case (ltb (length c.answered) (length c.list))
    (λ t. simp (entered_run_of b o w, run-fields, t) (sym (buffer_after_is_list_from b c l ∙ list_from_passed b.round c l (inl s.1))))
    (λ t. simp (entered_run_of b o w, run-fields, t) (close_list (c.inputs.rounds - c.round) b.round c l s.0 (inl s.1) ∙ sym (buffer_after_is_list_from b (close_round (c.inputs.rounds - c.round) c) l)))

-- ---- a front of the lent list is lent and given back
lent_front_given_back : (k n : ℕ) (l : List Float) → k ≤ n → k ≤ length l → drop k (take n l) ++ drop n l ≡ drop k l
lent_front_given_back k n l h g =
    let e = length-take n l in
    let q : k ≤ length (take n l) = omega arith in
    sym (drop-append-le k (take n l) (drop n l) q) ∙ ap (drop k) (take-append-drop n l)

buffer_after_lent_front : (b c : Book) (l : List Float) (n : ℕ) → 6 * length c.list ≤ n → 6 * length c.list ≤ length l → buffer_after b c (take n l) ++ drop n l ≡ buffer_after b c l
unfolding buffer_after
buffer_after_lent_front b c l n h g =
    case (eqb b.round c.round)
    (λ e. simp e (take-append-drop n l))
    (λ e.
    simp e
    (append_assoc (flat c.list) (drop (6 * length c.list) (take n l)) (drop n l) ∙ ap (λ (z : List Float). flat c.list ++ z) (lent_front_given_back (6 * length c.list) n l h g)))

-- ---- one call
call_without_entry_keeps_list : (b : Book) (c : Call) (l : List Float) → entered_by b c ≡ [] → buffer_after b (book_call b c).book l ≡ l
call_without_entry_keeps_list b c l q = go (book_call b c) (call_moves b c)
  where
    go : (k : Answer) → Moves b c k → buffer_after b k.book l ≡ l
    go k (stays e n) = rw e (buffer_after_same_round b b l refl)
    go k (hands o w e n) = rw e (buffer_after_same_round b (with_waiting b) l (waiting_keeps_round_and_list b).0)
    go k (enters o w s e n) = absurd (no_entries_ne_entry b o (sym q ∙ n))

refused_answer_keeps_list : (b : Book) (l : List Float) (n : ℕ) → take n l ++ drop n l ≡ buffer_after b b l
refused_answer_keeps_list b l n = take-append-drop n l ∙ sym (buffer_after_same_round b b l refl)

answer_list_is_buffer_after : (i : Inputs) (b : Book) (l : List Float) (n : ℕ) (f : Finding) (rows : List Float) (flags : List ℕ) → State i b l
    → (run_call (run_of b) l (answer n f rows flags)).list ≡ buffer_after b (book_answer b n f rows flags).book l
unfolding run_call book_answer
answer_list_is_buffer_after i b l n f rows flags g =
    let m = take n l in
    let refused_with = λ (e : Refusal) (h : refused_for i b l n f rows flags g ≡ Err e). answer_refused (run_of b) f rows flags m e h in
    case b.waits
    (λ w. case (ltb n (demand b.inputs))
    (λ s. simp (refused_with ListShortened (refused_where_list_short i b l n f rows flags g w s), unless, w, s) (refused_answer_keeps_list b l n))
    (λ s. case_result (finding_refusal f (current b).sensor rows flags)
    (λ u z.
    let o = book_outcome b f rows flags in
    let k = (calls_keep_good i).enters_by b o (book_not_over_where_seed_waits i b g.good w) (outcome_stands b.inputs f (current b).sensor rows flags) g.good in
    let room : 6 * length (book_enter b o).list ≤ demand b.inputs = rw (k.inputs_are ∙ sym g.good.inputs_are) at k.core.fits in
    let long = g.there.long in
    let lent = ltb-false n (demand b.inputs) s in
    let e = answer_enters (run_of b) f rows flags m o (sym (outcome_agrees b f rows flags w)) (refused_for_finding i b l n f rows flags g w s ∙ z) in
    simp (e, unless, w, s, z) (ap (λ (x : List Float). x ++ drop n l) (enter_list_is_buffer_after b o m w) ∙ buffer_after_lent_front b (book_enter b o) l n (omega arith) (omega arith)))
    (λ r z. simp (refused_with r (refused_for_finding i b l n f rows flags g w s ∙ z), unless, w, s, z) (refused_answer_keeps_list b l n))))
    (λ w. simp (refused_with NoSeedWaiting (refused_where_none_waits i b l n f rows flags g w), unless, w) (refused_answer_keeps_list b l n))

call_list_is_buffer_after : (i : Inputs) (b : Book) (l : List Float) (c : Call) → State i b l → (run_call (run_of b) l c).list ≡ buffer_after b (book_call b c).book l
unfolding run_call entered_by
call_list_is_buffer_after i b l (next n) g = sym (call_without_entry_keeps_list b (next n) l refl)
call_list_is_buffer_after i b l (seed n) g = sym (call_without_entry_keeps_list b (seed n) l refl)
call_list_is_buffer_after i b l (answer n f rows flags) g = answered i b l n f rows flags g
  where
    answered : (i : Inputs) (b : Book) (l : List Float) (n : ℕ) (f : Finding) (rows : List Float) (flags : List ℕ) → State i b l
        → (run_call (run_of b) l (answer n f rows flags)).list ≡ buffer_after b (book_call b (answer n f rows flags)).book l
    answered i b l n f rows flags g = unfold book_call in answer_list_is_buffer_after i b l n f rows flags g
call_list_is_buffer_after i b l ask g = sym (call_without_entry_keeps_list b ask l refl)
call_list_is_buffer_after i b l progress g = sym (call_without_entry_keeps_list b progress l refl)
call_list_is_buffer_after i b l (stop n) g = sym (call_without_entry_keeps_list b (stop n) l refl)
call_list_is_buffer_after i b l last g = sym (call_without_entry_keeps_list b last l refl)
call_list_is_buffer_after i b l counts g = sym (call_without_entry_keeps_list b counts l refl)

-- ---- any calls
pub list_after_is_list_under : (i : Inputs) (b : Book) (l : List Float) (cs : List Call) → State i b l → trace.list_after (run_of b) l cs ≡ list_under b l cs
unfolding trace.list_after list_under
list_after_is_list_under i b l [] g = refl
list_after_is_list_under i b l (c ∷ cs) g =
    let a = call_agrees i b l c g in
    let m = call_list_is_buffer_after i b l c g in
    let next_state : State i (book_call b c).book (run_call (run_of b) l c).list = record { good = call_keeps (calls_keep_good i) b c g.good; there = a.there } in
    rw a.run (list_after_is_list_under i (book_call b c).book (run_call (run_of b) l c).list cs next_state ∙ ap (λ (z : List Float). list_under (book_call b c).book z cs) m)

-- ---- the journal of a run that Start opened leaves the lent list as that run did
pub accepted_start_none_holds : (i : Inputs) (l : List Float) (r : Run) → start_of i l ≡ Ok r → NoneHolds (conditions i (length l))
accepted_start_none_holds i l r h = (start_refused_by_conditions i (length l)).accepts.0 (unfold start_refused in (accepted_start_opens_run i l r h).0)

pub live_buffer : (i : Inputs) (l : List Float) (r : Run) (cs : List Call) → InputsFit i → All CallFits cs → LiveBuffer i l r cs
live_buffer i l r cs f k h =
    let z = (accepted_start_opens_run i l r h).0 in
    let a = accepted_start_none_holds i l r h in
    let o = start_opens_book i l r h in
    let past : History i = record { room = length l; accepted = a; opening = fresh; calls = cs } in
    (run_again i past f k l a).same_buffer
    ∙ sym (ap (λ (x : Run). trace.list_after x (started_list i l) cs) o.run_is ∙ list_after_is_list_under i (opened i) (started_list i l) cs o.state ∙ ap (λ (x : List Float). list_under (opened i) x cs) (accepted_start_writes_list i l z))

-- ---- the run and the lent list that a walk leaves are such as the theorem about lists of calls asks for
state_of_buffer : (i : Inputs) (l : List Float) (b : Book) (m : List Float) → demand i ≤ length l → Good i b → BufferOf i l b m → State i b m
state_of_buffer i l b m room g h = record {
  good = g;
  there = record {
    tail = drop (6 * length b.list) m;
    list_is = sym (take-append-drop (6 * length b.list) m) ∙ ap (λ (z : List Float). z ++ drop (6 * length b.list) m) h.is_in_front;
    long = rw g.inputs_are (let e = h.same_length in omega arith);
    fits = g.core.fits;
  };
}

pub walked_book_state : (i : Inputs) (l : List Float) (bs : List ℕ) → NoneHolds (conditions i (length l)) → State i (walked i l bs).book (walked i l bs).list
walked_book_state i l bs a =
    state_of_buffer i l (walked i l bs).book (walked i l bs).list (lent_list_long_enough i (length l) a) (walked_book_has_trail i (length l) a l bs).good (walked_buffer i l bs a)

pub resumed_continues : (i : Inputs) (l : List Float) (bs : List ℕ) → NoneHolds (conditions i (length l)) → (cs : List Call)
    → Continues i (walked i l bs).book (run_of (walked i l bs).book) (walked i l bs).list cs
resumed_continues i l bs a cs = calls_by_book i (walked i l bs).book (walked i l bs).list cs (none_waits i l bs) (walked_book_state i l bs a)

pub resumed_ends : (i : Inputs) (l : List Float) (bs : List ℕ) → NoneHolds (conditions i (length l)) → (cs : List Lent) → ContinuesToEnd i (walked i l bs).book (run_of (walked i l bs).book) cs
resumed_ends i l bs a cs = run_ends i (walked i l bs).book cs (walked_book_has_trail i (length l) a l bs).good
