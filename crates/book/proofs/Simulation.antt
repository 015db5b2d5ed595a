-- Each call replies as the book does, and the run stays a function of the book. Assumes nothing.
use Rattle.std.proofs.Common.{ℕ, zero, suc, ◌+◌, ◌-◌, ◌*◌, ◌≤◌, ◌<◌, add-one, arith, ◌≡◌, refl, sym, ap, ◌∙◌, true, false, cond, List, [], ◌∷◌, ◌++◌, append_assoc, append-nil, ltb-true, ltb-false, le-leb, ltb, eqb, length, take, drop, length-append, take-append-drop, drop-cons, Float, Result, Ok, Err}
use mathlib.Core.Option.{Option, none, some}
use Rattle.std.specs.Prelude.{Some, None, ⊤}
use Rattle.common.specs.declared.Refusal.{Refusal}
use Rattle.common.specs.declared.Refusal.TheVariants.{SeedWaiting, ListShortened, NothingScored, NoSeedWaiting, NotOver}
use borrow.Author.Tests.{lt-leb}
use lib.Dec.{eqb-suc-zero}
use Rattle.common.specs.Tests.{case}
use Rattle.common.specs.Each.{All}
use Rattle.float.specs.Binary64.{◌*₆₄◌}
use Rattle.float.specs.Literals.{half₆₄}
use Rattle.seeds.specs.declared.CandidateSeed.{CandidateSeed}
use Rattle.seeds.specs.Layout.{six, seed_at, written}
use Rattle.score.specs.declared.outcome.Finding.{Finding}
use Rattle.score.specs.Reasons.{Outcome}
use Rattle.score.specs.declared.outcome.SkipReason.TheVariants.{HostFailed, BadCamera, NoMean, NoNumber}
use Rattle.score.specs.Evaluation.{finding_refusal}
use Rattle.score.specs.declared.best.Candidate.{Candidate}
use Rattle.score.specs.declared.best.Best.{Best}
use Rattle.score.specs.Best.{Chosen, nothing, chosen, best_of, first_unbeaten, no_best, best_candidate, held, or_best, candidate_of}
use Rattle.score.proofs.Order.{best_snoc}
use Rattle.search.specs.declared.run.Run.{Run}
use Rattle.journal.specs.declared.Counts.{Counts}
use Rattle.journal.specs.Counts.{with_count}
use Rattle.journal.specs.Outcome.{recorded_as}
use Rattle.search.specs.declared.run.LastAnswer.{LastAnswer}
use Rattle.search.specs.declared.run.Waiting.{Waiting}
use Rattle.search.specs.Record as rec
use Rattle.search.specs.Next.{next_def, seed_lent, seed_part}
use Rattle.search.specs.Answer as ans
use Rattle.search.specs.AnswerLaws.{answer_refused, answer_enters}
use Rattle.search.specs.Result.{result_def}
use Rattle.search.specs.Progress.{progress_def}
use Rattle.score.specs.Floor.{seeds_between}
use Rattle.search.specs.Stop.{left_seeds, best_so_far, outlook_of, stop_def}
use Rattle.book.specs.Calls.{Call, next, seed, answer, ask, progress, stop, Reply, over, part, result, bar, stopped, refused, last, counts, counted}
use Rattle.book.specs.Book.{Inputs, demand, Entry, Book, entries, number, no_seed, current, scored_of, round_best_of, run_best_of, or_else, step_of, list_around, with_waiting, with_entry, with_round, with_end, close_round, book_enter, book_outcome, BookLeft, book_left, unless, book_next, book_seed, reply_to, book_answer, book_result, book_progress, left_in, rest_of, rest_in, book_stop, book_call, line_of, last_of, book_last, tally, book_counts}
use Rattle.book.specs.Walk.{Step, run_call, answered_reply, stopped_reply, last_reply}
use Rattle.book.proofs.Cases.{case_chosen, case_list, case_result, case_option}
use Rattle.book.proofs.Moves.{entry, Stands}
use Rattle.book.proofs.Seeds.{list_around_le_nine}
use Rattle.book.proofs.Good.{Proper, Good, book_not_over_where_seed_waits, answered_le_list}
use Rattle.book.proofs.Tally.{tally_snoc}
use Rattle.book.specs.RunOf.{run_of, last_in}
use Rattle.book.proofs.RunOf.{State, run_waiting, run_round_best, run_run_best, run_max, run_one_axis, run-fields, run-bests, run_of_sound, run_last}
use Rattle.book.proofs.Lists.{seed_at_of_flat, six_of_flat, seeds_between_of_front, Front, front_of_lent_part, front_of_longer_list, front_of_written, front_of_no_seeds, lent_part_too_short}
use Rattle.search.specs.Last.{has_line, recorded_in, last_def}
use Rattle.search.specs.Counts.{counts_def}

-- what a call makes of the run, beside what it makes of the book
pub record Agrees (x : Step) (k : BookLeft) : Type 0 where
  pub reply : x.reply ≡ k.reply
  pub run : x.run ≡ run_of k.book
  pub there : Front (demand k.book.inputs) k.book.list x.list

-- ---- a call that changes nothing
abbrev pub ListInFront : Book → List Float → Type 0
ListInFront b l = Front (demand b.inputs) b.list l

unchanged_agrees : (b : Book) (l : List Float) → ListInFront b l → (a : Reply) → Agrees (record { reply = a; run = run_of b; list = l }) (book_left a b)
unchanged_agrees b l f a = record { reply = refl; run = refl; there = f }

-- ---- Next
pub awaiting_run_of : (b : Book) → rec.awaiting (run_of b) (current b) ≡ run_of (with_waiting b)
unfolding rec.awaiting run_of with_waiting round_best_of run_best_of
awaiting_run_of b = refl

pub waiting_keeps_list_in_front : (b : Book) (l : List Float) → ListInFront b l → ListInFront (with_waiting b) l
unfolding with_waiting
waiting_keeps_list_in_front b l f = f

pub seed_at_is_current : (b : Book) (l : List Float) → Front (demand b.inputs) b.list l → length b.answered < length b.list → seed_at l (length b.answered) ≡ current b
seed_at_is_current b l f h = rw f.list_is (seed_at_of_flat b.list f.tail (length b.answered) h)

next_agrees : (i : Inputs) (b : Book) (l : List Float) (n : ℕ) → State i b l → Agrees (run_call (run_of b) l (next n)) (book_next b n)
unfolding run_call next_def book_next
next_agrees i b l n f =
    let d = lent_part_too_short (demand b.inputs) l n f.there.long in
    let t = run_of_sound i b f.good in
    case b.waits (λ w. simp (next_def, unless, run-fields, t, w) (unchanged_agrees b l f.there (refused SeedWaiting))) (λ w.
    case (ltb n (demand b.inputs)) (λ s. simp (next_def, unless, run-fields, t, w, d, s) (unchanged_agrees b l f.there (refused ListShortened))) (λ s.
    case b.over
    (λ o. case_chosen (run_best_of b)
    (λ e. simp (next_def, unless, run-fields, run-bests, t, w, d, s, o, e) (unchanged_agrees b l f.there (refused NothingScored)))
    (λ v e. simp (next_def, unless, run-fields, run-bests, t, w, d, s, o, e) (unchanged_agrees b l f.there over)))
    (λ o.
    let g = front_of_lent_part (demand b.inputs) b.list l n f.there (ltb-false n (demand b.inputs) s) in
    simp (next_def, unless, run-fields, t, w, d, s, o, seed_at_is_current b (take n l) g (f.good.room o), awaiting_run_of b)
    (record { reply = refl; run = refl; there = waiting_keeps_list_in_front b l f.there }))))

-- ---- the seed call
pub lent_part_is_current : (b : Book) (l : List Float) → Front (demand b.inputs) b.list l → length b.answered < length b.list → take 6 (drop (6 * length b.answered) l) ≡ six (current b)
lent_part_is_current b l f h = rw f.list_is (six_of_flat b.list f.tail (length b.answered) h)

seed_agrees : (i : Inputs) (b : Book) (l : List Float) (n : ℕ) → State i b l → Agrees (run_call (run_of b) l (seed n)) (book_seed b n)
unfolding run_call seed_part seed_lent book_seed
seed_agrees i b l n f =
    let d = lent_part_too_short (demand b.inputs) l n f.there.long in
    let t = run_of_sound i b f.good in
    case b.waits
    (λ w. case (ltb n (demand b.inputs))
    (λ s. simp (run-fields, t, w, s, lt-leb (demand b.inputs) (length (take n l)) (ltb-true (length (take n l)) (demand b.inputs) (d ∙ s))) (unchanged_agrees b l f.there (part [])))
    (λ s.
    let g = front_of_lent_part (demand b.inputs) b.list l n f.there (ltb-false n (demand b.inputs) s) in
    simp (run-fields, t, w, s, le-leb (demand b.inputs) (length (take n l)) g.long, lent_part_is_current b (take n l) g (f.good.room (book_not_over_where_seed_waits i b f.good w))) (unchanged_agrees b l f.there (part (six (current b))))))
    (λ w. simp (run-fields, t, w) (unchanged_agrees b l f.there (part [])))

-- ---- Result
result_agrees : (i : Inputs) (b : Book) (l : List Float) → State i b l → Agrees (run_call (run_of b) l ask) (book_result b)
unfolding run_call result_def book_result
result_agrees i b l f =
    let t = run_of_sound i b f.good in
    case b.over
    (λ o. case_chosen (run_best_of b) (λ e. simp (result_def, unless, run-fields, run-bests, t, o, e) (unchanged_agrees b l f.there (refused NothingScored))) (λ v e. simp (result_def, unless, run-fields, run-bests, t, o, e) (unchanged_agrees b l f.there (result v))))
    (λ o. simp (result_def, unless, run-fields, t, o) (unchanged_agrees b l f.there (refused NotOver)))

-- ---- Progress
pub progress_def_of_run : (i : Inputs) (b : Book) → Good i b
    → progress_def (run_of b) ≡ record { round = b.round; rounds = b.inputs.rounds; answered = length b.answered; total = length b.list; answered_in_run = number b }
unfolding progress_def
progress_def_of_run i b g = simp (run-fields, run_of_sound i b g)

progress_agrees : (i : Inputs) (b : Book) (l : List Float) → State i b l → Agrees (run_call (run_of b) l progress) (book_progress b)
unfolding run_call book_progress
progress_agrees i b l f = simp (progress_def_of_run i b f.good) (unchanged_agrees b l f.there (bar _))

-- ---- Stop
left_seeds_is_left_in : (b : Book) (l : List Float) → ListInFront b l → length b.answered ≤ length b.list → (b.waits ≡ true → length b.answered < length b.list)
    → left_seeds (run_of b) l ≡ left_in b
unfolding left_seeds
left_seeds_is_left_in b l f h k =
    case b.waits
    (λ w. simp (run-fields, w) (left_after b l f (k w)))
    (λ w. simp (run-fields, w) (seeds_between_of_front b.list l (length b.answered) f h))
  where
    left_after : (b : Book) (l : List Float) → ListInFront b l → length b.answered < length b.list
        → current b ∷ seeds_between l (length b.answered + 1) (length b.list) ≡ left_in b
    left_after b l f k =
        rw (add-one (length b.answered), seeds_between_of_front b.list l (suc (length b.answered)) f (omega arith))
        (sym (drop-cons b.list (length b.answered) no_seed k))

best_so_far_is_run_best : (b : Book) → best_so_far (run_of b) ≡ best_candidate (held (run_best_of b))
unfolding best_so_far
best_so_far_is_run_best b = case_chosen (run_best_of b) (λ e. simp (run-bests, e)) (λ w e. simp (run-bests, e))

outlook_reads_as_rest : (c : Chosen) (ss : List CandidateSeed) → stopped_reply (Ok (outlook_of (best_candidate (held c)) ss)) ≡ stopped c (rest_of ss c)
unfolding outlook_of rest_of no_best
outlook_reads_as_rest nothing [] = refl
outlook_reads_as_rest nothing (s ∷ ss) = refl
outlook_reads_as_rest (chosen w) [] = refl
outlook_reads_as_rest (chosen w) (s ∷ ss) = refl

outlook_reads_as_rest_in : (b : Book) → stopped_reply (Ok (outlook_of (best_candidate (held (run_best_of b))) (left_in b))) ≡ stopped (run_best_of b) (rest_in b)
outlook_reads_as_rest_in b = outlook_reads_as_rest (run_best_of b) (left_in b)

pub stop_def_of_run : (i : Inputs) (b : Book) (l : List Float) (n : ℕ) → State i b l
    → stop_def (run_of b) (take n l) ≡ cond (ltb n (demand b.inputs)) (Err ListShortened) (Ok (outlook_of (best_candidate (held (run_best_of b))) (left_in b)))
unfolding stop_def
stop_def_of_run i b l n f =
    let d = lent_part_too_short (demand b.inputs) l n f.there.long in
    let t = run_of_sound i b f.good in
    case (ltb n (demand b.inputs))
    (λ s. simp (run-fields, t, d, s))
    (λ s.
    let g = front_of_lent_part (demand b.inputs) b.list l n f.there (ltb-false n (demand b.inputs) s) in
    simp (run-fields, t, d, s, best_so_far_is_run_best b, left_seeds_is_left_in b (take n l) g (answered_le_list i b f.good) (λ w. f.good.room (book_not_over_where_seed_waits i b f.good w))))

stop_agrees : (i : Inputs) (b : Book) (l : List Float) (n : ℕ) → State i b l → Agrees (run_call (run_of b) l (stop n)) (book_stop b n)
unfolding run_call book_stop
stop_agrees i b l n f =
    case (ltb n (demand b.inputs))
    (λ s. simp (unless, stop_def_of_run i b l n f, s) (unchanged_agrees b l f.there (refused ListShortened)))
    (λ s. simp (unless, stop_def_of_run i b l n f, s, outlook_reads_as_rest_in b) (unchanged_agrees b l f.there (stopped (run_best_of b) (rest_in b))))

-- ---- the last line
abbrev OnLast : (Entry → Type 0) → Option Entry → Type 0
OnLast P none = Unit {0}
OnLast P (some e) = P e

last_of_all : (P : Entry → Type 0) (es : List Entry) → All P es → OnLast P (last_of es)
unfolding last_of
last_of_all P [] h = tt
last_of_all P (d ∷ es) h = case_option (last_of es) (λ n. simp (last_of, n) h.0) (λ e n. let ih = last_of_all P es h.1 in simp (last_of, n) (rw n at ih))

-- the line of an entry, scored or skipped
last_def_is_line : (i : Inputs) (n r : ℕ) (s : CandidateSeed) (o : Outcome) → Stands i s.sensor o → (x : Run) → rec.sound x ≡ true → x.last ≡ rec.last_answer n r s (recorded_as o)
    → last_def x ≡ Some (record { number = n; round = r; seed = s; outcome = recorded_as o })
unfolding last_def has_line recorded_in
last_def_is_line i n r s (Ok g) p x t h = simp (t, h)
last_def_is_line i n r s (Err HostFailed) p x t h = simp (t, h)
last_def_is_line i n r s (Err BadCamera) p x t h = simp (t, h)
last_def_is_line i n r s (Err NoMean) p x t h = simp (t, h)
last_def_is_line i n r s (Err NoNumber) p x t h = simp (t, h)

last_def_none : (x : Run) → x.last ≡ rec.no_answer → last_def x ≡ None
unfolding last_def has_line
last_def_none x h = case (rec.sound x) (λ t. simp (h, t)) (λ t. simp (h, t))

-- the last of a book's entries, and its line
pub last_entry_proper : (i : Inputs) (b : Book) (e : Entry) → Good i b → last_of (entries b) ≡ some e → Proper b.inputs e
last_entry_proper i b e g n = rw n at (last_of_all (Proper b.inputs) (entries b) g.core.proper)

pub last_def_of_run : (i : Inputs) (b : Book) (e : Entry) → Good i b → last_of (entries b) ≡ some e → last_def (run_of b) ≡ Some (line_of e)
last_def_of_run i b e g n =
    last_def_is_line b.inputs e.number e.round e.seed e.outcome (last_entry_proper i b e g n).stands (run_of b) (run_of_sound i b g) (run_last b ∙ ap last_in n)

last_agrees : (i : Inputs) (b : Book) (l : List Float) → State i b l → Agrees (run_call (run_of b) l last) (book_last b)
unfolding run_call book_last
last_agrees i b l f =
    case_option (last_of (entries b))
    (λ n. record { reply = simp n (ap last_reply (last_def_none (run_of b) (run_last b ∙ ap last_in n))); run = refl; there = f.there })
    (λ e n. record { reply = simp n (ap last_reply (last_def_of_run i b e f.good n)); run = refl; there = f.there })

-- ---- Counts
pub counts_def_of_run : (i : Inputs) (b : Book) → Good i b → counts_def (run_of b) ≡ tally (entries b)
unfolding counts_def
counts_def_of_run i b g = simp (run-fields, run_of_sound i b g)

counts_agrees : (i : Inputs) (b : Book) (l : List Float) → State i b l → Agrees (run_call (run_of b) l counts) (book_counts b)
unfolding run_call book_counts
counts_agrees i b l f = simp (counts_def_of_run i b f.good) (unchanged_agrees b l f.there (counted (tally (entries b))))

-- ---- the end of a round
-- the run and the lent list that go with a book
pub record GoesWith (x : ans.Left) (b : Book) : Type 0 where
  pub run : x.run ≡ run_of b
  pub there : ListInFront b x.list

ended_run_of : (b : Book) → b.waits ≡ false → rec.ended (run_of b) ≡ run_of (with_end b)
unfolding rec.ended run_of with_end round_best_of run_best_of
ended_run_of b w = rw w

ended_goes_with_end : (b : Book) (l : List Float) → b.waits ≡ false → ListInFront b l → GoesWith (ans.left (rec.ended (run_of b)) l) (with_end b)
unfolding with_end
ended_goes_with_end b l w f = record { run = ended_run_of b w; there = f }

-- the step of the next round
step_of_next_round : (n : ℕ) (s : Float) → cond (eqb n 0) s (step_of n s *₆₄ half₆₄) ≡ step_of (suc n) s
unfolding step_of
step_of_next_round zero s = refl
step_of_next_round (suc n) s = simp (eqb-suc-zero n)

next_step_of_run : (b : Book) → rec.next_step (run_of b) ≡ step_of (suc b.round) b.inputs.step
unfolding rec.next_step run_of
next_step_of_run b = step_of_next_round b.round b.inputs.step

pub next_seeds_of_run : (b : Book) (w : Candidate) → ans.next_seeds (run_of b) w ≡ list_around b.inputs (suc b.round) w
unfolding ans.next_seeds list_around
next_seeds_of_run b w = simp (next_step_of_run, run_max, run_one_axis)

waiting_is_nobody : (b : Book) → b.waits ≡ false → (run_of b).waiting ≡ rec.no_waiting_seed
waiting_is_nobody b w = simp (run_waiting, w)

-- an opened run whose step and waiting seed are given by equations
abbrev opened_with : Run → ℕ → Float → Waiting → Run
opened_with r n s q =
    let p = r.place in
    record {
      options = r.options;
      center = r.center;
      place = record { demand = p.demand; round = p.round + 1; step = s; len = n; at = 0; number = p.number; over = p.over };
      waiting = q;
      round_best = no_best;
      run_best = r.run_best;
      last = r.last;
      counts = r.counts;
    }

round_opened_is_opened_with : (r : Run) (n : ℕ) (s : Float) (q : Waiting) → rec.next_step r ≡ s → r.waiting ≡ q → rec.round_opened r n ≡ opened_with r n s q
unfolding rec.round_opened
round_opened_is_opened_with r n s q e f = rw (e, f)

pub round_opened_run_of : (b : Book) (ss : List CandidateSeed) → b.waits ≡ false → rec.round_opened (run_of b) (length ss) ≡ run_of (with_round b ss)
round_opened_run_of b ss w = round_opened_is_opened_with (run_of b) (length ss) (step_of (suc b.round) b.inputs.step) rec.no_waiting_seed (next_step_of_run b) (waiting_is_nobody b w) ∙ rest b ss
  where
    rest : (b : Book) (ss : List CandidateSeed) → opened_with (run_of b) (length ss) (step_of (suc b.round) b.inputs.step) rec.no_waiting_seed ≡ run_of (with_round b ss)
    rest b ss = unfold run_of with_round round_best_of run_best_of best_of first_unbeaten scored_of in simp (append-nil, add-one)

held_or_else : (a c : Chosen) → or_best (held a) (held c) ≡ held (or_else a c)
unfolding no_best
held_or_else nothing c = refl
held_or_else (chosen w) c = refl

pub run_bests_or_else : (b : Book) → or_best (run_of b).round_best (run_of b).run_best ≡ held (or_else (round_best_of b) (run_best_of b))
run_bests_or_else b = rw (run_round_best b, run_run_best b) (held_or_else (round_best_of b) (run_best_of b))

opened_goes_with_round : (b : Book) (l : List Float) (s : CandidateSeed) (ss : List CandidateSeed) → b.waits ≡ false → ListInFront b l → 54 ≤ demand b.inputs → length (s ∷ ss) ≤ 9
    → GoesWith (ans.left (rec.round_opened (run_of b) (length (s ∷ ss))) (written (s ∷ ss) l)) (with_round b (s ∷ ss))
unfolding with_round
opened_goes_with_round b l s ss w f d n = record { run = round_opened_run_of b (s ∷ ss) w; there = front_of_written (demand b.inputs) (s ∷ ss) l f.long (omega arith) }

-- a round whose list is empty
module _ (b : Book) where
  empty_round_keeps_inputs : ((with_round b []).waits ≡ false) × ((with_round b []).inputs ≡ b.inputs)
  unfolding with_round
  empty_round_keeps_inputs = (refl, refl)

  empty_round_keeps_list_in_front : (l : List Float) → ListInFront b l → ListInFront (with_round b []) l
  unfolding with_round
  empty_round_keeps_list_in_front l f = front_of_no_seeds (demand b.inputs) b.list l f

-- the end of a round, with k further rounds asked for
abbrev CloseAgrees : ℕ → Type 0
CloseAgrees k = (b : Book) (l : List Float) → b.waits ≡ false → ListInFront b l → 54 ≤ demand b.inputs → GoesWith (ans.close_round k (run_of b) l) (close_round k b)

close_agrees_zero : CloseAgrees 0
unfolding ans.close_round close_round
close_agrees_zero b l w f d = ended_goes_with_end b l w f

close_agrees_suc : (k : ℕ) → CloseAgrees k → CloseAgrees (suc k)
unfolding ans.close_round close_round no_best
close_agrees_suc k ih b l v f d =
    case_chosen (or_else (round_best_of b) (run_best_of b))
    (λ q. simp (ans.close_round, close_round, run_bests_or_else b, q) (ended_goes_with_end b l v f))
    (λ w q.
    case_list (list_around b.inputs (suc b.round) w)
    (λ t. simp (ans.close_round, close_round, run_bests_or_else b, q, next_seeds_of_run, t, round_opened_run_of b [] v) (ih (with_round b []) l (empty_round_keeps_inputs b).0 (empty_round_keeps_list_in_front b l f) (rw (empty_round_keeps_inputs b).1 d)))
    (λ s ss t.
    let n : length (s ∷ ss) ≤ 9 = rw t at (list_around_le_nine b.inputs (suc b.round) w) in
    simp (ans.close_round, close_round, run_bests_or_else b, q, next_seeds_of_run, t) (opened_goes_with_round b l s ss v f d n)))

close_agrees : (k : ℕ) → CloseAgrees k
close_agrees zero = close_agrees_zero
close_agrees (suc k) = close_agrees_suc k (close_agrees k)

-- ---- the scored candidates of a longer list
pub scored_of_append : (a b : List Entry) → scored_of (a ++ b) ≡ scored_of a ++ scored_of b
unfolding scored_of
scored_of_append [] b = refl
scored_of_append (e ∷ a) b =
    case_result e.outcome
    (λ s h. simp (scored_of, h, scored_of_append a b))
    (λ reason h. simp (scored_of, h, scored_of_append a b))

-- ---- an outcome is entered
with_outcome_is_best : (b : Book) (o : Outcome) (es : List Entry)
    → rec.with_outcome (held (best_of (scored_of es))) (number b) (current b).sensor o ≡ held (best_of (scored_of (es ++ entry b o ∷ [])))
unfolding scored_of rec.with_outcome
with_outcome_is_best b (Err reason) es = simp (scored_of_append, append-nil)
with_outcome_is_best b (Ok s) es = rw (scored_of_append es (entry b (Ok s) ∷ [])) (sym (best_snoc (scored_of es) (candidate_of (number b) (current b).sensor s)))

-- an entered run whose bests, last line and counts are given by equations
abbrev entered_with : Run → Best → Best → LastAnswer → Counts → Run
entered_with r a c d m =
    let p = r.place in
    record {
      options = r.options;
      center = r.center;
      place = record { demand = p.demand; round = p.round; step = p.step; len = p.len; at = p.at + 1; number = p.number + 1; over = p.over };
      waiting = rec.no_waiting_seed;
      round_best = a;
      run_best = c;
      last = d;
      counts = m;
    }

entered_is_entered_with : (r : Run) (o : Outcome) (s : CandidateSeed) (a c : Best) (d : LastAnswer) (m : Counts) → r.waiting.seed ≡ s
    → rec.with_outcome r.round_best r.place.number s.sensor o ≡ a → rec.with_outcome r.run_best r.place.number s.sensor o ≡ c
    → rec.last_answer r.place.number r.place.round s (recorded_as o) ≡ d → with_count r.counts (recorded_as o) ≡ m → rec.entered r o ≡ entered_with r a c d m
unfolding rec.entered
entered_is_entered_with r o s a c d m e f g h k = rw (e, f, g, h, ← k)

pub waiting_seed_is_current : (b : Book) → b.waits ≡ true → (run_of b).waiting.seed ≡ current b
waiting_seed_is_current b w = simp (run_waiting, w)

enter_round_best : (b : Book) (o : Outcome)
    → rec.with_outcome (run_of b).round_best (run_of b).place.number (current b).sensor o ≡ held (best_of (scored_of (b.answered ++ entry b o ∷ [])))
unfolding run_of round_best_of
enter_round_best b o = with_outcome_is_best b o b.answered

enter_run_best : (b : Book) (o : Outcome)
    → rec.with_outcome (run_of b).run_best (run_of b).place.number (current b).sensor o ≡ held (best_of (scored_of (b.earlier ++ (b.answered ++ entry b o ∷ []))))
unfolding run_of run_best_of
enter_run_best b o = with_outcome_is_best b o (entries b) ∙ ap (λ (x : List Entry). held (best_of (scored_of x))) (append_assoc b.earlier b.answered (entry b o ∷ []))

pub last_of_snoc : (es : List Entry) (e : Entry) → last_of (es ++ e ∷ []) ≡ some e
unfolding last_of
last_of_snoc [] e = refl
last_of_snoc (d ∷ es) e = simp (last_of, last_of_snoc es e)

enter_last : (b : Book) (o : Outcome)
    → rec.last_answer (run_of b).place.number (run_of b).place.round (current b) (recorded_as o) ≡ last_in (last_of (b.earlier ++ (b.answered ++ entry b o ∷ [])))
unfolding run_of
enter_last b o = ap last_in (sym (last_of_snoc (entries b) (entry b o)) ∙ ap last_of (append_assoc b.earlier b.answered (entry b o ∷ [])))

enter_counts : (b : Book) (o : Outcome) → with_count (run_of b).counts (recorded_as o) ≡ tally (b.earlier ++ (b.answered ++ entry b o ∷ []))
unfolding run_of
enter_counts b o = sym (tally_snoc (entries b) (entry b o)) ∙ ap tally (append_assoc b.earlier b.answered (entry b o ∷ []))

entry_adds_one_to_number : (b : Book) (e : Entry) → length (b.earlier ++ (b.answered ++ e ∷ [])) ≡ number b + 1
entry_adds_one_to_number b e = ap length (sym (append_assoc b.earlier b.answered (e ∷ []))) ∙ length-append (entries b) (e ∷ [])

entered_with_is_run_of : (b : Book) (o : Outcome)
    → entered_with (run_of b) (held (best_of (scored_of (b.answered ++ entry b o ∷ [])))) (held (best_of (scored_of (b.earlier ++ (b.answered ++ entry b o ∷ [])))))
    (last_in (last_of (b.earlier ++ (b.answered ++ entry b o ∷ [])))) (tally (b.earlier ++ (b.answered ++ entry b o ∷ [])))
    ≡ run_of (with_entry b o)
unfolding run_of with_entry round_best_of run_best_of
entered_with_is_run_of b o =
    let p : length (b.answered ++ entry b o ∷ []) ≡ length b.answered + 1 = length-append b.answered (entry b o ∷ []) in
    rw (p, entry_adds_one_to_number b (entry b o))

pub entered_run_of : (b : Book) (o : Outcome) → b.waits ≡ true → rec.entered (run_of b) o ≡ run_of (with_entry b o)
entered_run_of b o w =
    entered_is_entered_with (run_of b) o (current b) (held (best_of (scored_of (b.answered ++ entry b o ∷ [])))) (held (best_of (scored_of (b.earlier ++ (b.answered ++ entry b o ∷ [])))))
    (last_in (last_of (b.earlier ++ (b.answered ++ entry b o ∷ [])))) (tally (b.earlier ++ (b.answered ++ entry b o ∷ []))) (waiting_seed_is_current b w) (enter_round_best b o)
    (enter_run_best b o) (enter_last b o) (enter_counts b o)
    ∙ entered_with_is_run_of b o

-- ---- entering an outcome: the answer to the list's last seed ends the round
module _ (b : Book) (o : Outcome) where
  entry_keeps_inputs : ((with_entry b o).waits ≡ false) × ((with_entry b o).inputs ≡ b.inputs)
  unfolding with_entry
  entry_keeps_inputs = (refl, refl)

  entry_keeps_list_in_front : (l : List Float) → ListInFront b l → ListInFront (with_entry b o) l
  unfolding with_entry
  entry_keeps_list_in_front l f = f

  -- the round goes on, or ends with its last seed
  enter_goes_on : ltb (length (with_entry b o).answered) (length (with_entry b o).list) ≡ true → book_enter b o ≡ with_entry b o
  unfolding book_enter
  enter_goes_on h = simp h

  enter_closes_round : ltb (length (with_entry b o).answered) (length (with_entry b o).list) ≡ false → book_enter b o ≡ close_round ((with_entry b o).inputs.rounds - (with_entry b o).round) (with_entry b o)
  unfolding book_enter
  enter_closes_round h = simp h

pub enter_agrees : (b : Book) (o : Outcome) (l : List Float) → b.waits ≡ true → ListInFront b l → 54 ≤ demand b.inputs → GoesWith (ans.enter_def (run_of b) l o) (book_enter b o)
unfolding ans.enter_def
enter_agrees b o l w f d =
    let c = with_entry b o in
    case (ltb (length c.answered) (length c.list))
    (λ t. simp (enter_goes_on b o t, entered_run_of b o w, run-fields, t) (record { run = refl; there = entry_keeps_list_in_front b o l f }))
    (λ t. simp (enter_closes_round b o t, entered_run_of b o w, run-fields, t) (close_agrees (c.inputs.rounds - c.round) c l (entry_keeps_inputs b o).0 (entry_keeps_list_in_front b o l f) (rw (entry_keeps_inputs b o).1 d)))

-- ---- Answer
-- a refused Answer gives the lent list back unchanged
refused_agrees : (b : Book) (l : List Float) (n : ℕ) (r : Refusal) → ListInFront b l → Agrees (record { reply = refused r; run = run_of b; list = take n l ++ drop n l }) (book_left (refused r) b)
refused_agrees b l n r f = record { reply = refl; run = refl; there = rw take-append-drop f }

reply_of_is_reply_to : (o : Outcome) → answered_reply (Ok (ans.reply_of o)) ≡ reply_to o
reply_of_is_reply_to (Ok s) = refl
reply_of_is_reply_to (Err reason) = refl

pub outcome_agrees : (b : Book) (f : Finding) (rows : List Float) (flags : List ℕ) → b.waits ≡ true → ans.outcome_for (run_of b) f rows flags ≡ book_outcome b f rows flags
unfolding ans.outcome_for
outcome_agrees b f rows flags w = simp (run-fields, w)

-- what Answer refuses: 12, 10, and then what is refused of the finding
module _ (i : Inputs) (b : Book) (l : List Float) (n : ℕ) (f : Finding) (rows : List Float) (flags : List ℕ) (g : State i b l) where
  abbrev pub refused_for : Result ⊤ Refusal
  refused_for = ans.answer_refusal (run_of b) (length (take n l)) f rows flags

  pub refused_where_none_waits : b.waits ≡ false → refused_for ≡ Err NoSeedWaiting
  refused_where_none_waits w = simp (ans.answer_refusal, run-fields, run_of_sound i b g.good, w)

  pub refused_where_list_short : b.waits ≡ true → ltb n (demand b.inputs) ≡ true → refused_for ≡ Err ListShortened
  refused_where_list_short w s = simp (ans.answer_refusal, run-fields, run_of_sound i b g.good, w, lent_part_too_short (demand b.inputs) l n g.there.long, s)

  pub refused_for_finding : b.waits ≡ true → ltb n (demand b.inputs) ≡ false → refused_for ≡ finding_refusal f (current b).sensor rows flags
  refused_for_finding w s = simp (ans.answer_refusal, run-fields, run_of_sound i b g.good, w, lent_part_too_short (demand b.inputs) l n g.there.long, s)

answer_agrees : (i : Inputs) (b : Book) (l : List Float) (n : ℕ) (f : Finding) (rows : List Float) (flags : List ℕ) → State i b l
    → Agrees (run_call (run_of b) l (answer n f rows flags)) (book_answer b n f rows flags)
unfolding run_call book_answer
answer_agrees i b l n f rows flags g =
    let m = take n l in
    let refused_with = λ (e : Refusal) (h : refused_for i b l n f rows flags g ≡ Err e). answer_refused (run_of b) f rows flags m e h in
    case b.waits
    (λ w. case (ltb n (demand b.inputs))
    (λ s. simp (refused_with ListShortened (refused_where_list_short i b l n f rows flags g w s), unless, w, s) (refused_agrees b l n ListShortened g.there))
    (λ s. case_result (finding_refusal f (current b).sensor rows flags)
    (λ u z.
    let o = book_outcome b f rows flags in
    let e = enter_agrees b o m w (front_of_lent_part (demand b.inputs) b.list l n g.there (ltb-false n (demand b.inputs) s)) g.good.core.sized.least in
    let k = answer_enters (run_of b) f rows flags m o (sym (outcome_agrees b f rows flags w)) (refused_for_finding i b l n f rows flags g w s ∙ z) in
    simp (k, unless, w, s, z) (record { reply = reply_of_is_reply_to o; run = e.run; there = front_of_longer_list _ (book_enter b o).list (ans.enter_def (run_of b) m o).list (drop n l) e.there }))
    (λ r z. simp (refused_with r (refused_for_finding i b l n f rows flags g w s ∙ z), unless, w, s, z) (refused_agrees b l n r g.there))))
    (λ w. simp (refused_with NoSeedWaiting (refused_where_none_waits i b l n f rows flags g w), unless, w) (refused_agrees b l n NoSeedWaiting g.there))

pub call_agrees : (i : Inputs) (b : Book) (l : List Float) (c : Call) → State i b l → Agrees (run_call (run_of b) l c) (book_call b c)
unfolding book_call
call_agrees i b l (next n) f = next_agrees i b l n f
call_agrees i b l (seed n) f = seed_agrees i b l n f
call_agrees i b l (answer n f rows flags) g = answer_agrees i b l n f rows flags g
call_agrees i b l ask f = result_agrees i b l f
call_agrees i b l progress f = progress_agrees i b l f
call_agrees i b l (stop n) f = stop_agrees i b l n f
call_agrees i b l last f = last_agrees i b l f
call_agrees i b l counts f = counts_agrees i b l f
