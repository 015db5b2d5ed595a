-- The five counts are those of the replies and of the journal's lines. They add up to the answers; the seeds handed out
-- are their sum and the waiting one; and a refused call is counted nowhere. Assumes nothing.
use Rattle.std.proofs.Common.{ℕ, ◌+◌, ◌≤◌, arith, ◌≡◌, refl, sym, ap, ◌∙◌, true, false, cond, List, [], ◌∷◌, ◌++◌, map, ltb, length-append, Ok, Err}
use Rattle.common.specs.declared.Refusal.{Refusal}
use mathlib.Core.List.{map-append}
use Rattle.common.specs.Tests.{case}
use Rattle.common.specs.Each.{All}
use Rattle.score.specs.Reasons.{Outcome}
use Rattle.score.specs.Evaluation.{finding_refusal, outcome_of}
use Rattle.journal.specs.Counts.{Kind, kind_of, one_if_of_kind, count_in, counts_in}
use Rattle.journal.proofs.CountLaws.{count_snoc}
use Rattle.journal.specs.Reading.{Lines}
use Rattle.journal.specs.Outcome.{recorded_as}
use Rattle.journal.specs.Report.{total}
use Rattle.book.specs.Calls.{Call, next, seed, answer, ask, Reply, candidate, over, refused, progress, stop, last, counts, counted}
use Rattle.book.specs.Book.{Inputs, demand, Book, entries, number, current, run_best_of, opened, with_waiting, book_enter, BookLeft as Answer, book_next, book_seed, book_answer, book_result, book_progress, book_stop, book_last, last_of, tally, book_counts, book_call, reply_to, replies, after, line_of}
use Rattle.book.proofs.Cases.{case_result, case_chosen, case_option}
use Rattle.book.proofs.Moves.{entry, enter_adds_entry, waiting_keeps_entries}
use Rattle.book.proofs.Good.{Good}
use Rattle.book.proofs.Tally.{tally_total}
use Rattle.book_journal.specs.Lines.{lines_of}
use Rattle.book_journal.specs.History.{Opening, fresh, from, opened_by, History, book_at, InputsFit, CallFits}
use Rattle.book_journal.specs.Counts.{said, said_in, is_answer, answers_in, is_handing, handed_in, CountsAgree, InJournal}
use Rattle.book_journal.proofs.Kept.{history_book_has_trail}
use Rattle.book_journal.proofs.Again.{history_sound, sound_lines_read_back}
use Rattle.book_journal.proofs.Cut.{none_waits}

-- ---- what a call replies, beside what it does: a reply that counts nowhere, Next's candidate, or an outcome
abbrev pub Quiet : Reply → Type 0
Quiet r = ((k : Kind) → said k r ≡ 0) × (is_answer r ≡ 0) × (is_handing r ≡ 0)

pub data Says (b : Book) (k : Answer) : Type 0 where
  quiet : k.book ≡ b → Quiet k.reply → Says b k
  hands_out : b.waits ≡ false → k.book ≡ with_waiting b → k.reply ≡ candidate (number b) → Says b k
  answers_with : (o : Outcome) → b.waits ≡ true → k.book ≡ book_enter b o → k.reply ≡ reply_to o → Says b k

over_is_quiet : Quiet over
over_is_quiet = ((λ k. refl), refl, refl)

pub call_says : (b : Book) (c : Call) → Says b (book_call b c)
unfolding book_call book_next book_seed book_answer book_result book_progress book_stop book_last book_counts
call_says b (next n) =
    case b.waits (λ w. simp w (quiet refl over_is_quiet)) (λ w.
    case (ltb n (demand b.inputs)) (λ s. simp (w, s) (quiet refl over_is_quiet)) (λ s.
    case b.over
    (λ o. case_chosen (run_best_of b) (λ e. simp (w, s, o, e) (quiet refl over_is_quiet)) (λ v e. simp (w, s, o, e) (quiet refl over_is_quiet)))
    (λ o. simp (w, s, o) (hands_out w refl refl))))
call_says b (seed n) = quiet refl over_is_quiet
call_says b (answer n f rows flags) =
    case b.waits
    (λ w. case (ltb n (demand b.inputs))
    (λ s. simp (w, s) (quiet refl over_is_quiet))
    (λ s. case_result (finding_refusal f (current b).sensor rows flags)
    (λ u z. simp (w, s, z) (answers_with (outcome_of b.inputs.share f (current b).sensor b.inputs.center rows flags) w refl refl))
    (λ r z. simp (w, s, z) (quiet refl over_is_quiet))))
    (λ w. simp w (quiet refl over_is_quiet))
call_says b ask = case b.over (λ o. case_chosen (run_best_of b) (λ e. simp (o, e) (quiet refl over_is_quiet)) (λ v e. simp (o, e) (quiet refl over_is_quiet))) (λ o. simp o (quiet refl over_is_quiet))
call_says b progress = quiet refl over_is_quiet
call_says b (stop n) = case (ltb n (demand b.inputs)) (λ t. simp t (quiet refl over_is_quiet)) (λ t. simp t (quiet refl over_is_quiet))
call_says b last = case_option (last_of (entries b)) (λ e. simp e (quiet refl over_is_quiet)) (λ a e. simp e (quiet refl over_is_quiet))
call_says b counts = quiet refl over_is_quiet

-- ---- the reply to an outcome
outcome_reply_counts_kind : (k : Kind) (o : Outcome) → said k (reply_to o) ≡ one_if_of_kind k (kind_of (recorded_as o))
outcome_reply_counts_kind k (Ok s) = refl
outcome_reply_counts_kind k (Err reason) = refl

pub outcome_reply_is_answer : (o : Outcome) → (is_answer (reply_to o) ≡ 1) × (is_handing (reply_to o) ≡ 0)
outcome_reply_is_answer (Ok s) = (refl, refl)
outcome_reply_is_answer (Err reason) = (refl, refl)

-- ---- one more entry
pub enter_adds_line : (b : Book) (o : Outcome) → lines_of (book_enter b o) ≡ lines_of b ++ line_of (entry b o) ∷ []
enter_adds_line b o = ap (map line_of) (enter_adds_entry b o).0 ∙ map-append line_of (entries b) (entry b o ∷ [])

-- which adds one to the count of its kind, as in the run's record
enter_counts_kind : (k : Kind) (b : Book) (o : Outcome) → count_in k (lines_of (book_enter b o)) ≡ count_in k (lines_of b) + one_if_of_kind k (kind_of (recorded_as o))
enter_counts_kind k b o = ap (count_in k) (enter_adds_line b o) ∙ count_snoc k (lines_of b) (line_of (entry b o))

-- ---- one call
abbrev waiting_count : Book → ℕ
waiting_count b = cond b.waits 1 0

call_counts_kind : (k : Kind) (b : Book) (c : Call) → count_in k (lines_of b) + said k (book_call b c).reply ≡ count_in k (lines_of (book_call b c).book)
call_counts_kind k b c = go (book_call b c) (call_says b c)
  where
    go : (d : Answer) → Says b d → count_in k (lines_of b) + said k d.reply ≡ count_in k (lines_of d.book)
    go d (quiet e q) = rw (e, q.0 k) (omega arith)
    go d (hands_out w e r) = rw (e, r, (waiting_keeps_entries b).0) (omega arith)
    go d (answers_with o w e r) = rw (e, r, outcome_reply_counts_kind k o) (sym (enter_counts_kind k b o))

call_counts_answer : (b : Book) (c : Call) → number b + is_answer (book_call b c).reply ≡ number (book_call b c).book
call_counts_answer b c = go (book_call b c) (call_says b c)
  where
    go : (d : Answer) → Says b d → number b + is_answer d.reply ≡ number d.book
    go d (quiet e q) = rw (e, q.1) (omega arith)
    go d (hands_out w e r) = rw (e, r, (waiting_keeps_entries b).0) (omega arith)
    go d (answers_with o w e r) = rw (e, r, (outcome_reply_is_answer o).0, (enter_adds_entry b o).0) (sym (length-append (entries b) (entry b o ∷ [])))

call_counts_handing : (b : Book) (c : Call) → number b + waiting_count b + is_handing (book_call b c).reply ≡ number (book_call b c).book + waiting_count (book_call b c).book
call_counts_handing b c = go (book_call b c) (call_says b c)
  where
    go : (d : Answer) → Says b d → number b + waiting_count b + is_handing d.reply ≡ number d.book + waiting_count d.book
    go d (quiet e q) = rw (e, q.2) (omega arith)
    go d (hands_out w e r) = rw (e, r, (waiting_keeps_entries b).0, (waiting_keeps_entries b).1, w) (omega arith)
    go d (answers_with o w e r) = rw (e, r, (outcome_reply_is_answer o).1, (enter_adds_entry b o).0, (enter_adds_entry b o).1, length-append (entries b) (entry b o ∷ []), w) (omega arith)

-- ---- any calls
calls_count_kind : (k : Kind) (b : Book) (cs : List Call) → count_in k (lines_of b) + said_in k (replies b cs) ≡ count_in k (lines_of (after b cs))
unfolding after replies said_in
calls_count_kind k b [] = omega arith
calls_count_kind k b (c ∷ cs) = let x = call_counts_kind k b c in let y = calls_count_kind k (book_call b c).book cs in omega arith

calls_count_answers : (b : Book) (cs : List Call) → number b + answers_in (replies b cs) ≡ number (after b cs)
unfolding after replies answers_in
calls_count_answers b [] = omega arith
calls_count_answers b (c ∷ cs) = let x = call_counts_answer b c in let y = calls_count_answers (book_call b c).book cs in omega arith

calls_count_handings : (b : Book) (cs : List Call) → number b + waiting_count b + handed_in (replies b cs) ≡ number (after b cs) + waiting_count (after b cs)
unfolding after replies handed_in
calls_count_handings b [] = omega arith
calls_count_handings b (c ∷ cs) = let x = call_counts_handing b c in let y = calls_count_handings (book_call b c).book cs in omega arith

-- ---- a refused call enters nothing
refused_call_keeps_book : (b : Book) (c : Call) (n : Refusal) → (book_call b c).reply ≡ refused n → (book_call b c).book ≡ b
refused_call_keeps_book b c n h = go (book_call b c) (call_says b c) h
  where
    entered : (o : Outcome) → reply_to o ≡ refused n → ⊥
    entered (Ok s) e = let z : ◌≡◌ {A = ℕ} 0 1 = cc in omega arith
    entered (Err reason) e = let z : ◌≡◌ {A = ℕ} 0 1 = cc in omega arith

    go : (d : Answer) → Says b d → d.reply ≡ refused n → d.book ≡ b
    go d (quiet e q) h = e
    go d (hands_out w e r) h = let x : candidate (number b) ≡ refused n = sym r ∙ h in let z : ◌≡◌ {A = ℕ} 0 1 = cc in absurd (omega arith)
    go d (answers_with o w e r) h = absurd (entered o (sym r ∙ h))

-- ---- a history
pub book_number_le_656 : (i : Inputs) (b : Book) → Good i b → number b ≤ 656
book_number_le_656 i b g =
    let n = length-append b.earlier b.answered in
    let c = g.core in
    let f = c.few in
    let k = c.in_rounds in
    let s = c.sized.few_rounds in
    case b.over (λ o. let q = g.full o in omega arith) (λ o. let q = g.room o in omega arith)

none_waits_at_opening : (i : Inputs) (o : Opening) → (opened_by i o).waits ≡ false
unfolding opened
none_waits_at_opening i fresh = refl
none_waits_at_opening i (from bs) = none_waits i [] bs

counts_reply_of_lines : (b : Book) → (book_call b counts).reply ≡ counted (counts_in (lines_of b))
unfolding book_call book_counts tally
counts_reply_of_lines b = refl

pub counts_agree : (i : Inputs) (h : History i) → CountsAgree i h
counts_agree i h =
    let o = opened_by i h.opening in
    let b = book_at h in
    let g = (history_book_has_trail i h).good in
    let t : total (counts_in (lines_of b)) ≡ number b = unfold tally in tally_total (entries b) in
    record {
      tallied = λ k. sym (calls_count_kind k o h.calls);
      replied = counts_reply_of_lines b;
      answers = t ∙ sym (calls_count_answers o h.calls);
      handed_out =
          let x = calls_count_handings o h.calls in
          let w : waiting_count o ≡ 0 = rw (none_waits_at_opening i h.opening) in
          omega arith;
      few = rw t (book_number_le_656 i b g);
      refused_nowhere = refused_call_keeps_book b;
    }

pub in_journal : (i : Inputs) (h : History i) → InputsFit i → All CallFits h.calls → InJournal h
in_journal i h f c k = ap (λ (z : Lines). count_in k z.lines) (sym (sound_lines_read_back i (book_at h) (history_sound i h f c)).read_back)
