-- What a call does to the book: nothing, or Next hands out a seed, or Answer enters an outcome. What these two keep
-- therefore holds of every book after any calls. Assumes nothing.
use Rattle.std.proofs.Common.{ℕ, zero, suc, ◌-◌, ◌≡◌, refl, sym, ◌∙◌, ◌⊎◌, inl, inr, true, false, not, ◌&&◌, cond, List, [], ◌∷◌, ◌++◌, append_assoc, append-nil, ltb, length, Float, Result, Ok, Err}
use Rattle.std.specs.Prelude.{⊤}
use Rattle.common.specs.declared.Refusal.{Refusal}
use Rattle.common.specs.Tests.{case}
use Rattle.camera.specs.declared.sensor.ScheimpflugParams.{ScheimpflugParams}
use Rattle.seeds.specs.declared.CandidateSeed.{CandidateSeed}
use Rattle.score.specs.declared.outcome.Finding.{Finding}
use Rattle.score.specs.Reasons.{Outcome}
use Rattle.score.specs.Evaluation.{outcome_of, finding_refusal}
use Rattle.score.specs.Facts.{ScoredFacts}
use Rattle.score.proofs.Facts.{scored_facts}
use Rattle.score.specs.declared.best.Candidate.{Candidate}
use Rattle.score.specs.Best.{nothing, chosen}
use Rattle.book.specs.Calls.{Call, next, seed, answer, ask, progress, stop, last, counts}
use Rattle.book.specs.Book.{Inputs, demand, Entry, Book, entries, number, current, round_best_of, run_best_of, or_else, list_around, with_waiting, with_entry, with_round, with_end, close_round, book_enter, book_outcome, BookLeft, book_next, book_seed, book_answer, book_result, book_progress, book_stop, book_call, after, book_last, book_counts}
use Rattle.book.proofs.Cases.{case_chosen, case_list, case_result}

-- the waiting candidate's entry
abbrev pub entry : Book → Outcome → Entry
entry b o = record { number = number b; round = b.round; seed = current b; outcome = o }

-- ---- what may be entered for a seed with the tilts t: any reason, or a scoring with the properties of a scored
-- finding
abbrev pub Stands : Inputs → ScheimpflugParams → Outcome → Type 0
Stands i t (Ok s) = ScoredFacts t i.center s
Stands i t (Err reason) = Unit {0}

pub outcome_stands : (i : Inputs) (f : Finding) (t : ScheimpflugParams) (rows : List Float) (flags : List ℕ) → Stands i t (outcome_of i.share f t i.center rows flags)
outcome_stands i f t rows flags =
    case_result (outcome_of i.share f t i.center rows flags)
    (λ g e. rw e (scored_facts i.share f t i.center rows flags g e))
    (λ reason e. rw e tt)

-- ---- the end of a round, k further ones asked for: P holds of the book before it, and so Q of the book after it
pub record Closing (P : ℕ → Book → Type 0) (Q : Book → Type 0) : Type 0 where
  pub ends : (k : ℕ) (b : Book) → (k ≡ 0) ⊎ (or_else (round_best_of b) (run_best_of b) ≡ nothing) → P k b → Q (with_end b)
  pub skips : (k : ℕ) (b : Book) (w : Candidate) → or_else (round_best_of b) (run_best_of b) ≡ chosen w → list_around b.inputs (suc b.round) w ≡ [] → P (suc k) b → P k (with_round b [])
  pub opens : (k : ℕ) (b : Book) (w : Candidate) (s : CandidateSeed) (ss : List CandidateSeed) → or_else (round_best_of b) (run_best_of b) ≡ chosen w
      → list_around b.inputs (suc b.round) w ≡ s ∷ ss → P (suc k) b → Q (with_round b (s ∷ ss))

module _ {P : ℕ → Book → Type 0} {Q : Book → Type 0} (c : Closing P Q) where
  close_round_by_suc : (k : ℕ) → ((b : Book) → P k b → Q (close_round k b)) → (b : Book) → P (suc k) b → Q (close_round (suc k) b)
  unfolding close_round
  close_round_by_suc k ih b h =
      case_chosen (or_else (round_best_of b) (run_best_of b))
      (λ e. simp (close_round, e) (c.ends (suc k) b (inr e) h))
      (λ w e.
      case_list (list_around b.inputs (suc b.round) w)
      (λ q. simp (close_round, e, q) (ih (with_round b []) (c.skips k b w e q h)))
      (λ s ss q. simp (close_round, e, q) (c.opens k b w s ss e q h)))

  pub close_round_by : (k : ℕ) (b : Book) → P k b → Q (close_round k b)
  unfolding close_round
  close_round_by zero b h = c.ends zero b (inl refl) h
  close_round_by (suc k) b h = close_round_by_suc k (close_round_by k) b h

-- entering an outcome: the round goes on, or ends with its last seed
pub enter_by_round_end : (Q : Book → Type 0) (b : Book) (o : Outcome)
    → (ltb (length (with_entry b o).answered) (length (with_entry b o).list) ≡ true → Q (with_entry b o))
    → (ltb (length (with_entry b o).answered) (length (with_entry b o).list) ≡ false → Q (close_round ((with_entry b o).inputs.rounds - (with_entry b o).round) (with_entry b o)))
    → Q (book_enter b o)
unfolding book_enter
enter_by_round_end Q b o f g = case (ltb (length (with_entry b o).answered) (length (with_entry b o).list)) (λ e. simp e (f e)) (λ e. simp e (g e))

-- ---- the entries, and that no seed waits
abbrev HasEntries : List Entry → Book → Type 0
HasEntries es b = (entries b ≡ es) × (b.waits ≡ false)

closing_keeps_entries : (es : List Entry) → Closing (λ k b. entries b ≡ es) (HasEntries es)
unfolding with_end with_round
closing_keeps_entries es = record {
  ends = λ k b r h. (h, refl);
  skips = λ k b w e q h. append-nil (entries b) ∙ h;
  opens = λ k b w s ss e q h. (append-nil (entries b) ∙ h, refl);
}

entry_adds_entry : (b : Book) (o : Outcome) → HasEntries (entries b ++ entry b o ∷ []) (with_entry b o)
unfolding with_entry
entry_adds_entry b o = (sym (append_assoc b.earlier b.answered (entry b o ∷ [])), refl)

pub enter_adds_entry : (b : Book) (o : Outcome) → HasEntries (entries b ++ entry b o ∷ []) (book_enter b o)
enter_adds_entry b o =
    let es = entries b ++ entry b o ∷ [] in
    enter_by_round_end (HasEntries es) b o (λ e. entry_adds_entry b o) (λ e. close_round_by (closing_keeps_entries es) ((with_entry b o).inputs.rounds - (with_entry b o).round) (with_entry b o) (entry_adds_entry b o).0)

pub waiting_keeps_entries : (b : Book) → (entries (with_waiting b) ≡ entries b) × ((with_waiting b).waits ≡ true)
unfolding with_waiting
waiting_keeps_entries b = (refl, refl)

-- ---- a call
-- the entries that a call adds
abbrev pub entered_for : Result ⊤ Refusal → Entry → List Entry
entered_for (Ok nothing_refused) e = e ∷ []
entered_for (Err refusal) e = []

unfoldable pub entered_by : Book → Call → List Entry
entered_by b (next n) = []
entered_by b (seed n) = []
entered_by b (answer n f rows flags) =
    cond (b.waits && not (ltb n (demand b.inputs))) (entered_for (finding_refusal f (current b).sensor rows flags) (entry b (book_outcome b f rows flags))) []
entered_by b ask = []
entered_by b progress = []
entered_by b (stop n) = []
entered_by b last = []
entered_by b counts = []

pub data Moves (b : Book) (c : Call) (k : BookLeft) : Type 0 where
  stays : k.book ≡ b → entered_by b c ≡ [] → Moves b c k
  hands : b.over ≡ false → b.waits ≡ false → k.book ≡ with_waiting b → entered_by b c ≡ [] → Moves b c k
  enters : (o : Outcome) → b.waits ≡ true → Stands b.inputs (current b).sensor o → k.book ≡ book_enter b o → entered_by b c ≡ entry b o ∷ [] → Moves b c k

pub call_moves : (b : Book) (c : Call) → Moves b c (book_call b c)
unfolding book_call book_next book_seed book_answer book_result book_progress book_stop entered_by book_last book_counts
call_moves b (next n) =
    case b.waits (λ w. simp w (stays refl refl)) (λ w.
    case (ltb n (demand b.inputs)) (λ s. simp (w, s) (stays refl refl)) (λ s.
    case b.over
    (λ o. case_chosen (run_best_of b) (λ e. simp (w, s, o, e) (stays refl refl)) (λ v e. simp (w, s, o, e) (stays refl refl)))
    (λ o. simp (w, s, o) (hands o w refl refl))))
call_moves b (seed n) = stays refl refl
call_moves b (answer n f rows flags) =
    case b.waits
    (λ w. case (ltb n (demand b.inputs))
    (λ s. simp (w, s) (stays refl (simp (w, s))))
    (λ s. case_result (finding_refusal f (current b).sensor rows flags)
    (λ u z. simp (w, s, z) (enters (book_outcome b f rows flags) w (outcome_stands b.inputs f (current b).sensor rows flags) refl (simp (w, s, z))))
    (λ u z. simp (w, s, z) (stays refl (simp (w, s, z))))))
    (λ w. simp w (stays refl (simp w)))
call_moves b ask = case b.over (λ o. case_chosen (run_best_of b) (λ e. simp (o, e) (stays refl refl)) (λ v e. simp (o, e) (stays refl refl))) (λ o. simp o (stays refl refl))
call_moves b progress = stays refl refl
call_moves b (stop n) = case (ltb n (demand b.inputs)) (λ s. simp s (stays refl refl)) (λ s. simp s (stays refl refl))
call_moves b last = stays refl refl
call_moves b counts = stays refl refl

-- so the entries only grow
pub call_adds_entries : (b : Book) (c : Call) → entries (book_call b c).book ≡ entries b ++ entered_by b c
call_adds_entries b c = go (book_call b c) (call_moves b c)
  where
    go : (k : BookLeft) → Moves b c k → entries k.book ≡ entries b ++ entered_by b c
    go k (stays e n) = rw (e, n) (sym (append-nil (entries b)))
    go k (hands o w e n) = rw (e, n) ((waiting_keeps_entries b).0 ∙ sym (append-nil (entries b)))
    go k (enters o w s e n) = rw (e, n) (enter_adds_entry b o).0

-- ---- what Next and Answer keep holds after any calls
pub record Steps (Q : Book → Type 0) : Type 0 where
  pub calm : (b : Book) → Q b → b.waits ≡ true → b.over ≡ false
  pub awaits : (b : Book) → b.over ≡ false → Q b → Q (with_waiting b)
  pub enters_by : (b : Book) (o : Outcome) → b.over ≡ false → Stands b.inputs (current b).sensor o → Q b → Q (book_enter b o)

module _ {Q : Book → Type 0} (s : Steps Q) where
  pub call_keeps : (b : Book) (c : Call) → Q b → Q (book_call b c).book
  call_keeps b c q = go (book_call b c) (call_moves b c)
    where
      go : (k : BookLeft) → Moves b c k → Q k.book
      go k (stays e n) = rw e q
      go k (hands o w e n) = rw e (s.awaits b o q)
      go k (enters o w t e n) = rw e (s.enters_by b o (s.calm b q w) t q)

  pub calls_keep : (b : Book) (cs : List Call) → Q b → Q (after b cs)
  unfolding after
  calls_keep b [] q = q
  calls_keep b (c ∷ cs) q = calls_keep (book_call b c).book cs (call_keeps b c q)
