-- What Answer can rely on where none of its refusals holds, how a round ends, and what is entered. Assumes nothing.
use Rattle.std.specs.Prelude.{ℕ, zero, suc, ◌+◌, ◌-◌, ◌≤◌, ◌<◌, ◌≡◌, refl, true, false, not, ◌&&◌, List, [], ◌∷◌, ltb, length, Float, Some, None, Result, Ok, Err, ⊤}
use Rattle.std.proofs.lemmas.Option.{none-some, same_Some}
use Rattle.std.proofs.Common.{sym, ap, ◌∙◌, arith}
use borrow.Author.Tests.{ltb-false, not-false, lt-ltb, le-ltb}
use Rattle.common.specs.Tests.{case, both_true}
use Rattle.common.specs.declared.Refusal.{Refusal}
use Rattle.common.specs.declared.Refusal.TheVariants.{NoSeedWaiting, ListShortened}
use Rattle.common.specs.ChecksLaws.{refuses_none}
use Rattle.seeds.specs.declared.CandidateSeed.{CandidateSeed}
use Rattle.seeds.specs.Layout.{laid, six, Leaves}
use Rattle.seeds.specs.Rules.{offsets, y_offsets, next_list}
use Rattle.score.specs.declared.outcome.Finding.{Finding}
use Rattle.score.specs.Reasons.{Outcome}
use Rattle.score.specs.Evaluation.{finding_refusal}
use Rattle.score.specs.declared.best.Best.{Best}
use Rattle.score.specs.Best.{or_best, best_candidate}
use Rattle.score.specs.declared.best.Candidate.{Candidate}
use Rattle.search.specs.Record.{sound, entered, next_step, round_opened, ended}
use Rattle.search.specs.Answer.{Left, left, run_refusal, answer_refusal, next_seeds, open_round, close_round, enter_def, outcome_for, reply_of, answer_def}
use Rattle.search.specs.declared.run.Run.{Run}

-- ---- the seeds at the next round's step are its list
pub leaves_next_seeds : (r : Run) (c : Candidate) (s : Float) (l m : List Float) (n : ℕ) → s ≡ next_step r
    → Leaves six 6 (next_list (offsets s) (y_offsets r.options.one_axis s) c.sensor c.camera.k r.options.max_abs_tilt) l m n → Leaves six 6 (next_seeds r c) l m n
unfolding next_seeds
leaves_next_seeds r c s l m n is h = rw (← is) h

-- ---- a best that has a candidate is found, and one that has none isn't
found_if_best_candidate : (b : Best) (w : Candidate) → best_candidate b ≡ Some w → (b.found ≡ true) × (b.candidate ≡ w)
found_if_best_candidate b w h = case b.found (λ f. (f, same_Some _ _ (simp f at h))) (λ f. absurd (none-some w (simp f at h)))

not_found_if_no_best_candidate : (b : Best) → best_candidate b ≡ None → b.found ≡ false
not_found_if_no_best_candidate b h = case b.found (λ f. absurd (none-some b.candidate (sym (simp f at h)))) (λ f. f)

-- ---- the end of a round, one list at a time
open_round_with_seeds : (r : Run) (l m : List Float) (n : ℕ) (ss : List CandidateSeed) (rest : Left) → Leaves six 6 ss l m n → (n ≡ 0 → ⊥) → open_round r l ss rest ≡ left (round_opened r n) m
open_round_with_seeds r l m n [] rest h k = absurd (k h.count_is)
open_round_with_seeds r l m n (s ∷ ss) rest h k = rw (h.count_is, h.list_is)

open_round_without_seeds : (r : Run) (l m : List Float) (n : ℕ) (ss : List CandidateSeed) (rest : Left) → Leaves six 6 ss l m n → n ≡ 0 → (open_round r l ss rest ≡ rest) × (m ≡ l)
unfolding laid
open_round_without_seeds r l m n [] rest h k = (refl, h.list_is)
open_round_without_seeds r l m n (s ∷ ss) rest h k = absurd (omega (arith, h.count_is))

pub close_round_after_last : (n : ℕ) (r : Run) (l : List Float) → n ≤ 0 → close_round n r l ≡ left (ended r) l
unfolding close_round
close_round_after_last zero r l h = refl
close_round_after_last (suc k) r l h = absurd (omega arith)

pub close_round_without_best : (n : ℕ) (r : Run) (l : List Float) → 0 < n → best_candidate (or_best r.round_best r.run_best) ≡ None
    → close_round n r l ≡ left (ended r) l
unfolding close_round
close_round_without_best zero r l p e = absurd (omega arith)
close_round_without_best (suc k) r l p e = rw (not_found_if_no_best_candidate _ e)

pub close_round_opens_next : (n : ℕ) (r : Run) (l : List Float) (w : Candidate) (m : List Float) (len : ℕ) → 0 < n → best_candidate (or_best r.round_best r.run_best) ≡ Some w
    → Leaves six 6 (next_seeds r w) l m len → (len ≡ 0 → ⊥) → close_round n r l ≡ left (round_opened r len) m
unfolding close_round
close_round_opens_next zero r l w m len p e h z = absurd (omega arith)
close_round_opens_next (suc k) r l w m len p e h z = let q = found_if_best_candidate _ w e in rw (q.0, q.1) (open_round_with_seeds r l m len (next_seeds r w) _ h z)

pub opened_keeps_options_adds_round : (r e : Run) (n : ℕ) → e ≡ round_opened r n → (e.options ≡ r.options) × (e.place.round ≡ r.place.round + 1)
unfolding round_opened
opened_keeps_options_adds_round r e n is = (ap (λ (x : Run). x.options) is, ap (λ (x : Run). x.place.round) is)

close_round_past_empty_list : (n : ℕ) (r : Run) (l : List Float) (w : Candidate) (m : List Float) (len : ℕ) → 0 < n → best_candidate (or_best r.round_best r.run_best) ≡ Some w
    → Leaves six 6 (next_seeds r w) l m len → len ≡ 0 → close_round n r l ≡ close_round (n - 1) (round_opened r 0) m
unfolding close_round
close_round_past_empty_list zero r l w m len p e h z = absurd (omega arith)
close_round_past_empty_list (suc k) r l w m len p e h z =
    let one_less : suc k - 1 ≡ k = omega arith in
    let f = found_if_best_candidate _ w e in
    let q = open_round_without_seeds r l m len (next_seeds r w) (close_round k (round_opened r 0) l) h z in
    rw (f.0, f.1, one_less, q.1) q.0

pub close_round_after_empty_round : (r o : Run) (l : List Float) (w : Candidate) (m : List Float) (len : ℕ) → r.place.round < r.options.refine_rounds → best_candidate (or_best r.round_best r.run_best) ≡ Some w
    → Leaves six 6 (next_seeds r w) l m len → len ≡ 0 → o ≡ round_opened r len
    → close_round (r.options.refine_rounds - r.place.round) r l ≡ close_round (o.options.refine_rounds - o.place.round) o m
unfolding round_opened
close_round_after_empty_round r o l w m len p e h z is =
    let n = r.options.refine_rounds in
    let one_more : n - (r.place.round + 1) ≡ n - r.place.round - 1 = omega arith in
    rw (is, z, one_more) (close_round_past_empty_list (n - r.place.round) r l w m len (omega arith) e h z)

-- ---- Answer where none of its refusals holds
pub record Answerable (r : Run) (n : ℕ) : Type 0 where
  pub is_sound : sound r ≡ true
  pub waits : r.waiting.is_waiting ≡ true
  pub demand_fits : r.place.demand ≤ n

-- what is refused of the run alone comes before the finding's refusals
run_not_refused_if_accepted : (x y : Result ⊤ Refusal) → ◌≡◌ {A = Result ⊤ Refusal} (elim x [ Ok _ ↦ y | Err refusal ↦ Err refusal ]) (Ok tt) → x ≡ Ok tt
run_not_refused_if_accepted (Ok _) y h = refl
run_not_refused_if_accepted (Err e) y h = cc

pub answer_passed : (r : Run) (n : ℕ) (f : Finding) (rows : List Float) (flags : List ℕ) → answer_refusal r n f rows flags ≡ Ok tt → Answerable r n
answer_passed r n f rows flags h =
    let k = run_not_refused_if_accepted (run_refusal r n) (finding_refusal f r.waiting.seed.sensor rows flags) h in
    let p = refuses_none (not (sound r && r.waiting.is_waiting)) NoSeedWaiting _ k in
    let q = refuses_none (ltb n r.place.demand) ListShortened _ p.1 in
    let w = both_true (sound r) r.waiting.is_waiting (not-false _ p.0) in
    record { is_sound = w.0; waits = w.1; demand_fits = ltb-false n _ q.0 }

-- ---- an outcome is entered
module _ (r e : Run) (l : List Float) (o : Outcome) (is : e ≡ entered r o) where
  pub enter_goes_on : e.place.at < e.place.len → enter_def r l o ≡ left e l
  unfolding enter_def
  enter_goes_on h = rw (← is, lt-ltb _ _ h)

  pub enter_closes : e.place.len ≤ e.place.at → enter_def r l o ≡ close_round (e.options.refine_rounds - e.place.round) e l
  unfolding enter_def
  enter_closes h = rw (← is, le-ltb _ _ h)

pub entered_keeps_options_and_round : (r e : Run) (o : Outcome) → e ≡ entered r o → (e.options ≡ r.options) × (e.place.round ≡ r.place.round)
unfolding entered
entered_keeps_options_and_round r e o is = (ap (λ (x : Run). x.options) is, ap (λ (x : Run). x.place.round) is)

-- ---- what Answer gives where it refuses, and where it doesn't
module _ (r : Run) (f : Finding) (rows : List Float) (flags : List ℕ) (l : List Float) where
  answer_def_by_refusal : (x : Result ⊤ Refusal) → answer_refusal r (length l) f rows flags ≡ x
      → answer_def r f rows flags l ≡ elim x [
        | Ok _ ↦ let o = outcome_for r f rows flags in record { reply = record { reply = Ok (reply_of o); run = (enter_def r l o).run }; list = (enter_def r l o).list }
        | Err refusal ↦ record { reply = record { reply = Err refusal; run = r }; list = l }
      ]
  unfolding answer_def
  answer_def_by_refusal x h = ap (λ (y : Result ⊤ Refusal). elim y [
    | Ok _ ↦ let o = outcome_for r f rows flags in record { reply = record { reply = Ok (reply_of o); run = (enter_def r l o).run }; list = (enter_def r l o).list }
    | Err refusal ↦ record { reply = record { reply = Err refusal; run = r }; list = l }
  ]) h

  pub answer_refused : (e : Refusal) → answer_refusal r (length l) f rows flags ≡ Err e → answer_def r f rows flags l ≡ record { reply = record { reply = Err e; run = r }; list = l }
  answer_refused e h = answer_def_by_refusal (Err e) h

  -- where o is the outcome
  pub answer_enters : (o : Outcome) → o ≡ outcome_for r f rows flags → answer_refusal r (length l) f rows flags ≡ Ok tt
      → answer_def r f rows flags l ≡ record { reply = record { reply = Ok (reply_of o); run = (enter_def r l o).run }; list = (enter_def r l o).list }
  answer_enters o is h = answer_def_by_refusal (Ok tt) h ∙ rw (← is)
