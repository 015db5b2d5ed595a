-- What the code of replay and resume tests, as their definitions have it. Assumes nothing.
use Rattle.std.specs.Prelude.{ℕ, ◌+◌, ◌≡◌, refl, Bool, true, false, not, ◌&&◌, ◌||◌, cond, List, [], ◌∷◌, eqb, length, Float, Result, Ok}
use Rattle.std.specs.List.{list_any}
use Rattle.std.proofs.Common.{ap, sym, ◌∙◌, arith, ne_eqb, zero-add}
use Rattle.journal.specs.Reading.{newlines}
use Rattle.search.specs.declared.run.Run.{Run}
use Rattle.common.specs.declared.Refusal.{Refusal}
use Rattle.replay.specs.declared.Standing.{Standing}
use Rattle.replay.specs.declared.ReplayRefusal.{ReplayRefusal}
use Rattle.replay.specs.declared.Resumed.{Resumed}
use Rattle.replay.specs.Walk.{walk_of, walked_as}
use Rattle.replay.specs.Replay.{standing_of, reply_by, reply_to, replay_from}
use Rattle.replay.specs.declared.Walked.{Walked}
use Rattle.replay.specs.Resume.{is_cut_line, resumed_by, resume_from}

no_newline_found_if_none_counted : (s : List ℕ) → not (list_any (λ c. eqb c 10) s) ≡ eqb (newlines s) 0
unfolding newlines
no_newline_found_if_none_counted [] = refl
no_newline_found_if_none_counted (c ∷ s) = by_first (eqb c 10) _ _ (no_newline_found_if_none_counted s)
  where
    by_first : (b x : Bool) (n : ℕ) → not x ≡ eqb n 0 → not (b || x) ≡ eqb (cond b 1 0 + n) 0
    by_first true x n h = sym (ne_eqb (1 + n) 0 (λ q. omega arith))
    by_first false x n h = rw zero-add h

-- the same by a search for one
pub cut_line_by_search : (s : List ℕ) → (not (eqb (length s) 0) && not (list_any (λ c. eqb c 10) s)) ≡ is_cut_line s
cut_line_by_search [] = refl
cut_line_by_search (c ∷ s) = rw (ne_eqb (length (c ∷ s)) 0 (λ q. omega arith)) (no_newline_found_if_none_counted (c ∷ s))

-- ---- what replay and resume give, by Start's reply s and its list l
module _ (s t : Result Run Refusal) (l k : List Float) (bs : List ℕ) (s-is : s ≡ t) (l-is : l ≡ k) where
  module _ (r : Run) (w : Walked) (m : List Float) (h : s ≡ Ok r) (w-is : w ≡ walked_as (walk_of r l bs)) (m-is : m ≡ (walk_of r l bs).list) where
    pub replay_walked : (y : Result Standing ReplayRefusal) → y ≡ reply_by w.walk_end w.lines (standing_of w.run m) → (y ≡ (replay_from t k bs).reply) × (m ≡ (replay_from t k bs).list)
    unfolding reply_to
    replay_walked y y-is = rw (← s-is, ← l-is, h) (y-is ∙ rw (w-is, m-is), m-is)

    pub resume_walked : (y : Resumed) → y ≡ resumed_by w bs → (Ok y ≡ (resume_from t k bs).reply) × (m ≡ (resume_from t k bs).list)
    resume_walked y y-is = rw (← s-is, ← l-is, h) (ap Ok (y-is ∙ ap (λ (v : Walked). resumed_by v bs) w-is), m-is)
