-- When seeds are left, and what the floor of a reply means: it is the lowest penalty of the seeds left, and none of them can score below it, whatever list is lent.
-- Assumes nothing.
use Rattle.std.specs.Prelude.{ℕ, suc, ◌+◌, ◌-◌, ◌≤◌, ◌<◌, ◌≡◌, true, false, ltb, length, Float, Option, Some, None, Ok, Err}
use Rattle.std.proofs.Common.{arith, refl, ap, subst, ◌∙◌}
use mathlib.Core.List.{List, [], ◌∷◌, Memᴰ}
use borrow.Author.Tests.{lt-ltb, le-ltb}
use Rattle.std.specs.Float.Ieee.{lt}
use Rattle.common.specs.declared.Refusal.TheVariants.{ListShortened}
use Rattle.common.specs.Results.{ok_values_equal, refusal_is_no_value}
use Rattle.common.specs.Tests.{case}
use Rattle.camera.specs.declared.math.Pt2.{Pt2}
use Rattle.seeds.specs.declared.CandidateSeed.{CandidateSeed}
use Rattle.score.specs.declared.outcome.Finding.{Finding}
use Rattle.score.specs.declared.outcome.Scoring.{Scoring}
use Rattle.score.specs.Evaluation.{outcome_of}
use Rattle.score.specs.declared.best.Candidate.{Candidate}
use Rattle.score.specs.Floor.{floor_of, seeds_from, seeds_between}
use Rattle.score.proofs.FloorLaws.{outcome_not_below_floor}
use Rattle.search.specs.Record.{sound}
use Rattle.search.specs.Laws.{bounds_of_sound, waiting_run_at_lt_len}
use Rattle.search.specs.declared.run.Run.{Run}
use Rattle.search.specs.declared.stop.Outlook.{Outlook}
use Rattle.search.specs.Stop.{left_seeds, best_so_far, nothing_left, with_floor, outlook_of, stop_def}
use Rattle.search.specs.Theorem.{StopFloorHolds}

-- ---- whether a seed is left
seeds_between_empty : (l : List Float) (i n : ℕ) → n ≤ i → seeds_between l i n ≡ []
unfolding seeds_from
seeds_between_empty l i n h = let e : n - i ≡ 0 = omega arith in rw e

left_seeds_empty : (r : Run) (l : List Float) → sound r ≡ true → r.place.len ≤ r.place.at → left_seeds r l ≡ []
unfolding left_seeds
left_seeds_empty r l s h =
    case r.waiting.is_waiting
    (λ w. let k = waiting_run_at_lt_len r (bounds_of_sound r s) w in absurd (omega arith))
    (λ w. rw w (seeds_between_empty l r.place.at r.place.len h))

-- these seeds are left, and there is a floor
abbrev HasFloor : Option Candidate → List CandidateSeed → Type 0
HasFloor b ss = outlook_of b ss ≡ with_floor b (floor_of ss)

seeds_between_has_floor : (b : Option Candidate) (l : List Float) (i n : ℕ) → i < n → HasFloor b (seeds_between l i n)
unfolding outlook_of seeds_from
seeds_between_has_floor b l i n h = let e : suc (n - suc i) ≡ n - i = omega arith in subst (λ (k : ℕ). HasFloor b (seeds_from l i k)) e refl

left_seeds_has_floor : (b : Option Candidate) (r : Run) (l : List Float) → r.place.at < r.place.len → HasFloor b (left_seeds r l)
unfolding left_seeds outlook_of
left_seeds_has_floor b r l h =
    let p = r.place in
    case r.waiting.is_waiting
    (λ w. let e : r.waiting.seed ∷ seeds_between l (p.at + 1) p.len ≡ left_seeds r l = rw w refl in subst (HasFloor b) e refl)
    (λ w. let e : seeds_between l p.at p.len ≡ left_seeds r l = rw w refl in subst (HasFloor b) e (seeds_between_has_floor b l p.at p.len h))

-- ---- the four ways that the call goes
module _ (r : Run) (l : List Float) where
  pub stop_unsound : sound r ≡ false → stop_def r l ≡ Ok (nothing_left None)
  unfolding stop_def
  stop_unsound s = simp s

  module _ (s : sound r ≡ true) where
    pub stop_short : length l < r.place.demand → stop_def r l ≡ Err ListShortened
    unfolding stop_def
    stop_short h = simp (s, lt-ltb (length l) r.place.demand h)

    pub stop_with_no_seed_left : r.place.demand ≤ length l → r.place.len ≤ r.place.at → stop_def r l ≡ Ok (nothing_left (best_so_far r))
    unfolding stop_def outlook_of
    stop_with_no_seed_left h k = simp (s, le-ltb (length l) r.place.demand h, left_seeds_empty r l s k)

    pub stop_with_seeds_left : r.place.demand ≤ length l → r.place.at < r.place.len → stop_def r l ≡ Ok (with_floor (best_so_far r) (floor_of (left_seeds r l)))
    unfolding stop_def
    stop_with_seeds_left h k = simp (s, le-ltb (length l) r.place.demand h, left_seeds_has_floor (best_so_far r) r l k)

-- ---- the floor of a reply
outlook_floor_is_floor_of : (b : Option Candidate) (ss : List CandidateSeed) (x : Float) → (outlook_of b ss).floor ≡ Some x → x ≡ floor_of ss
unfolding outlook_of
outlook_floor_is_floor_of b [] x h = cc
outlook_floor_is_floor_of b (s ∷ ss) x h = cc

pub stop_floor_is_floor_of_left : (r : Run) (l : List Float) (o : Outlook) → stop_def r l ≡ Ok o → (x : Float) → o.floor ≡ Some x → x ≡ floor_of (left_seeds r l)
unfolding stop_def
stop_floor_is_floor_of_left r l o e x h =
    case (sound r)
    (λ s. case (ltb (length l) r.place.demand)
    (λ t. absurd (refusal_is_no_value ListShortened o (simp (s, t) at e)))
    (λ t.
    let q = ok_values_equal (outlook_of (best_so_far r) (left_seeds r l)) o (simp (s, t) at e) in
    outlook_floor_is_floor_of (best_so_far r) (left_seeds r l) x (ap (λ (p : Outlook). p.floor) q ∙ h)))
    (λ s.
    let q = ok_values_equal (nothing_left None) o (simp s at e) in
    let z : ◌≡◌ {A = Option Float} None (Some x) = ap (λ (p : Outlook). p.floor) q ∙ h in
    cc)

-- no candidate from the seeds left can score below the floor, whichever camera the host finds
pub no_outcome_below_stop_floor : (r : Run) (l : List Float) (o : Outlook) → stop_def r l ≡ Ok o → (x : Float) → o.floor ≡ Some x → {s : CandidateSeed} → Memᴰ s (left_seeds r l)
    → (share : ℕ) (f : Finding) (center : Pt2) (rows : List Float) (flags : List ℕ) (g : Scoring) → outcome_of share f s.sensor center rows flags ≡ Ok g → lt g.score x ≡ false
no_outcome_below_stop_floor r l o e x h {s} m share f center rows flags g k =
    ap (lt g.score) (stop_floor_is_floor_of_left r l o e x h) ∙ outcome_not_below_floor (left_seeds r l) m share f center rows flags g k

pub stop_floor_holds : StopFloorHolds
stop_floor_holds = record { none_below = no_outcome_below_stop_floor }
