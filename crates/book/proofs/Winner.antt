-- The run's best is the earliest candidate with the lowest score, with the properties of a scored finding. Assumes
-- nothing.
use Rattle.std.proofs.Common.{ℕ, suc, ◌≤◌, ◌<◌, arith, ◌≡◌, refl, sym, ◌∙◌, ◌⊎◌, inl, inr, true, false, true≢false, List, [], ◌∷◌, ◌++◌, Float}
use Rattle.std.specs.Float.Ieee.{neg, lt, le, eq}
use mathlib.Core.List.Memᴰ
use mathlib.Core.List.{Memᴰ}
use Rattle.common.specs.Tests.{both_true}
use Rattle.common.specs.All.{all_append, all_left, all_right, all_map}
use Rattle.common.specs.Each.{All}
use Rattle.float.specs.Float.{within}
use Rattle.float.specs.Order.{lt_irrefl, lt_not_eq, le_of_not_lt}
use Rattle.seeds.specs.Rules.{in_bound, untilted_y}
use Rattle.float.proofs.Bound.{within_order}
use Rattle.score.specs.declared.best.Candidate.{Candidate}
use Rattle.score.specs.Best.{beats, chosen, best_of}
use Rattle.score.specs.Theorem.{HasNumber, IsBestOf}
use Rattle.score.proofs.Order.{lower_beats, beats_number, chosen_is_best}
use Rattle.book.specs.Book.{Inputs, Entry, scored_of}
use Rattle.book.specs.Theorem.{Wins}
use Rattle.book.proofs.Cases.{case_result}
use Rattle.book.proofs.Seeds.{best_has_property_of_all}
use Rattle.book.proofs.Good.{Proper, ProperCandidate, scored_of_proper_entries, NumberedFrom}

-- the candidates of entries that are numbered from k have numbers from k, in rising order
abbrev Rising : List Candidate → Type 0
Rising [] = Unit {0}
Rising (w ∷ ws) = All (λ v. w.number < v.number) ws × Rising ws

scored_numbers_ge : (k j : ℕ) (es : List Entry) → j ≤ k → NumberedFrom k es → All (λ v. j ≤ v.number) (scored_of es)
unfolding scored_of
scored_numbers_ge k j [] h c = tt
scored_numbers_ge k j (e ∷ es) h c =
    let r : All (λ v. j ≤ v.number) (scored_of es) = scored_numbers_ge (suc k) j es (omega arith) c.1 in
    case_result e.outcome (λ g q. simp (scored_of, q) (rw c.0 h, r)) (λ reason q. simp (scored_of, q) r)

scored_rising : (k : ℕ) (es : List Entry) → NumberedFrom k es → Rising (scored_of es)
unfolding scored_of
scored_rising k [] c = tt
scored_rising k (e ∷ es) c =
    let r : Rising (scored_of es) = scored_rising (suc k) es c.1 in
    let f : All (λ v. suc e.number ≤ v.number) (scored_of es) = rw c.0 (scored_numbers_ge (suc k) (suc k) es (omega arith) c.1) in
    case_result e.outcome (λ g q. simp (scored_of, q) (f, r)) (λ reason q. simp (scored_of, q) r)

rising_numbers_later : (a : List Candidate) (w : Candidate) (b : List Candidate) → Rising (a ++ w ∷ b) → All (λ v. w.number < v.number) b
rising_numbers_later [] w b r = r.0
rising_numbers_later (v ∷ a) w b r = rising_numbers_later a w b r.1

-- ---- in terms of IEEE 754's comparisons
all_of_both : {A : Type 0} (P Q R : A → Type 0) → ((x : A) → P x × Q x → R x) → (xs : List A) → All P xs → All Q xs → All R xs
all_of_both P Q R f [] p q = tt
all_of_both P Q R f (x ∷ xs) p q = (f x (p.0, q.0), all_of_both P Q R f xs p.1 q.1)

lt_implies_le : (x y : Float) → lt x y ≡ true → le x y ≡ true
unfolding le
lt_implies_le x y h = rw h

module _ (w : Candidate) where
  AtMost : Candidate → Type 0
  AtMost v = le w.score v.score ≡ true

  Later : Candidate → Type 0
  Later v = eq w.score v.score ≡ true → (v ≡ w) ⊎ (w.number < v.number)

  -- if every score is a number
  beaten_score_higher : (v : Candidate) → HasNumber v → beats w v ≡ true → lt w.score v.score ≡ true
  beaten_score_higher v n h = sym (lower_beats w v (beats_number w v h) n) ∙ h

  not_beating_not_lower : (v : Candidate) → HasNumber w → HasNumber v → beats v w ≡ false → lt v.score w.score ≡ false
  not_beating_not_lower v m n h = sym (lower_beats v w n m) ∙ h

  beaten_at_most : (v : Candidate) → HasNumber v × (beats w v ≡ true) → AtMost v
  unfolding AtMost
  beaten_at_most v h = lt_implies_le w.score v.score (beaten_score_higher v h.0 h.1)

  beaten_later : (v : Candidate) → HasNumber v × (beats w v ≡ true) → Later v
  unfolding Later
  beaten_later v h e = absurd (true≢false (sym e ∙ lt_not_eq w.score v.score (beaten_score_higher v h.0 h.1)))

  self_at_most : HasNumber w → AtMost w
  unfolding AtMost
  self_at_most n = le_of_not_lt w.score w.score n n (lt_irrefl w.score)

  not_beating_at_most : HasNumber w → (v : Candidate) → HasNumber v × (beats v w ≡ false) → AtMost v
  unfolding AtMost
  not_beating_at_most n v h = le_of_not_lt w.score v.score n h.0 (not_beating_not_lower v n h.0 h.1)

  leader_at_most_all : (ws : List Candidate) → All HasNumber ws → IsBestOf ws w → All AtMost ws
  leader_at_most_all ws s l =
      let t : All HasNumber (l.before ++ w ∷ l.behind) = rw l.split at s in
      let r = all_right HasNumber l.before (w ∷ l.behind) t in
      rw l.split
      (all_append AtMost l.before (w ∷ l.behind)
      (all_of_both HasNumber (λ v. beats w v ≡ true) AtMost beaten_at_most l.before (all_left HasNumber l.before (w ∷ l.behind) t) l.ahead)
      (self_at_most l.number, all_of_both HasNumber (λ v. beats v w ≡ false) AtMost (not_beating_at_most l.number) l.behind r.1 l.unbeaten_by))

  leader_earliest : (ws : List Candidate) → All HasNumber ws → Rising ws → IsBestOf ws w → All Later ws
  unfolding Later
  leader_earliest ws n s l =
      let t : Rising (l.before ++ w ∷ l.behind) = rw l.split at s in
      let m : All HasNumber (l.before ++ w ∷ l.behind) = rw l.split at n in
      rw l.split
      (all_append Later l.before (w ∷ l.behind)
      (all_of_both HasNumber (λ v. beats w v ≡ true) Later beaten_later l.before (all_left HasNumber l.before (w ∷ l.behind) m) l.ahead)
      ((λ e. inl refl), all_map (λ v. w.number < v.number) Later (λ v p e. inr p) l.behind (rising_numbers_later l.before w l.behind t)))

  leader_in_list : (ws : List Candidate) → IsBestOf ws w → Memᴰ w ws
  leader_in_list ws l = rw l.split (Memᴰ.append_right l.before (Memᴰ.head refl))

-- ---- the properties of a scored finding
-- a tilt within the bound lies between its two ends
within_both_ends : (max t : Float) → within max t ≡ true → (le (neg max) t ≡ true) × (le t max ≡ true)
within_both_ends max t h = both_true (le (neg max) t) (le t max) (rw within_order at h)

in_bound_both_tilts : (i : Inputs) (w : Candidate) → in_bound i.max w.sensor ≡ true → (within i.max w.sensor.tilt_x ≡ true) × (within i.max w.sensor.tilt_y ≡ true)
unfolding in_bound
in_bound_both_tilts i w h = both_true (within i.max w.sensor.tilt_x) (within i.max w.sensor.tilt_y) h

-- every score is a number
pub scored_have_numbers : (i : Inputs) (es : List Entry) → All (Proper i) es → All HasNumber (scored_of es)
scored_have_numbers i es p = all_map (ProperCandidate i) HasNumber (λ v q. q.facts.score_number) (scored_of es) (scored_of_proper_entries i es p)

pub run_best_wins : (i : Inputs) (es : List Entry) (w : Candidate) → NumberedFrom 0 es → All (Proper i) es → best_of (scored_of es) ≡ chosen w → Wins i es w
unfolding AtMost Later
run_best_wins i es w c p e =
    let s = scored_have_numbers i es p in
    let l = chosen_is_best (scored_of es) w e in
    let q = best_has_property_of_all (ProperCandidate i) (scored_of es) w (scored_of_proper_entries i es p) e in
    let t = in_bound_both_tilts i w q.within in
    let x = within_both_ends i.max w.sensor.tilt_x t.0 in
    let y = within_both_ends i.max w.sensor.tilt_y t.1 in
    let f = q.facts in
    record {
      is_scored = leader_in_list w (scored_of es) l;
      lowest = leader_at_most_all w (scored_of es) s l;
      earliest = leader_earliest w (scored_of es) s (scored_rising 0 es c) l;
      tilt_x_least = x.0;
      tilt_x_most = x.1;
      tilt_y_least = y.0;
      tilt_y_most = y.1;
      tilt_y_zero = unfold untilted_y in q.untilted;
      fx_finite = f.fx_finite;
      fy_finite = f.fy_finite;
      fx_positive = f.fx_above;
      fy_positive = f.fy_above;
      k1_zero = f.k1_zero;
      k2_zero = f.k2_zero;
      k3_zero = f.k3_zero;
      p1_small = f.p1_within;
      p2_small = f.p2_within;
      mean_finite = f.mean_finite;
      mean_not_negative = f.mean_not_below;
    }
