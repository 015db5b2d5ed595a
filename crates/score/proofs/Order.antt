-- The comparison of candidates, for every pair, and the best of a list, for every list: a run that replaces its best by
-- each better candidate keeps the earliest of the lowest scores that are numbers. Assumes nothing.
use Rattle.std.specs.Prelude.{ℕ, ◌≡◌, ◌&&◌, ◌||◌, List, [], ◌∷◌, ◌++◌}
use Rattle.std.proofs.Common.{arith, sym, ◌∙◌, true≢false, inl, inr, ⊎_elim, append_assoc, append-nil}
use mathlib.Core.Bool.{and-false, not-not}
use Rattle.std.proofs.Math.Path.{refl}
use Rattle.std.proofs.Math.Bool.{true, false, not}
use Rattle.std.specs.Float.Ieee.{lt, is_nan}
use Rattle.common.specs.All.{all_append, all_map}
use Rattle.common.specs.Each.{All}
use Rattle.common.specs.Tests.{case}
use Rattle.float.specs.Order.{lt_asym, lt_cotrans}
use Rattle.score.specs.declared.best.Candidate.{Candidate}
use Rattle.score.specs.declared.best.Best.{Best}
use Rattle.score.specs.Best.{is_number, beats, nothing, chosen, unbeaten, first_unbeaten, best_of, no_best, held, is_better, improved}
use Rattle.score.specs.Theorem.{HasNumber, HasNan, IsBestOf, BestOrAllNan, BestRight}

-- ---- the comparison
-- a NaN never beats
pub nan_never_beats : (v w : Candidate) → HasNan v → beats v w ≡ false
unfolding beats
nan_never_beats v w h = simp h

-- it is beaten by every number
pub number_beats_nan : (v w : Candidate) → HasNumber v → HasNan w → beats v w ≡ true
unfolding beats
number_beats_nan v w h k = simp (h, k)

-- of two numbers the lower beats, as IEEE 754 compares
pub lower_beats : (v w : Candidate) → HasNumber v → HasNumber w → beats v w ≡ lt v.score w.score
unfolding beats
lower_beats v w h k = simp (h, k)

pub beats_number : (v w : Candidate) → beats v w ≡ true → HasNumber v
beats_number v w h = case (is_nan v.score) (λ n. absurd (true≢false (sym h ∙ nan_never_beats v w n))) (λ n. n)

pub beats_asymmetric : (v w : Candidate) → beats v w ≡ true → beats w v ≡ false
beats_asymmetric v w h =
    let n = beats_number v w h in
    case (is_nan w.score)
    (λ k. nan_never_beats w v k)
    (λ k. lower_beats w v k n ∙ lt_asym v.score w.score (sym (lower_beats v w n k) ∙ h))

beats_irreflexive : (w : Candidate) → beats w w ≡ false
beats_irreflexive w = case (beats w w) (λ e. beats_asymmetric w w e) (λ e. e)

pub beats_unless_beaten : (u v w : Candidate) → beats u v ≡ true → beats w v ≡ false → beats u w ≡ true
beats_unless_beaten u v w h k =
    let n = beats_number u v h in
    case (is_nan w.score)
    (λ e. number_beats_nan u w n e)
    (λ e. case (is_nan v.score)
    (λ f. absurd (true≢false (sym (number_beats_nan w v e f) ∙ k)))
    (λ f. lower_beats u w n e ∙ lt_cotrans u.score v.score w.score e (sym (lower_beats u v n f) ∙ h) (sym (lower_beats w v e f) ∙ k)))

-- ---- whether a candidate replaces the best of a record, whatever it holds
module _ (v : Candidate) (b : Best) where
  pub nan_never_better : HasNan v → is_better v b ≡ false
  unfolding is_better
  nan_never_better h = case b.found (λ f. simp (f, nan_never_beats v b.candidate h)) (λ f. simp (f, h))

  pub first_better : HasNumber v → b.found ≡ false → is_better v b ≡ true
  unfolding is_better
  first_better h f = simp (f, h)

  pub lower_better : HasNumber v → b.found ≡ true → is_better v b ≡ (is_nan b.candidate.score || lt v.score b.candidate.score)
  unfolding is_better beats
  lower_better h f = simp (f, h, not-not)

-- ---- the best of a list is what `best_of` chooses
unbeaten_true : (w : Candidate) (ws : List Candidate) → All (λ v. beats v w ≡ false) ws → unbeaten w ws ≡ true
unfolding unbeaten
unbeaten_true w [] h = refl
unbeaten_true w (v ∷ vs) h = rw h.0 (unbeaten_true w vs h.1)

unbeaten_false : (u w : Candidate) (a b : List Candidate) → beats w u ≡ true → unbeaten u (a ++ w ∷ b) ≡ false
unfolding unbeaten
unbeaten_false u w [] b h = rw h
unbeaten_false u w (v ∷ a) b h = rw (unbeaten_false u w a b h) (and-false (not (beats v u)))

-- of some candidates that are no numbers, or beaten, none is the first unbeaten
abbrev NoNumberOrBeaten : List Candidate → Candidate → Type 0
NoNumberOrBeaten all v = (is_number v && unbeaten v all) ≡ false

first_unbeaten_found : (all : List Candidate) (w : Candidate) (a b : List Candidate) → All (NoNumberOrBeaten all) a → (is_number w && unbeaten w all) ≡ true → first_unbeaten all (a ++ w ∷ b) ≡ chosen w
unfolding first_unbeaten
first_unbeaten_found all w [] b h k = simp k
first_unbeaten_found all w (v ∷ a) b h k = simp h.0 (first_unbeaten_found all w a b h.1 k)

first_unbeaten_is_nothing : (all ws : List Candidate) → All (NoNumberOrBeaten all) ws → first_unbeaten all ws ≡ nothing
unfolding first_unbeaten
first_unbeaten_is_nothing all [] h = refl
first_unbeaten_is_nothing all (v ∷ vs) h = simp h.0 (first_unbeaten_is_nothing all vs h.1)

beaten_is_no_number_or_beaten : (all : List Candidate) (v : Candidate) → unbeaten v all ≡ false → NoNumberOrBeaten all v
beaten_is_no_number_or_beaten all v h = case (is_nan v.score) (λ n. simp n) (λ n. simp (n, h))

pub best_of_is_best : (ws : List Candidate) (w : Candidate) → IsBestOf ws w → best_of ws ≡ chosen w
unfolding best_of
best_of_is_best ws w l =
    let a = l.before in
    let b = l.behind in
    let u : unbeaten w (a ++ w ∷ b) ≡ true =
    unbeaten_true w (a ++ w ∷ b)
    (all_append (λ v. beats v w ≡ false) a (w ∷ b) (all_map (λ v. beats w v ≡ true) (λ v. beats v w ≡ false) (λ v h. beats_asymmetric w v h) a l.ahead) (beats_irreflexive w, l.unbeaten_by))
    in
    rw l.split
    (first_unbeaten_found (a ++ w ∷ b) w a b
    (all_map (λ v. beats w v ≡ true) (NoNumberOrBeaten (a ++ w ∷ b)) (λ v h. beaten_is_no_number_or_beaten (a ++ w ∷ b) v (unbeaten_false v w a b h)) a l.ahead)
    (simp (l.number, u)))

pub best_of_nans_is_nothing : (ws : List Candidate) → All HasNan ws → best_of ws ≡ nothing
unfolding best_of
best_of_nans_is_nothing ws h = first_unbeaten_is_nothing ws ws (all_map HasNan (NoNumberOrBeaten ws) (λ v n. simp n) ws h)

-- ---- one more candidate
pub better_candidate_is_best : (ws : List Candidate) (w v : Candidate) → IsBestOf ws w → beats v w ≡ true → IsBestOf (ws ++ v ∷ []) v
better_candidate_is_best ws w v l h = record { before = ws; behind = []; split = refl; number = beats_number v w h; ahead = over_all; unbeaten_by = tt }
  where
    over_all : All (λ u. beats v u ≡ true) ws
    over_all =
        let a = l.before in
        let b = l.behind in
        rw l.split
        (all_append (λ u. beats v u ≡ true) a (w ∷ b)
        (all_map (λ u. beats w u ≡ true) (λ u. beats v u ≡ true) (λ u k. beats_unless_beaten v w u h (beats_asymmetric w u k)) a l.ahead)
        (h, all_map (λ u. beats u w ≡ false) (λ u. beats v u ≡ true) (λ u k. beats_unless_beaten v w u h k) b l.unbeaten_by))

pub best_stays_unless_beaten : (ws : List Candidate) (w v : Candidate) → IsBestOf ws w → beats v w ≡ false → IsBestOf (ws ++ v ∷ []) w
best_stays_unless_beaten ws w v l h = record {
  before = l.before;
  behind = l.behind ++ v ∷ [];
  split = rw l.split (append_assoc l.before (w ∷ l.behind) (v ∷ []));
  number = l.number;
  ahead = l.ahead;
  unbeaten_by = all_append (λ u. beats u w ≡ false) l.behind (v ∷ []) l.unbeaten_by (h, tt);
}

-- and several candidates that aren't better
pub best_stays_unless_beaten_by_any : (ws : List Candidate) (w : Candidate) (vs : List Candidate) → IsBestOf ws w → All (λ v. beats v w ≡ false) vs → IsBestOf (ws ++ vs) w
best_stays_unless_beaten_by_any ws w [] l h = rw append-nil l
best_stays_unless_beaten_by_any ws w (v ∷ vs) l h = rw (append_assoc ws (v ∷ []) vs) at (best_stays_unless_beaten_by_any (ws ++ v ∷ []) w vs (best_stays_unless_beaten ws w v l h.0) h.1)

-- the first candidate whose score is a number
pub first_number_is_best : (ws : List Candidate) (v : Candidate) → All HasNan ws → HasNumber v → IsBestOf (ws ++ v ∷ []) v
first_number_is_best ws v h n = record { before = ws; behind = []; split = refl; number = n; ahead = all_map HasNan (λ u. beats v u ≡ true) (λ u k. number_beats_nan v u n k) ws h; unbeaten_by = tt }

-- ---- a list has a best, unless no score of it is a number
best_or_all_nan_snoc : (ws : List Candidate) (v : Candidate) → BestOrAllNan ws → BestOrAllNan (ws ++ v ∷ [])
best_or_all_nan_snoc ws v =
    ⊎_elim
    (λ p. case (beats v p.0) (λ e. inl (v, better_candidate_is_best ws p.0 v p.1 e)) (λ e. inl (p.0, best_stays_unless_beaten ws p.0 v p.1 e)))
    (λ h. case (is_nan v.score) (λ n. inr (all_append HasNan ws (v ∷ []) h (n, tt))) (λ n. inl (v, first_number_is_best ws v h n)))

best_or_all_nan_append : (ws vs : List Candidate) → BestOrAllNan ws → BestOrAllNan (ws ++ vs)
best_or_all_nan_append ws [] l = rw append-nil l
best_or_all_nan_append ws (v ∷ vs) l = let e : (ws ++ v ∷ []) ++ vs ≡ ws ++ v ∷ vs = append_assoc ws (v ∷ []) vs in rw e at (best_or_all_nan_append (ws ++ v ∷ []) vs (best_or_all_nan_snoc ws v l))

pub best_or_all_nan : (ws : List Candidate) → BestOrAllNan ws
best_or_all_nan ws = best_or_all_nan_append [] ws (inr tt)

-- so what `best_of` chooses is the best
pub chosen_is_best : (ws : List Candidate) (w : Candidate) → best_of ws ≡ chosen w → IsBestOf ws w
chosen_is_best ws w e =
    ⊎_elim
    (λ p. let q = best_of_is_best ws p.0 p.1 in let z : p.0 ≡ w = cc in rw z at p.1)
    (λ h. let q = best_of_nans_is_nothing ws h in let z : nothing ≡ chosen w = sym q ∙ e in let y : ◌≡◌ {A = ℕ} 0 1 = cc in absurd (omega arith))
    (best_or_all_nan ws)

-- ---- the law: the best of a list with one more candidate at its end
pub best_snoc : (ws : List Candidate) (v : Candidate) → held (best_of (ws ++ v ∷ [])) ≡ improved (held (best_of ws)) v
unfolding improved is_better no_best
best_snoc ws v =
    ⊎_elim
    (λ p. after_one p.0 p.1)
    (λ h. after_none h)
    (best_or_all_nan ws)
  where
    after_one : (w : Candidate) → IsBestOf ws w → held (best_of (ws ++ v ∷ [])) ≡ improved (held (best_of ws)) v
    after_one w l = unfold improved is_better in
        case (beats v w)
        (λ e. simp (best_of_is_best ws w l, best_of_is_best (ws ++ v ∷ []) v (better_candidate_is_best ws w v l e), e))
        (λ e. simp (best_of_is_best ws w l, best_of_is_best (ws ++ v ∷ []) w (best_stays_unless_beaten ws w v l e), e))

    after_none : All HasNan ws → held (best_of (ws ++ v ∷ [])) ≡ improved (held (best_of ws)) v
    after_none h = unfold improved is_better no_best in
        case (is_nan v.score)
        (λ n. simp (best_of_nans_is_nothing ws h, best_of_nans_is_nothing (ws ++ v ∷ []) (all_append HasNan ws (v ∷ []) h (n, tt)), n))
        (λ n. simp (best_of_nans_is_nothing ws h, best_of_is_best (ws ++ v ∷ []) v (first_number_is_best ws v h n), n))

pub best_right : BestRight
best_right = record {
  nan_never_better = nan_never_better;
  first_better = first_better;
  lower_better = lower_better;
  led = best_or_all_nan;
  best_leads = best_of_is_best;
  best_none = best_of_nans_is_nothing;
  best_snoc = best_snoc;
}
