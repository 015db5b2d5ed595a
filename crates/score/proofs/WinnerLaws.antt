-- The winner of two is associative, with none as its unit; the best of a list is that of the winners of its parts, wherever it is cut, ties included. No score
-- need be a number for it. Assumes nothing.
use Rattle.std.specs.Prelude.{◌≡◌, refl}
use Rattle.std.proofs.Common.{sym, ap, ◌∙◌, ⊎_elim, true≢false}
use Rattle.std.proofs.Math.Bool.{true, false}
use mathlib.Core.List.{List, [], ◌∷◌, ◌++◌, map, foldr, flat_map, append_assoc}
use Rattle.common.specs.All.{all_append, all_map}
use Rattle.common.specs.Each.{All}
use Rattle.common.specs.Tests.{case}
use Rattle.score.specs.declared.best.Candidate.{Candidate}
use Rattle.score.specs.Best.{beats, Chosen, nothing, chosen, first_unbeaten, best_of, no_best, held}
use Rattle.score.specs.Theorem.{HasNumber, HasNan, IsBestOf, IsNumber, WinnersRight}
use Rattle.score.proofs.Order.{nan_never_beats, number_beats_nan, beats_asymmetric, beats_unless_beaten, best_of_is_best, best_of_nans_is_nothing, best_or_all_nan, first_number_is_best}
use Rattle.score.specs.Winners.{winner_of_two, winner_of_bests, present, winner_of, joined}

-- ---- the winner of two
-- what beats one that beats a third beats that too
beats_transitive : (u v w : Candidate) → beats u v ≡ true → beats v w ≡ true → beats u w ≡ true
beats_transitive u v w h k = beats_unless_beaten u v w h (beats_asymmetric v w k)

winner_of_three_candidates : (w v u : Candidate) → winner_of_two (winner_of_two (chosen w) (chosen v)) (chosen u) ≡ winner_of_two (chosen w) (winner_of_two (chosen v) (chosen u))
unfolding winner_of_two
winner_of_three_candidates w v u =
    case (beats v w)
    (λ e. case (beats u v) (λ f. simp (winner_of_two, e, f, beats_transitive u v w f e)) (λ f. simp (winner_of_two, e, f)))
    (λ e. case (beats u w)
    (λ f. simp (winner_of_two, e, f, beats_unless_beaten u w v f e))
    (λ f. case (beats u v) (λ g. simp (winner_of_two, e, f, g)) (λ g. simp (winner_of_two, e, f, g))))

pub none_first : (c : Chosen) → winner_of_two nothing c ≡ c
unfolding winner_of_two
none_first c = refl

pub none_second : (c : Chosen) → winner_of_two c nothing ≡ c
unfolding winner_of_two
none_second nothing = refl
none_second (chosen w) = refl

pub associative : (a b c : Chosen) → winner_of_two (winner_of_two a b) c ≡ winner_of_two a (winner_of_two b c)
associative nothing b c = ap (λ (x : Chosen). winner_of_two x c) (none_first b) ∙ sym (none_first (winner_of_two b c))
associative (chosen w) nothing c = ap (λ (x : Chosen). winner_of_two x c) (none_second (chosen w)) ∙ ap (winner_of_two (chosen w)) (sym (none_first c))
associative (chosen w) (chosen v) nothing = none_second (winner_of_two (chosen w) (chosen v)) ∙ ap (winner_of_two (chosen w)) (sym (none_second (chosen v)))
associative (chosen w) (chosen v) (chosen u) = winner_of_three_candidates w v u

-- the winner of two bests as records hold them is the winner of the two
pub winner_of_held_bests : (a b : Chosen) → winner_of_bests (held a) (held b) ≡ held (winner_of_two a b)
unfolding winner_of_bests winner_of_two no_best
winner_of_held_bests nothing b = refl
winner_of_held_bests (chosen w) nothing = refl
winner_of_held_bests (chosen w) (chosen v) = case (beats v w) (λ e. simp e) (λ e. simp e)

-- ---- two lists in a row
module _ (ws vs : List Candidate) where
  -- the best of the second list is that of both, where no score of the first is a number
  second_best_if_first_all_nan : (v : Candidate) → All HasNan ws → IsBestOf vs v → IsBestOf (ws ++ vs) v
  second_best_if_first_all_nan v h l = record {
    before = ws ++ l.before;
    behind = l.behind;
    split = ap (λ (z : List Candidate). ws ++ z) l.split ∙ sym (append_assoc ws l.before (v ∷ l.behind));
    number = l.number;
    ahead = all_append (λ u. beats v u ≡ true) ws l.before (all_map HasNan (λ u. beats v u ≡ true) (λ u n. number_beats_nan v u l.number n) ws h) l.ahead;
    unbeaten_by = l.unbeaten_by;
  }

  -- the best of the first list is that of both, where none of the second beats it
  first_best_if_unbeaten : (w : Candidate) → IsBestOf ws w → All (λ u. beats u w ≡ false) vs → IsBestOf (ws ++ vs) w
  first_best_if_unbeaten w l h = record {
    before = l.before;
    behind = l.behind ++ vs;
    split = ap (λ (z : List Candidate). z ++ vs) l.split ∙ append_assoc l.before (w ∷ l.behind) vs;
    number = l.number;
    ahead = l.ahead;
    unbeaten_by = all_append (λ u. beats u w ≡ false) l.behind vs l.unbeaten_by h;
  }

  -- the best of the second list is that of both, where it beats the best of the first
  second_best_if_it_beats : (w v : Candidate) → IsBestOf ws w → IsBestOf vs v → beats v w ≡ true → IsBestOf (ws ++ vs) v
  second_best_if_it_beats w v l m h = record {
    before = ws ++ m.before;
    behind = m.behind;
    split = ap (λ (z : List Candidate). ws ++ z) m.split ∙ sym (append_assoc ws m.before (v ∷ m.behind));
    number = m.number;
    ahead = all_append (λ u. beats v u ≡ true) ws m.before over_first m.ahead;
    unbeaten_by = m.unbeaten_by;
  }
    where
      over_first : All (λ u. beats v u ≡ true) ws
      over_first =
          rw l.split
          (all_append (λ u. beats v u ≡ true) l.before (w ∷ l.behind)
          (all_map (λ u. beats w u ≡ true) (λ u. beats v u ≡ true) (λ u k. beats_transitive v w u h k) l.before l.ahead)
          (h, all_map (λ u. beats u w ≡ false) (λ u. beats v u ≡ true) (λ u k. beats_unless_beaten v w u h k) l.behind l.unbeaten_by))

  -- where the best of the second list doesn't beat the first's, none of the second does
  none_beats_if_best_does_not : (w v : Candidate) → IsBestOf vs v → beats v w ≡ false → All (λ u. beats u w ≡ false) vs
  none_beats_if_best_does_not w v m h =
      rw m.split
      (all_append (λ u. beats u w ≡ false) m.before (v ∷ m.behind)
      (all_map (λ u. beats v u ≡ true) (λ u. beats u w ≡ false) (λ u k. case (beats u w) (λ e. absurd (true≢false (sym (beats_transitive v u w k e) ∙ h))) (λ e. e)) m.before m.ahead)
      (h, all_map (λ u. beats u v ≡ false) (λ u. beats u w ≡ false) (λ u k. case (beats u w) (λ e. absurd (true≢false (sym (beats_unless_beaten u w v e h) ∙ k))) (λ e. e)) m.behind m.unbeaten_by))

  -- ---- the law
  best_append_of_two_bests : (w v : Candidate) → IsBestOf ws w → IsBestOf vs v → best_of (ws ++ vs) ≡ winner_of_two (best_of ws) (best_of vs)
  unfolding winner_of_two
  best_append_of_two_bests w v l m =
      case (beats v w)
      (λ e. simp (best_of_is_best ws w l, best_of_is_best vs v m, e, best_of_is_best (ws ++ vs) v (second_best_if_it_beats w v l m e)))
      (λ e. simp (best_of_is_best ws w l, best_of_is_best vs v m, e, best_of_is_best (ws ++ vs) w (first_best_if_unbeaten w l (none_beats_if_best_does_not w v m e))))

  best_append_if_second_all_nan : (w : Candidate) → IsBestOf ws w → All HasNan vs → best_of (ws ++ vs) ≡ winner_of_two (best_of ws) (best_of vs)
  best_append_if_second_all_nan w l n =
      best_of_is_best (ws ++ vs) w (first_best_if_unbeaten w l (all_map HasNan (λ u. beats u w ≡ false) (λ u k. nan_never_beats u w k) vs n))
      ∙ sym (rw (best_of_is_best ws w l, best_of_nans_is_nothing vs n) (none_second (chosen w)))

  best_append_if_first_all_nan : All HasNan ws → (v : Candidate) → IsBestOf vs v → best_of (ws ++ vs) ≡ winner_of_two (best_of ws) (best_of vs)
  best_append_if_first_all_nan n v m = best_of_is_best (ws ++ vs) v (second_best_if_first_all_nan v n m) ∙ sym (rw (best_of_nans_is_nothing ws n, best_of_is_best vs v m) (none_first (chosen v)))

  best_append_if_both_all_nan : All HasNan ws → All HasNan vs → best_of (ws ++ vs) ≡ winner_of_two (best_of ws) (best_of vs)
  best_append_if_both_all_nan n m = best_of_nans_is_nothing (ws ++ vs) (all_append HasNan ws vs n m) ∙ sym (rw (best_of_nans_is_nothing ws n, best_of_nans_is_nothing vs m) (none_first nothing))

  pub best_append : best_of (ws ++ vs) ≡ winner_of_two (best_of ws) (best_of vs)
  best_append =
      ⊎_elim
      (λ (p : (w : Candidate) × IsBestOf ws w). ⊎_elim (λ (q : (v : Candidate) × IsBestOf vs v). best_append_of_two_bests p.0 q.0 p.1 q.1) (λ (m : All HasNan vs). best_append_if_second_all_nan p.0 p.1 m) (best_or_all_nan vs))
      (λ (n : All HasNan ws). ⊎_elim (λ (q : (v : Candidate) × IsBestOf vs v). best_append_if_first_all_nan n q.0 q.1) (λ (m : All HasNan vs). best_append_if_both_all_nan n m) (best_or_all_nan vs))
      (best_or_all_nan ws)

best_of_empty : best_of [] ≡ nothing
unfolding best_of first_unbeaten
best_of_empty = refl

-- ---- the best of a list is the fold of its candidates, each alone
pub best_fold : (ws : List Candidate) → best_of ws ≡ foldr winner_of_two nothing (map (λ w. best_of (w ∷ [])) ws)
best_fold [] = best_of_empty
best_fold (w ∷ ws) = best_append (w ∷ []) ws ∙ ap (winner_of_two (best_of (w ∷ []))) (best_fold ws)

-- ---- of any number of winners
pub best_of_is_number : (ws : List Candidate) → IsNumber (best_of ws)
best_of_is_number ws = ⊎_elim (λ p. rw (best_of_is_best ws p.0 p.1) p.1.number) (λ n. rw (best_of_nans_is_nothing ws n) tt) (best_or_all_nan ws)

best_of_one : (w : Candidate) → HasNumber w → best_of (w ∷ []) ≡ chosen w
best_of_one w n = best_of_is_best (w ∷ []) w (first_number_is_best [] w tt n)

pub winner_fold : (cs : List Chosen) → All IsNumber cs → winner_of cs ≡ foldr winner_of_two nothing cs
unfolding present
winner_fold [] n = best_of_empty
winner_fold (nothing ∷ cs) n = winner_fold cs n.1 ∙ sym (none_first (foldr winner_of_two nothing cs))
winner_fold (chosen w ∷ cs) n = best_append (w ∷ []) (present cs) ∙ ap (λ (c : Chosen). winner_of_two c (winner_of cs)) (best_of_one w n.0) ∙ ap (winner_of_two (chosen w)) (winner_fold cs n.1)

-- ---- stretches: cut anywhere, some perhaps without any candidate, the winner of their winners is that of all
all_bests_are_numbers : (ss : List (List Candidate)) → All IsNumber (map best_of ss)
all_bests_are_numbers [] = tt
all_bests_are_numbers (s ∷ ss) = (best_of_is_number s, all_bests_are_numbers ss)

fold_of_bests_is_best_of_joined : (ss : List (List Candidate)) → foldr winner_of_two nothing (map best_of ss) ≡ best_of (joined ss)
unfolding flat_map
fold_of_bests_is_best_of_joined [] = sym best_of_empty
fold_of_bests_is_best_of_joined (s ∷ ss) = ap (winner_of_two (best_of s)) (fold_of_bests_is_best_of_joined ss) ∙ sym (best_append s (joined ss))

pub cut_anywhere : (ss : List (List Candidate)) → winner_of (map best_of ss) ≡ best_of (joined ss)
cut_anywhere ss = winner_fold (map best_of ss) (all_bests_are_numbers ss) ∙ fold_of_bests_is_best_of_joined ss

-- groups of stretches, joined and then joined again, are all the stretches joined
joined_append : {A : Type 0} (ss ts : List (List A)) → joined (ss ++ ts) ≡ joined ss ++ joined ts
unfolding flat_map
joined_append [] ts = refl
joined_append (s ∷ ss) ts = rw (joined_append ss ts) (sym (append_assoc s (joined ss) (joined ts)))

pub joined_twice : {A : Type 0} (gs : List (List (List A))) → joined (map joined gs) ≡ joined (joined gs)
unfolding flat_map
joined_twice {A = A} [] = refl
joined_twice {A = A} (g ∷ gs) = ap (λ (z : List A). joined g ++ z) (joined_twice gs) ∙ sym (joined_append g (joined gs))

pub winners_right : WinnersRight
winners_right = record {
  associative = associative;
  none_first = none_first;
  none_second = none_second;
  best_append = best_append;
  best_fold = best_fold;
  winner_fold = winner_fold;
  cut_anywhere = cut_anywhere;
}
