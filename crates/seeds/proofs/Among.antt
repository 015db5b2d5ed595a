-- A search among the first kept entries says the same as one among all of them, where the others are known not to be near. Assumes nothing.
use Rattle.std.specs.Prelude.{◌≡◌, refl, Bool, false, ◌||◌, is_some, ℕ, zero, suc, ◌≤◌, List, [], ◌∷◌, ◌++◌, take, drop, Float}
use Rattle.std.proofs.Common.{sym, ap, ◌∙◌, arith}
use Rattle.std.proofs.lemmas.List.{take-append-drop}
use Rattle.seeds.specs.Layout.{read_from}
use Rattle.seeds.specs.Merge.{has_near, newest_near}
use Rattle.seeds.proofs.MergeLaws.{newest_found}

module _ {A : Type 0} (near : A → A → Bool) where
  has_near_append_of_none : (xs ys : List A) (s : A) → has_near near ys s ≡ false → has_near near (xs ++ ys) s ≡ has_near near xs s
  unfolding has_near
  has_near_append_of_none [] ys s h = h
  has_near_append_of_none (x ∷ xs) ys s h = ap (λ (b : Bool). near x s || b) (has_near_append_of_none xs ys s h)

  module _ (first : List Float → A) (w : ℕ) where
    take_of_read_from : (m n : ℕ) (l : List Float) → m ≤ n → take m (read_from first w n l) ≡ read_from first w m l
    unfolding read_from
    take_of_read_from zero n l h = refl
    take_of_read_from (suc m) zero l h = absurd (omega arith)
    take_of_read_from (suc m) (suc n) l h = ap (λ (xs : List A). first l ∷ xs) (take_of_read_from m n (drop w l) (omega arith))

    pub found_among_first_kept : (m n : ℕ) (l : List Float) (s : A) → m ≤ n → has_near near (drop m (read_from first w n l)) s ≡ false
        → is_some (newest_near near 0 (read_from first w n l) s) ≡ is_some (newest_near near 0 (read_from first w m l) s)
    found_among_first_kept m n l s h far =
        let all = read_from first w n l in
        newest_found near 0 all s
        ∙ ap (λ (xs : List A). has_near near xs s) (sym (take-append-drop m all))
        ∙ has_near_append_of_none (take m all) (drop m all) s far
        ∙ ap (λ (xs : List A). has_near near xs s) (take_of_read_from m n l h)
        ∙ sym (newest_found near 0 (read_from first w m l) s)
