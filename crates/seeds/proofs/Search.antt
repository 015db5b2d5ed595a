-- The search for a near entry, over the places of the kept ones from the last back to the first. Assumes nothing.
use Rattle.std.proofs.Common.{◌≡◌, refl, sym, ap, ◌∙◌, Bool, List, [], ◌∷◌, ◌++◌, ℕ, zero, suc, ◌+◌, ◌-◌, ◌≤◌, ◌<◌, length, take, arith, zero-add, length-take-le}
use Rattle.std.specs.List.{find}
use Rattle.std.specs.declared.iter.Rev.{Rev}
use Rattle.std.specs.declared.ops.Range.{Range}
use Rattle.std.specs.Range.{range_steps_back}
use Rattle.std.specs.Iterator.Adapters.{rev_source, rev_steps}
use Rattle.std.proofs.lemmas.Iterator.{YieldsList}
use Rattle.std.proofs.lemmas.Iterator.Splits.{YieldsList-from_shown_while}
use Rattle.seeds.specs.Merge.{newest_near}
use Rattle.seeds.proofs.MergeLaws.{newest_near_snoc}

-- the places below n, the last one first
unfoldable pub indices_back : ℕ → List ℕ
indices_back zero = []
indices_back (suc n) = n ∷ indices_back n

places_back_suc : (n m : ℕ) → n ≡ m + 1 → indices_back n ≡ m ∷ indices_back m
unfolding indices_back
places_back_suc n m h = let e : n ≡ suc m = omega arith in rw e

places_back_of_zero : (n : ℕ) → n ≡ 0 → length (indices_back n) ≡ 0
unfolding indices_back
places_back_of_zero n h = rw h

pub indices_yielded : {s : Rev (Range ℕ)} → (rev_source s).start ≡ 0 → YieldsList (rev_steps (range_steps_back (λ x y. y - x) (λ x y. y ≡ x + 1))) (λ i. i) s (indices_back (rev_source s).end)
indices_yielded {s} h =
    YieldsList-from_shown_while (rev_steps (range_steps_back (λ x y. y - x) (λ x y. y ≡ x + 1))) (λ i. i) (λ t. indices_back (rev_source t).end) (λ t. (rev_source t).start ≡ 0)
    (λ t u k m. places_back_of_zero (rev_source t).end (omega (arith, k, m.1.0)))
    (λ t x u k m. (m.0 ∙ k, places_back_suc (rev_source t).end (rev_source u).end m.1.2 ∙ ap (λ i. i ∷ indices_back (rev_source u).end) (sym m.1.1)))
    s h

-- The first of these places whose entry is near s is that of the newest near one.
module _ {A : Type 0} (near : A → A → Bool) (ks : List A) (at : ℕ → A) (s : A)
    (last : (i : ℕ) → i < length ks → take (suc i) ks ≡ take i ks ++ (at i ∷ [])) where
  pub find_back_is_newest_near : (n : ℕ) → n ≤ length ks → find (λ i. near (at i) s) (indices_back n) ≡ newest_near near 0 (take n ks) s
  unfolding indices_back newest_near
  find_back_is_newest_near zero h = refl
  find_back_is_newest_near (suc n) h =
      let earlier = find_back_is_newest_near n (omega arith) in
      rw (earlier, last n (omega arith), newest_near_snoc near 0 (take n ks) (at n) s, length-take-le n ks (omega arith), zero-add n) refl
