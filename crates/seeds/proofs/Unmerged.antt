-- Where no element of a list lies near a later one, merging drops nothing, whatever the relation is. Assumes nothing.
use Rattle.std.specs.Prelude.{◌≡◌, refl, Bool, true, false, cond}
use Rattle.std.proofs.Math.Path.{sym, ap}
use Rattle.std.proofs.Common.{◌∙◌}
use mathlib.Core.List.{List, [], ◌∷◌, ◌++◌, map, append_assoc, append-nil}
use Rattle.common.specs.Each.{All}
use Rattle.common.specs.All.{all_append, all_map, all_mapped}
use Rattle.common.specs.Tests.{both_false}
use Rattle.seeds.specs.Merge.{keep, has_near, push, merged_into, merged}
use Rattle.seeds.proofs.MergeLaws.{keep_all}
use Rattle.seeds.specs.Theorem.{Apart}

module _ {A : Type 0} (near : A → A → Bool) where
  -- ---- merging
  no_near_after_snoc : (ks : List A) (k s : A) → has_near near ks s ≡ false → near k s ≡ false → has_near near (ks ++ k ∷ []) s ≡ false
  unfolding has_near
  no_near_after_snoc [] k s h e = rw e
  no_near_after_snoc (l ∷ ks) k s h e = let p = both_false (near l s) (has_near near ks s) h in rw p.0 (no_near_after_snoc ks k s p.1 e)

  no_near_for_all_after_snoc : (ks : List A) (k : A) (ss : List A) → All (λ s. has_near near ks s ≡ false) ss → All (λ s. near k s ≡ false) ss
      → All (λ s. has_near near (ks ++ k ∷ []) s ≡ false) ss
  no_near_for_all_after_snoc ks k [] h a = tt
  no_near_for_all_after_snoc ks k (s ∷ ss) h a = (no_near_after_snoc ks k s h.0 a.0, no_near_for_all_after_snoc ks k ss h.1 a.1)

  push_appends_if_no_near : (ks : List A) (s : A) → has_near near ks s ≡ false → push near ks s ≡ ks ++ s ∷ []
  unfolding push
  push_appends_if_no_near ks s h = rw h

  merged_into_appends_apart : (ks ss : List A) → All (λ s. has_near near ks s ≡ false) ss → Apart near ss → merged_into near ks ss ≡ ks ++ ss
  unfolding merged_into
  merged_into_appends_apart ks [] h a = sym (append-nil ks)
  merged_into_appends_apart ks (s ∷ ss) h a =
      ap (λ (q : List A). merged_into near q ss) (push_appends_if_no_near ks s h.0)
      ∙ merged_into_appends_apart (ks ++ s ∷ []) ss (no_near_for_all_after_snoc ks s ss h.1 a.0) a.1
      ∙ append_assoc ks (s ∷ []) ss

  no_near_in_empty : (ss : List A) → All (λ s. has_near near [] s ≡ false) ss
  unfolding has_near
  no_near_in_empty [] = tt
  no_near_in_empty (s ∷ ss) = (refl, no_near_in_empty ss)

  pub merged_of_apart : (ss : List A) → Apart near ss → merged near ss ≡ ss
  merged_of_apart ss a = merged_into_appends_apart [] ss (no_near_in_empty ss) a

  -- ---- parts of such a list, and two of them in a row
  apart_of_cond_cons : (c : Bool) (x : A) (xs : List A) → All (λ y. near x y ≡ false) xs → Apart near xs → Apart near (cond c (x ∷ xs) xs)
  apart_of_cond_cons true x xs h a = (h, a)
  apart_of_cond_cons false x xs h a = a

  pub keep_apart : (p : A → Bool) (xs : List A) → Apart near xs → Apart near (keep p xs)
  unfolding keep
  keep_apart p [] a = tt
  keep_apart p (x ∷ xs) a =
      apart_of_cond_cons (p x) x (keep p xs)
      (all_map (λ y. (near x y ≡ false) × (p y ≡ true)) (λ y. near x y ≡ false) (λ y h. h.0) (keep p xs) (keep_all (λ y. near x y ≡ false) p xs a.0))
      (keep_apart p xs a.1)

  pub append_apart : (xs ys : List A) → Apart near xs → Apart near ys → All (λ x. All (λ y. near x y ≡ false) ys) xs → Apart near (xs ++ ys)
  append_apart [] ys a b h = b
  append_apart (x ∷ xs) ys a b h = (all_append (λ y. near x y ≡ false) xs ys a.0 h.0, append_apart xs ys a.1 b h.1)

pub map_apart : {A B : Type 0} (near : A → A → Bool) (close : B → B → Bool) (f : A → B) → ((x y : A) → near x y ≡ false → close (f x) (f y) ≡ false)
    → (xs : List A) → Apart near xs → Apart close (map f xs)
map_apart near close f g [] a = tt
map_apart near close f g (x ∷ xs) a =
    (all_mapped f (λ z. close (f x) z ≡ false) xs (all_map (λ y. near x y ≡ false) (λ y. close (f x) (f y) ≡ false) (λ y h. g x y h) xs a.0), map_apart near close f g xs a.1)
