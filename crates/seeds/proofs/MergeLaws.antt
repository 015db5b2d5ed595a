-- Laws of merging under any relation: lengths, what holds of the kept ones, what is near a dropped one, that no kept one is near an earlier one, and merging in parts. Assumes nothing.
use Rattle.std.proofs.Math.Path.{◌≡◌, refl, sym, ap}
use Rattle.std.proofs.Common.{◌∙◌, true≢false, add-zero}
use Rattle.std.specs.Prelude.{Bool, false, ◌||◌, Option, Some, None, is_some}
use Rattle.std.specs.Option.{option_or}
use Rattle.std.proofs.Math.Bool.{true, cond}
use mathlib.Core.List.Memᴰ
use mathlib.Core.List.{List, [], ◌∷◌, ◌++◌, map, append_assoc, append-nil, map-append, Memᴰ}
use Rattle.std.proofs.Math.Logic.{inl, inr, ⊎_elim}
use Prim.Native.Nat.{ℕ, suc, ◌+◌, ◌≤◌}
use native.Mathlib.Omega.{arith}
use Rattle.std.proofs.Math.ListN.{length, length-append}
use Rattle.common.specs.All.{all_append}
use Rattle.common.specs.Each.{All}
use Rattle.common.specs.Tests.{case}
use Rattle.seeds.specs.Merge.{keep, has_near, newest_near, push, merged_into, merged}
use Rattle.seeds.specs.Theorem.{Newest, Covered}

is_some_option_or_cond : (r : Option ℕ) (c : Bool) (i : ℕ) → is_some (option_or r (cond c (Some i) None)) ≡ (c || is_some r)
is_some_option_or_cond (Some j) true i = refl
is_some_option_or_cond (Some j) false i = refl
is_some_option_or_cond None true i = refl
is_some_option_or_cond None false i = refl

module _ {A : Type 0} where
  -- ---- those that pass a test
  pub keep_append : (p : A → Bool) (xs ys : List A) → keep p (xs ++ ys) ≡ keep p xs ++ keep p ys
  unfolding keep
  keep_append p [] ys = refl
  keep_append p (x ∷ xs) ys = case (p x) (λ e. simp (e, keep_append p xs ys)) (λ e. simp (e, keep_append p xs ys))

  pub keep_length : (p : A → Bool) (xs : List A) → length (keep p xs) ≤ length xs
  unfolding keep
  keep_length p [] = omega arith
  keep_length p (x ∷ xs) = let h = keep_length p xs in case (p x) (λ e. simp e (omega arith)) (λ e. simp e (omega arith))

  all_of_cond_cons : (Q : A → Type 0) (c : Bool) (x : A) (xs : List A) → (c ≡ true → Q x) → All Q xs → All Q (cond c (x ∷ xs) xs)
  all_of_cond_cons Q true x xs f h = (f refl, h)
  all_of_cond_cons Q false x xs f h = h

  pub keep_all : (P : A → Type 0) (p : A → Bool) (xs : List A) → All P xs → All (λ x. P x × (p x ≡ true)) (keep p xs)
  unfolding keep
  keep_all P p [] h = tt
  keep_all P p (x ∷ xs) h = all_of_cond_cons (λ z. P z × (p z ≡ true)) (p x) x (keep p xs) (λ e. (h.0, e)) (keep_all P p xs h.1)

  -- where none passes, and where all do
  pub keep_none : (p : A → Bool) (xs : List A) → All (λ x. p x ≡ false) xs → keep p xs ≡ []
  unfolding keep
  keep_none p [] h = refl
  keep_none p (x ∷ xs) h = simp h.0 (keep_none p xs h.1)

  pub keep_whole : (p : A → Bool) (xs : List A) → All (λ x. p x ≡ true) xs → keep p xs ≡ xs
  unfolding keep
  keep_whole p [] h = refl
  keep_whole p (x ∷ xs) h = simp h.0 (ap (λ (ys : List A). x ∷ ys) (keep_whole p xs h.1))

  pub mem_keep : (p : A → Bool) (xs : List A) {x : A} → Memᴰ x xs → p x ≡ true → Memᴰ x (keep p xs)
  unfolding keep
  mem_keep p [] m h = m
  mem_keep p (y ∷ xs) {x} m h =
      ⊎_elim
      (λ q. let e : p y ≡ true = sym (ap p q) ∙ h in simp e (Memᴰ.head q))
      (λ t. let n = mem_keep p xs t h in case (p y) (λ e. simp e (Memᴰ.tail n)) (λ e. simp e n))
      (Memᴰ.cases_cons m)

  pub keep_map : (p : A → Bool) (f : A → A) → ((a : A) → p (f a) ≡ p a) → (xs : List A) → keep p (map f xs) ≡ map f (keep p xs)
  unfolding keep
  keep_map p f h [] = refl
  keep_map p f h (x ∷ xs) =
      let r = keep_map p f h xs in
      case (p x) (λ e. simp (h x, e, r)) (λ e. simp (h x, e, r))

  module _ (near : A → A → Bool) where
    -- ---- the near search: it finds one exactly where there is one
    pub newest_found : (i : ℕ) (ks : List A) (s : A) → is_some (newest_near near i ks s) ≡ has_near near ks s
    unfolding newest_near has_near
    newest_found i [] s = refl
    newest_found i (k ∷ ks) s = is_some_option_or_cond (newest_near near (suc i) ks s) (near k s) i ∙ ap (λ (b : Bool). near k s || b) (newest_found (suc i) ks s)

    -- Merging asks only that, so pushing by what the search says keeps what the rule keeps.
    pub push_by_newest_near : (ks : List A) (s : A) → cond (is_some (newest_near near 0 ks s)) ks (ks ++ (s ∷ [])) ≡ push near ks s
    unfolding push
    push_by_newest_near ks s = rw (newest_found 0 ks s)

    pub newest_named : (i j : ℕ) (ks : List A) (s : A) → newest_near near i ks s ≡ Some j → Newest near i ks s j
    unfolding newest_near
    newest_named i j [] s h = let z : ◌≡◌ {A = ℕ} 0 1 = cc in absurd (omega arith)
    newest_named i j (k ∷ ks) s h = go (newest_near near (suc i) ks s) refl h (newest_named (suc i) j ks s)
      where
        go : (r : Option ℕ) → newest_near near (suc i) ks s ≡ r → option_or r (cond (near k s) (Some i) None) ≡ Some j
            → (newest_near near (suc i) ks s ≡ Some j → Newest near (suc i) ks s j) → Newest near i (k ∷ ks) s j
        go (Some m) e g behind =
            let n = behind (e ∙ g) in
            record {
              earlier = k ∷ n.earlier;
              named = n.named;
              later = n.later;
              split = ap (λ (l : List A). k ∷ l) n.split;
              index = let p = n.index in omega arith;
              nearby = n.nearby;
              none_later = n.none_later;
            }
        go None e g behind =
            case (near k s)
            (λ c.
            let f : Some i ≡ Some j = simp c at g in
            let p : i ≡ j = cc in
            record {
              earlier = [];
              named = k;
              later = ks;
              split = refl;
              index = omega arith;
              nearby = c;
              none_later = sym (newest_found (suc i) ks s) ∙ ap is_some e;
            })
            (λ c. let f : None ≡ Some j = simp c at g in let z : ◌≡◌ {A = ℕ} 0 1 = cc in absurd (omega arith))

    -- a kept one that is added at the end is looked at first
    pub newest_near_snoc : (i : ℕ) (ks : List A) (k s : A)
        → newest_near near i (ks ++ (k ∷ [])) s ≡ cond (near k s) (Some (i + length ks)) (newest_near near i ks s)
    unfolding newest_near
    newest_near_snoc i [] k s = ap (λ (n : ℕ). cond (near k s) (Some n) None) (sym (add-zero i))
    newest_near_snoc i (l ∷ ks) k s =
        let h = newest_near_snoc (suc i) ks k s in
        let n : suc i + length ks ≡ i + suc (length ks) = omega arith in
        case (near k s) (λ e. simp (h, e, n)) (λ e. simp (h, e))

    -- ---- in parts
    pub merged_append : (ks xs ys : List A) → merged_into near ks (xs ++ ys) ≡ merged_into near (merged_into near ks xs) ys
    unfolding merged_into
    merged_append ks [] ys = refl
    merged_append ks (x ∷ xs) ys = merged_append (push near ks x) xs ys

    -- ---- lengths
    pub push_length_bounds : (ks : List A) (s : A) → (length ks ≤ length (push near ks s)) × (length (push near ks s) ≤ suc (length ks))
    unfolding push
    push_length_bounds ks s =
        case (has_near near ks s)
        (λ e. simp e (omega arith, omega arith))
        (λ e. let l = length-append ks (s ∷ []) in simp e (omega arith, omega arith))

    pub merged_into_not_shorter : (ks ss : List A) → length ks ≤ length (merged_into near ks ss)
    unfolding merged_into
    merged_into_not_shorter ks [] = omega arith
    merged_into_not_shorter ks (s ∷ ss) = let h = merged_into_not_shorter (push near ks s) ss in let k = push_length_bounds ks s in omega arith

    pub merged_into_length_le_sum : (ks ss : List A) → length (merged_into near ks ss) ≤ length ks + length ss
    unfolding merged_into
    merged_into_length_le_sum ks [] = omega arith
    merged_into_length_le_sum ks (s ∷ ss) = let h = merged_into_length_le_sum (push near ks s) ss in let k = push_length_bounds ks s in omega arith

    -- ---- what holds of those kept before and of those offered holds of those kept after
    all_after_push : (P : A → Type 0) (ks : List A) (s : A) → All P ks → P s → All P (push near ks s)
    unfolding push
    all_after_push P ks s h k = case (has_near near ks s) (λ e. simp e h) (λ e. simp e (all_append P ks (s ∷ []) h (k, tt)))

    pub all_after_merging : (P : A → Type 0) (ks ss : List A) → All P ks → All P ss → All P (merged_into near ks ss)
    unfolding merged_into
    all_after_merging P ks [] h k = h
    all_after_merging P ks (s ∷ ss) h k = all_after_merging P (push near ks s) ss (all_after_push P ks s h k.0) k.1

    -- ---- what is kept stays
    kept_stays_after_push : (ks : List A) (s : A) {x : A} → Memᴰ x ks → Memᴰ x (push near ks s)
    unfolding push
    kept_stays_after_push ks s m = case (has_near near ks s) (λ e. simp e m) (λ e. simp e (Memᴰ.append_left (s ∷ []) m))

    kept_stays_after_merging : (ks ss : List A) {x : A} → Memᴰ x ks → Memᴰ x (merged_into near ks ss)
    unfolding merged_into
    kept_stays_after_merging ks [] m = m
    kept_stays_after_merging ks (s ∷ ss) m = kept_stays_after_merging (push near ks s) ss (kept_stays_after_push ks s m)

    -- ---- each one offered is kept, or near a kept one
    covered_if_has_near : (ks : List A) (s : A) → has_near near ks s ≡ true → Covered near ks s
    unfolding has_near
    covered_if_has_near [] s h = absurd (true≢false (sym h))
    covered_if_has_near (k ∷ ks) s h =
        case (near k s)
        (λ e. record { by = k; kept = Memᴰ.head refl; nearby = inr e })
        (λ e. let r = covered_if_has_near ks s (simp e at h) in record { by = r.by; kept = Memᴰ.tail r.kept; nearby = r.nearby })

    pushed_is_covered : (ks : List A) (s : A) → Covered near (push near ks s) s
    unfolding push
    pushed_is_covered ks s =
        case (has_near near ks s)
        (λ e. simp e (covered_if_has_near ks s e))
        (λ e. simp e (record { by = s; kept = Memᴰ.append_right ks (Memᴰ.head refl); nearby = inl refl }))

    covered_after_merging : (ks ss : List A) (s : A) → Covered near ks s → Covered near (merged_into near ks ss) s
    covered_after_merging ks ss s r = record { by = r.by; kept = kept_stays_after_merging ks ss r.kept; nearby = r.nearby }

    pub merged_covers_each : (ks ss : List A) {s : A} → Memᴰ s ss → Covered near (merged_into near ks ss) s
    unfolding merged_into
    merged_covers_each ks [] m = absurd (Memᴰ.not-nil m)
    merged_covers_each ks (t ∷ ss) {s} m =
        ⊎_elim
        (λ e. covered_after_merging (push near ks t) ss s (rw e (pushed_is_covered ks t)))
        (λ n. merged_covers_each (push near ks t) ss n)
        (Memᴰ.cases_cons m)

    -- ---- none of a merged list is near an earlier one; those of ks come before
    abbrev Fresh : List A → List A → Type 0
    Fresh ks [] = Unit {0}
    Fresh ks (s ∷ ss) = (has_near near ks s ≡ false) × Fresh (ks ++ s ∷ []) ss

    fresh_snoc : (ks ss : List A) (s : A) → Fresh ks ss → has_near near (ks ++ ss) s ≡ false → Fresh ks (ss ++ s ∷ [])
    fresh_snoc ks [] s f h = (rw append-nil at h, tt)
    fresh_snoc ks (t ∷ ss) s f h = (f.0, fresh_snoc (ks ++ t ∷ []) ss s f.1 (rw (← append_assoc ks (t ∷ []) ss) at h))

    fresh_after_push : (ks : List A) (s : A) → Fresh [] ks → Fresh [] (push near ks s)
    unfolding push
    fresh_after_push ks s f = case (has_near near ks s) (λ e. simp e f) (λ e. simp e (fresh_snoc [] ks s f e))

    fresh_after_merging : (ks ss : List A) → Fresh [] ks → Fresh [] (merged_into near ks ss)
    unfolding merged_into
    fresh_after_merging ks [] f = f
    fresh_after_merging ks (s ∷ ss) f = fresh_after_merging (push near ks s) ss (fresh_after_push ks s f)

    fresh_at : (ks before : List A) (s : A) (behind : List A) → Fresh ks (before ++ s ∷ behind) → has_near near (ks ++ before) s ≡ false
    fresh_at ks [] s behind f = rw append-nil f.0
    fresh_at ks (t ∷ before) s behind f = rw (← append_assoc ks (t ∷ []) before) (fresh_at (ks ++ t ∷ []) before s behind f.1)

    pub merged_fresh : (ss before : List A) (s : A) (behind : List A) → merged near ss ≡ before ++ s ∷ behind → has_near near before s ≡ false
    merged_fresh ss before s behind e = fresh_at [] before s behind (rw e at (fresh_after_merging [] ss tt))

    -- ---- a map that keeps nearness keeps merging
    module _ (f : A → A) (same : (a b : A) → near (f a) (f b) ≡ near a b) where
      map_near : (ks : List A) (s : A) → has_near near (map f ks) (f s) ≡ has_near near ks s
      unfolding has_near
      map_near [] s = refl
      map_near (k ∷ ks) s = simp (same k s, map_near ks s)

      map_push : (ks : List A) (s : A) → push near (map f ks) (f s) ≡ map f (push near ks s)
      unfolding push
      map_push ks s =
          case (has_near near ks s)
          (λ e. simp (map_near ks s, e))
          (λ e. simp (map_near ks s, e) (sym (map-append f ks (s ∷ []))))

      pub merged_into_map : (ks ss : List A) → merged_into near (map f ks) (map f ss) ≡ map f (merged_into near ks ss)
      unfolding merged_into
      merged_into_map ks [] = refl
      merged_into_map ks (s ∷ ss) = ap (λ (q : List A). merged_into near q (map f ss)) (map_push ks s) ∙ merged_into_map (push near ks s) ss
