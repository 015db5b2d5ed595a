-- Merging a list under a relation of nearness: a seed that lies near an earlier kept one is dropped, and which kept one is named. Definitions only.
use Rattle.std.specs.Prelude.{ℕ, suc, Bool, false, ◌||◌, cond, Option, Some, None, List, [], ◌∷◌, ◌++◌}
use Rattle.std.specs.Option.{option_or}

module _ {A : Type 0} where
  -- those of a list that pass a test, in their order
  unfoldable pub keep : (A → Bool) → List A → List A
  keep p [] = []
  keep p (s ∷ ss) = cond (p s) (s ∷ keep p ss) (keep p ss)

  module _ (near : A → A → Bool) where
    -- whether some kept one lies near s
    unfoldable pub has_near : List A → A → Bool
    has_near [] s = false
    has_near (k ∷ ks) s = near k s || has_near ks s

    -- the place of the newest kept one that is near s, counted from i: the places behind the first come before it
    unfoldable pub newest_near : ℕ → List A → A → Option ℕ
    newest_near i [] s = None
    newest_near i (k ∷ ks) s = option_or (newest_near (suc i) ks s) (cond (near k s) (Some i) None)

    -- s is dropped where a kept one lies near it, and comes last otherwise
    unfoldable pub push : List A → A → List A
    push ks s = cond (has_near ks s) ks (ks ++ (s ∷ []))

    -- a list offered seed by seed, in order, to those kept so far
    unfoldable pub merged_into : List A → List A → List A
    merged_into ks [] = ks
    merged_into ks (s ∷ ss) = merged_into (push ks s) ss

    abbrev pub merged : List A → List A
    merged ss = merged_into [] ss
