-- A table of a function's values, and the value at an index of it. A program's constant array is such a table where
-- antt computes the same list. Assumes nothing.
use Rattle.std.specs.Prelude.{ℕ, zero, suc, ◌+◌, ◌<◌, ◌≡◌, List, [], ◌∷◌, get_or}
use Rattle.std.proofs.Common.{◌∙◌, ap, sym, add-zero, zero-add, add-suc, suc-add, le_of_suc-le-suc, not-suc-le-zero}

module _ {A : Type 0} (f : ℕ → A) where
  -- f at k numbers, from i on
  abbrev values : ℕ → ℕ → List A
  values i zero = []
  values i (suc k) = f i ∷ values (suc i) k

  value_at : (i k n : ℕ) (d : A) → n < k → get_or (values i k) n d ≡ f (i + n)
  value_at i zero n d h = absurd (not-suc-le-zero h)
  value_at i (suc k) zero d h = ap f (sym (add-zero i))
  value_at i (suc k) (suc n) d h = value_at (suc i) k n d (le_of_suc-le-suc h) ∙ ap f (suc-add i n ∙ sym (add-suc i n))

  -- f at 0, 1, .. k - 1
  abbrev pub table_of : ℕ → List A
  table_of k = values 0 k

  pub table_at : (k n : ℕ) (d : A) → n < k → get_or (table_of k) n d ≡ f n
  table_at k n d h = value_at 0 k n d h ∙ ap f (zero-add n)
