-- An array that is filled from its start, one place a turn. Assumes nothing.
use Rattle.std.proofs.Common.{ℕ, ◌+◌, ◌<◌, ◌≢◌, List, length, get_or, set, arith, get_or-set_other, get_or-set_same, below_more}

-- what holds of the first j places, and of what is put to place j, holds of the first j + 1
pub set_extends_filled : {A : Type 0} (xs : List A) (d : A) (j : ℕ) (a : A) (P : ℕ → A → Type 0) → j < length xs → ((k : ℕ) → k < j → P k (get_or xs k d)) → P j a
    → (k : ℕ) → k < j + 1 → P k (get_or (set xs j a) k d)
set_extends_filled xs d j a P inside all one =
    below_more (λ k. P k (get_or (set xs j a) k d)) j
    (λ k h. let ne : k ≢ j = omega arith in rw get_or-set_other (all k h))
    (rw get_or-set_same one)
