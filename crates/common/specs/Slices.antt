-- The part of a slice from an index to its end. Assumes nothing.
use Rattle.std.specs.Prelude.{ℕ, ◌-◌, ◌≡◌, List, length, take, drop}
use Rattle.std.proofs.Common.{arith, length-drop, take_all}

-- as the code takes it, that part is the list without the elements before the index
pub slice_to_end_is_drop : {A : Type 0} (s : List A) (at : ℕ) → take (length s - at) (drop at s) ≡ drop at s
slice_to_end_is_drop s at = take_all (length s - at) (drop at s) (omega (arith, length-drop at s))
