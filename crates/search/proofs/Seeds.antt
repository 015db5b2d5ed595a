-- A test of all seeds of a list, as the code goes over them, six numbers at a time. Assumes nothing.
use Rattle.std.proofs.Common.{◌≡◌, refl, ap, Bool, ◌&&◌, List, [], ◌∷◌}
use Rattle.std.specs.List.{list_all}
use Rattle.common.specs.Each.{every}

-- std's test of each element is `every`
pub list_all_every : {A : Type 0} (p : A → Bool) (xs : List A) → list_all p xs ≡ every p xs
unfolding every
list_all_every p [] = refl
list_all_every p (x ∷ xs) = ap (λ (b : Bool). p x && b) (list_all_every p xs)
