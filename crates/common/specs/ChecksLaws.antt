-- One condition of a list of refusals, where nothing is refused. Assumes nothing.
use Rattle.std.specs.Prelude.{◌≡◌, refl, Bool, true, false, cond, List, [], ◌∷◌, ◌++◌, Result, Ok, Err, ⊤}
use Rattle.common.specs.declared.Refusal.{Refusal}
use Rattle.common.specs.Checks.{Check, ◌when◌, first_refusal}

-- no refusal: the condition doesn't hold, and the rest refuses nothing
pub refuses_none : (b : Bool) (r : Refusal) (rest : Result ⊤ Refusal) → cond b (Err r) rest ≡ Ok tt → (b ≡ false) × (rest ≡ Ok tt)
refuses_none true r rest h = cc
refuses_none false r rest h = (refl, h)

-- further conditions that hold only where something is refused before them
pub refuses_no_more : (cs ds : List Check) → (first_refusal cs ≡ Ok tt → first_refusal ds ≡ Ok tt) → first_refusal (cs ++ ds) ≡ first_refusal cs
refuses_no_more [] ds h = h refl
refuses_no_more ((r when true) ∷ cs) ds h = refl
refuses_no_more ((r when false) ∷ cs) ds h = refuses_no_more cs ds h
