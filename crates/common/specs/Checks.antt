-- An operation's refusals with their conditions, of which the first that holds is returned. Definitions only.
use Rattle.std.specs.Prelude.{Bool, cond, List, [], ◌∷◌, Result, Ok, Err, ⊤}
use Rattle.common.specs.declared.Refusal.{Refusal}

-- a refusal, and the condition under which it is returned
pub data Check : Type 0 where
  ◌when◌ : Refusal → Bool → Check

infix 5 ◌when◌
-- the refusal of the first condition that holds; where none does, nothing is refused
abbrev pub first_refusal : List Check → Result ⊤ Refusal
first_refusal [] = Ok tt
first_refusal ((r when b) ∷ cs) = cond b (Err r) (first_refusal cs)
