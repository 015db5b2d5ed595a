-- What the contracts of src/operand.rt say of the float that is taken apart. Definitions only.
use Rattle.std.specs.Prelude.{◌≡◌, ◌-◌, ◌*◌, ◌^◌, ◌<◌, ◌≤◌, Float}
use Rattle.std.specs.Float.{binary64}
use Rattle.root.specs.Root.{root_of, root}
use Rattle.root.specs.declared.operand.Scaled.{Scaled}
use Rattle.root.specs.declared.operand.Operand.{Operand}
use Rattle.root.specs.declared.operand.Operand.TheVariants.{Known, Positive}

-- the significand has 53 binary digits, or 54 of which the last is 0
pub record Bounded (s : Scaled) : Type 0 where
  pub least : 2 ^ 52 ≤ s.significand
  pub most : s.significand ≤ 2 ^ 54 - 2
  pub half_least : 511 ≤ s.half
  pub half_most : s.half < 1560

abbrev pub Decomposed : Float → Operand → Type 0
Decomposed x (Known r) = r ≡ root binary64 x
Decomposed x (Positive s) = Bounded s × (root_of binary64 (s.significand * 4 ^ s.half) ≡ root binary64 x)
