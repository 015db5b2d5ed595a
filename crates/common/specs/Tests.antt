-- Case analysis on a test, and the parts of a test of two parts. Assumes nothing.
use Rattle.std.specs.Prelude.{◌≡◌, refl, Bool, true, false, ◌&&◌, ◌||◌}
use Rattle.std.proofs.lemmas.Bool.{and_parts, or_parts}

-- case analysis: each case gets the test's value as an equation
pub case : (c : Bool) {P : Type 0} → (c ≡ true → P) → (c ≡ false → P) → P
case true f g = f refl
case false f g = g refl

pub both_true : (a b : Bool) → (a && b) ≡ true → (a ≡ true) × (b ≡ true)
both_true = and_parts

pub both_false : (a b : Bool) → (a || b) ≡ false → (a ≡ false) × (b ≡ false)
both_false = or_parts
