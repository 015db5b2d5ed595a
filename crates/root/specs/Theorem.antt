-- The definition of specs/Root.antt is the square root of IEEE 754, for both formats, as a type. `proofs/Summary.antt`
-- proves it. Definitions only.
use Rattle.std.specs.Prelude.{◌≡◌, Bool, true, false, not, ◌&&◌, ◌||◌, ℕ, zero, ◌*◌, ◌<◌, ℤ, T, Float}
use Rattle.std.specs.Float.{nan, inf, fin, Format, binary64, sqrt}
use Rattle.std.specs.Float.Ieee.{fits, lt, is_nan}
use Rattle.std.specs.Float.Ieee.Scale.{finite}
use Rattle.std.specs.Float.Ieee.Positive.{num, den, positive}
use Rattle.float.specs.Float.{is_finite}
use Rattle.float.specs.Literals.{plus_zero}
use Rattle.root.specs.Root.{middle, radicand, root}
use Rattle.root.specs.Nearer.{Nearer}

-- `fits f x` says that x is a value of the format f; `positive x` that it is finite and above zero.
pub record SquareRootOf754 (f : Format) : Type 0 where
  -- the root of a value of the format is one
  pub representable : (x : Float) → T (fits f x) → T (fits f (root f x))
  -- no number of the format, negative ones among them, is as near to the true root: each other one lies farther away
  pub nearest : (x : Float) → T (positive x) → T (fits f x) → (y : Float) → T (finite y) → T (fits f y) → Nearer x (root f x) y
  -- the true root is never in the middle between two neighbours, so that ties to even is met
  pub no_tie : (m : ℕ) (e : ℤ) → 0 < m → T (fits f (fin false m e)) → 4 * radicand f m e ≡ middle f (radicand f m e) * middle f (radicand f m e) → ⊥
  -- where x is the square of a value y of the format, the root is y
  pub exact : (x y : Float) → T (positive x) → T (fits f x) → T (positive y) → T (fits f y) → num x * (den y * den y) ≡ num y * num y * den x → root f x ≡ y
  -- the special values
  pub of_zero : (s : Bool) (e : ℤ) → root f (fin s zero e) ≡ fin s zero e
  pub of_infinity : root f (inf false) ≡ inf false
  pub of_nan : root f nan ≡ nan
  pub of_negative : (x : Float) → lt x plus_zero ≡ true → root f x ≡ nan
  -- no root is below zero; it is NaN exactly for NaN and below zero, and finite exactly for what is finite and not
  -- below zero
  pub not_below : (x : Float) → lt (root f x) plus_zero ≡ false
  pub is_nan_lem : (x : Float) → is_nan (root f x) ≡ (is_nan x || lt x plus_zero)
  pub is_finite_lem : (x : Float) → T (fits f x) → is_finite (root f x) ≡ (is_finite x && not (lt x plus_zero))

pub record RootIs754 : Type 0 where
  pub of_format : (f : Format) → SquareRootOf754 f

-- the machine's root, of which the kit says that it is this `sqrt`, is that root for every value of binary64
abbrev pub MachineRootIs754 : Type 0
MachineRootIs754 = (x : Float) → T (fits binary64 x) → sqrt binary64 x ≡ root binary64 x
