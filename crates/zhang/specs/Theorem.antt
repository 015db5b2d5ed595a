-- The theorems of zhang, as types. The comment on each part names the file that proves it. Definitions only.
use Rattle.std.specs.Prelude.{◌≡◌, Bool, not, true, false, ℕ, ◌+◌, ◌*◌, ◌≤◌, ◌<◌, Result, Ok, Err}
use Rattle.std.specs.Float.Ieee.{unlike, eq}
use Rattle.float.specs.Whole.{Num}
use Rattle.camera.specs.declared.intrinsics.FxFyCxCy.{FxFyCxCy}
use Rattle.zhang.specs.declared.Conic.{Conic}
use Rattle.common.specs.declared.Refusal.{Refusal}
use Rattle.zhang.specs.Zhang.{from_homographies}
use Rattle.common.specs.declared.Refusal.TheVariants.{NoSharedPower}
use Rattle.zhang.specs.Plate.{plate_of}
use Rattle.common.specs.Each.{All}
use Rattle.zhang.specs.Table.{Holds, table}

-- ---- A camera comes back from its conic. `proofs/Exact.antt` proves it.

-- μ K⁻ᵀ K⁻¹ for a camera K of p 2^k, q 2^k, ±x 2^k and ±y 2^k, where μ is p² q² 2^2k, or, where s is true, the negative
-- of that
pub record Conic-of (p q x y k : ℕ) (sx sy s : Bool) (b : Conic) : Type 0 where
  pub b11 : Num b.b11 s (q * q) 0
  pub b12 : Num b.b12 s 0 0
  pub b22 : Num b.b22 s (p * p) 0
  pub b13 : Num b.b13 (unlike s (not sx)) (x * (q * q)) k
  pub b23 : Num b.b23 (unlike s (not sy)) (y * (p * p)) k
  pub b33 : Num b.b33 s (x * x * (q * q) + y * y * (p * p) + p * p * (q * q)) (k + k)

-- The reply is a camera whose four numbers equal those of f, as IEEE 754 compares: they are the same but for the sign
-- of a zero.
pub record Recovered (f : FxFyCxCy) (r : Result FxFyCxCy Refusal) : Type 0 where
  pub camera : FxFyCxCy
  pub reply : r ≡ Ok camera
  pub fx : eq camera.fx f.fx ≡ true
  pub fy : eq camera.fy f.fy ≡ true
  pub cx : eq camera.cx f.cx ≡ true
  pub cy : eq camera.cy f.cy ≡ true

-- A camera of whole numbers up to 256, times a power of two, comes back from its conic, and from the negated one.
pub record CameraRecovered : Type 0 where
  pub recovered : (p q x y k : ℕ) (sx sy s : Bool) (b : Conic) → Conic-of p q x y k sx sy s b → 0 < p → 0 < q → p ≤ 256 → q ≤ 256 → x ≤ 256 → y ≤ 256 → k ≤ 300
      → (f : FxFyCxCy) → Num f.fx false p k → Num f.fy false q k → Num f.cx sx x k → Num f.cy sy y k → Recovered f (from_homographies b)

-- ---- What a plate with a known answer is (docs/SPECIFICATION.md, 3.16). `proofs/Given.antt` proves it.

-- The four numbers of a camera are whole numbers of 2 ^ k: p and q, 1 to 256, for the focal lengths, ±x and ±y, up to
-- 256, for the centre. (`Num a s n k`: a is n 2 ^ k, with a minus where s; a zero has either sign.)
pub record Units (k : ℕ) (f : FxFyCxCy) : Type 0 where
  pub p : ℕ
  pub q : ℕ
  pub x : ℕ
  pub y : ℕ
  pub x_minus : Bool
  pub y_minus : Bool
  pub p_range : (1 ≤ p) × (p ≤ 256)
  pub q_range : (1 ≤ q) × (q ≤ 256)
  pub x_range : x ≤ 256
  pub y_range : y ≤ 256
  pub fx_is : Num f.fx false p k
  pub fy_is : Num f.fy false q k
  pub cx_is : Num f.cx x_minus x k
  pub cy_is : Num f.cy y_minus y k

-- One unit, a power of two from 1 to 256, does for all four.
pub record Shared (f : FxFyCxCy) : Type 0 where
  pub k : ℕ
  pub power : k ≤ 8
  pub units : Units k f

-- Each such camera gets six numbers from which the closed form gives the four back, a zero with either sign
-- (`Recovered`); every other one is refused.
pub record PlateRight : Type 0 where
  pub gives : (f : FxFyCxCy) → Shared f → (b : Conic) × (plate_of f ≡ Ok b) × Recovered f (from_homographies b)
  pub refuses : (f : FxFyCxCy) → (Shared f → ⊥) → plate_of f ≡ Err NoSharedPower

-- each camera of the table gets what the table says
pub record CasesHold : Type 0 where
  pub all_hold : All Holds table
