-- The camera of a conic, by the closed form of Zhang's paper (A flexible new technique for camera calibration, 2000,
-- appendix B), each operation rounded. The names are the paper's: v0, λ, α, β, γ, u0. Definitions only.
use Rattle.std.specs.Prelude.{Bool, not, ◌&&◌, cond, Float, Result, Ok, Err}
use Rattle.std.specs.Float.{binary64}
use Rattle.std.specs.Float.Ieee.{neg, lt, le}
use Rattle.float.specs.Binary64.{◌+₆₄◌, ◌-₆₄◌, ◌*₆₄◌, ◌/₆₄◌}
use Rattle.float.specs.Float.{abs_of}
use Rattle.float.specs.Literals.{plus_zero, ten_to_minus6, ten_to_minus12}
use Rattle.root.specs.Root.{root}
use Rattle.camera.specs.declared.intrinsics.FxFyCxCy.{FxFyCxCy}
use Rattle.zhang.specs.declared.Conic.{Conic}
use Rattle.common.specs.declared.Refusal.{Refusal}
use Rattle.common.specs.declared.Refusal.TheVariants.{DegenerateViews}

-- 1e-6
abbrev pub least_definite : Float
least_definite = ten_to_minus6

-- 1e-12
abbrev pub least_b11 : Float
least_b11 = ten_to_minus12

-- b11 b22 - b12²
abbrev pub denom : Conic → Float
denom b = b.b11 *₆₄ b.b22 -₆₄ b.b12 *₆₄ b.b12

-- b11² + b22²
abbrev pub norm : Conic → Float
norm b = b.b11 *₆₄ b.b11 +₆₄ b.b22 *₆₄ b.b22

-- v0 = (b12 b13 - b11 b23) / (b11 b22 - b12²)
abbrev pub v0 : Conic → Float
v0 b = (b.b12 *₆₄ b.b13 -₆₄ b.b11 *₆₄ b.b23) /₆₄ denom b

-- λ = b33 - (b13² + v0 (b12 b13 - b11 b23)) / b11
abbrev pub lambda : Conic → Float
lambda b = b.b33 -₆₄ (b.b13 *₆₄ b.b13 +₆₄ v0 b *₆₄ (b.b12 *₆₄ b.b13 -₆₄ b.b11 *₆₄ b.b23)) /₆₄ b.b11

-- α = √(λ / b11)
abbrev pub alpha : Conic → Float
alpha b = root binary64 (lambda b /₆₄ b.b11)

-- β = √(λ b11 / (b11 b22 - b12²))
abbrev pub beta : Conic → Float
beta b = root binary64 (lambda b *₆₄ b.b11 /₆₄ denom b)

-- γ = -b12 α² β / λ
abbrev pub gamma : Conic → Float
gamma b = neg b.b12 *₆₄ alpha b *₆₄ alpha b *₆₄ beta b /₆₄ lambda b

-- u0 = γ v0 / β - b13 α² / λ
abbrev pub u0 : Conic → Float
u0 b = gamma b *₆₄ v0 b /₆₄ beta b -₆₄ b.b13 *₆₄ alpha b *₆₄ alpha b /₆₄ lambda b

abbrev pub camera_of : Conic → FxFyCxCy
camera_of b = record { fx = alpha b; fy = beta b; cx = u0 b; cy = v0 b }

-- The upper left 2 × 2 part is definite, and clearly so for its size; b11 isn't nearly 0; and λ has the sign of b11. A
-- NaN in a test fails it.
unfoldable pub definite : Conic → Bool
definite b = lt plus_zero (norm b) && (lt least_definite (denom b /₆₄ norm b) && (not (le (abs_of b.b11) least_b11) && lt plus_zero (lambda b /₆₄ b.b11)))

-- A conic that isn't definite is no camera's, and is refused. A camera with numbers that aren't finite is a reply like
-- any other.
unfoldable pub from_homographies : Conic → Result FxFyCxCy Refusal
unfolding definite
from_homographies b = cond (definite b) (Ok (camera_of b)) (Err DegenerateViews)
