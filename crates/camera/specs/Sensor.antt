-- The tilted sensor: OpenCV's homography of two tilts, its verdict, and a point under a homography and under an
-- inverse. Definitions only.
use Rattle.std.specs.Prelude.{ℕ, Bool, cond, List, [], ◌∷◌, get_or, Float, Result, Ok, Err, ⊤}
use Rattle.std.specs.Float.{nan}
use Rattle.std.specs.Float.Ieee.{neg, lt, eq}
use Rattle.float.specs.Float.{abs_of}
use Rattle.float.specs.Literals.{plus_zero, one₆₄}
use Rattle.float.specs.Binary64.{◌+₆₄◌, ◌*₆₄◌, ◌/₆₄◌}
use Rattle.camera.specs.Constants.{tiny}
use Rattle.camera.specs.Matrix.{Matrix, at, product_of, determinant_of, inverse_of}
use Rattle.camera.specs.declared.math.Pt2.{Pt2}
use Rattle.camera.specs.declared.sensor.TiltTrig.{TiltTrig}
use Rattle.common.specs.Checks.{◌when◌, first_refusal}
use Rattle.common.specs.declared.Refusal.{Refusal}
use Rattle.common.specs.declared.Refusal.TheVariants.{SingularTilt}

-- the rotations about the two axes, from a tilt's sine s and cosine c
abbrev pub rot_x : Float → Float → Matrix
rot_x s c = (one₆₄ ∷ plus_zero ∷ plus_zero ∷ []) ∷ (plus_zero ∷ c ∷ s ∷ []) ∷ (plus_zero ∷ neg s ∷ c ∷ []) ∷ []

abbrev pub rot_y : Float → Float → Matrix
rot_y s c = (c ∷ plus_zero ∷ neg s ∷ []) ∷ (plus_zero ∷ one₆₄ ∷ plus_zero ∷ []) ∷ (s ∷ plus_zero ∷ c ∷ []) ∷ []

-- the projection onto the tilted plane, by the rotation's last column
abbrev pub proj_z : Matrix → Matrix
proj_z r = (at r 2 2 ∷ plus_zero ∷ neg (at r 0 2) ∷ []) ∷ (plus_zero ∷ at r 2 2 ∷ neg (at r 1 2) ∷ []) ∷ (plus_zero ∷ plus_zero ∷ one₆₄ ∷ []) ∷ []

unfoldable pub tilt_projection_matrix : TiltTrig → Matrix
tilt_projection_matrix t = let r = product_of (rot_y t.sin_y t.cos_y) (rot_x t.sin_x t.cos_x) in product_of (proj_z r) r

-- the determinant equals 0, of either sign
abbrev pub is_singular : Matrix → Bool
is_singular h = eq (determinant_of h) plus_zero

abbrev pub tilt_verdict : Matrix → Result ⊤ Refusal
tilt_verdict h = first_refusal ((SingularTilt when is_singular h) ∷ [])

-- the inverse of a matrix, unless the verdict refuses it
abbrev pub checked_inverse : Matrix → Result Matrix Refusal
checked_inverse h = elim (tilt_verdict h) [ Ok _ ↦ Ok (inverse_of h) | Err r ↦ Err r ]

-- a row times (x, y, 1), and coordinate i of the matrix times it
abbrev pub row_at : List Float → Pt2 → Float
row_at row p = get_or row 0 nan *₆₄ p.x +₆₄ get_or row 1 nan *₆₄ p.y +₆₄ get_or row 2 nan *₆₄ one₆₄

abbrev pub homogeneous : Matrix → Pt2 → ℕ → Float
homogeneous h p i = row_at (get_or h i []) p

-- what the first two coordinates are divided by: z where z, or for an inverse its magnitude, is above 1e-12, else 1e-12
unfoldable pub forward_depth : Float → Float
forward_depth z = cond (lt tiny z) z tiny

unfoldable pub inverse_depth : Float → Float
inverse_depth z = cond (lt tiny (abs_of z)) z tiny

abbrev pub divided_by : Float → Matrix → Pt2 → Pt2
divided_by d h p = record { x = homogeneous h p 0 /₆₄ d; y = homogeneous h p 1 /₆₄ d }

unfoldable pub apply_homography : Matrix → Pt2 → Pt2
apply_homography h p = divided_by (forward_depth (homogeneous h p 2)) h p

unfoldable pub apply_homography_inverse : Matrix → Pt2 → Pt2
apply_homography_inverse h p = divided_by (inverse_depth (homogeneous h p 2)) h p
