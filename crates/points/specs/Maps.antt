-- The point maps: what becomes of one pixel, of a list of pixels and of the destination, and what a map refuses.
-- Definitions only.
use Rattle.std.specs.Prelude.{ℕ, List, [], ◌∷◌, ◌++◌, length, drop, Result, Ok, Err, ⊤, Float}
use Rattle.common.specs.Checks.{◌when◌, first_refusal}
use Rattle.common.specs.declared.Refusal.{Refusal}
use Rattle.common.specs.declared.Refusal.TheVariants.{SingularTilt}
use Rattle.camera.specs.declared.math.Pt2.{Pt2}
use Rattle.camera.specs.declared.intrinsics.FxFyCxCy.{FxFyCxCy}
use Rattle.camera.specs.Intrinsics.{pixel_to_sensor, sensor_to_pixel}
use Rattle.camera.specs.Matrix.{Matrix, inverse_of}
use Rattle.camera.specs.Sensor.{is_singular, apply_homography_inverse}
use Rattle.points.specs.Points.{length_checks, map_points}

-- a pixel on the sensor, back through the tilt and the lens, and as a pixel again; a lens that is kept is the identity
abbrev pub mapped_point : FxFyCxCy → (Pt2 → Pt2) → Matrix → Pt2 → Pt2
mapped_point k lens inverse p = sensor_to_pixel k (lens (apply_homography_inverse inverse (pixel_to_sensor k p)))

-- the mapped points at the front of the destination, whose tail stays
abbrev pub written : (Pt2 → Pt2) → List Float → List Float → List Float
written f points to = map_points f points ++ drop (length points) to

-- the refusals of the lengths, and then that of a tilt without an inverse
abbrev pub refusal_of : Matrix → ℕ → ℕ → Result ⊤ Refusal
refusal_of h numbers room = first_refusal (length_checks numbers room ++ ((SingularTilt when is_singular h) ∷ []))

abbrev pub map_inverse : Matrix → ℕ → ℕ → Result Matrix Refusal
map_inverse h numbers room = elim (refusal_of h numbers room) [ Ok _ ↦ Ok (inverse_of h) | Err r ↦ Err r ]

-- the reply
abbrev pub map_reply : Matrix → List Float → List Float → Result ⊤ Refusal
map_reply h points to = refusal_of h (length points) (length to)

-- the destination afterwards, which a refusal leaves as it was
abbrev pub map_destination : FxFyCxCy → (Pt2 → Pt2) → Matrix → List Float → List Float → List Float
map_destination k lens h points to = elim (map_reply h points to) [ Ok _ ↦ written (mapped_point k lens (inverse_of h)) points to | Err _ ↦ to ]
