-- What a row of the table claims: one constructor for each operation, with its inputs and its reply
-- (docs/SPECIFICATION.md, 13.1). Definitions only.
use Rattle.std.specs.Prelude.{ℕ, zero, suc, ◌≡◌, List, [], map, pos, negsuc, Float, Result, ⊤}
use Rattle.common.specs.declared.Refusal.{Refusal}
use Rattle.std.specs.Float.Ieee.{of_int, of_bits}
use Rattle.std.specs.Float.{binary64}
use Rattle.root.specs.Root.{root}
use Rattle.camera.specs.declared.math.Pt2.{Pt2}
use Rattle.camera.specs.declared.intrinsics.FxFyCxCy.{FxFyCxCy}
use Rattle.camera.specs.declared.sensor.ScheimpflugParams.{ScheimpflugParams}
use Rattle.camera.specs.Matrix.{Matrix}
use Rattle.camera.specs.Sensor.{tilt_projection_matrix, tilt_verdict, apply_homography, apply_homography_inverse}
use Rattle.points.specs.Centre.{centre_reply}
use Rattle.zhang.specs.declared.Conic.{Conic}
use Rattle.zhang.specs.Zhang.{from_homographies}
use Rattle.seeds.specs.Rules.{seed_with, initial_list, offsets, next_list}
use Rattle.score.specs.Penalties.{tilt_penalty}

-- ---- numbers: n and -n
abbrev pub whole : ℕ → Float
whole n = of_int binary64 (pos n)

abbrev pub minus : ℕ → Float
minus zero = of_bits binary64 0x8000_0000_0000_0000
minus (suc n) = of_int binary64 (negsuc n)

pub data Case : Type 0 where
  sqrt : Float → Float → Case
  -- sine and cosine of each tilt, and whether their matrix can be inverted
  tilt : Float → Float → Float → Float → Result ⊤ Refusal → Case
  forward backward : Matrix → Pt2 → Pt2 → Case
  centre : List Float → Result Pt2 Refusal → Case
  conic : Conic → Result FxFyCxCy Refusal → Case
  -- typed x tilts, typed y tilts, the bound, and the tilts of round 0's list; a pair of tilts, the step, the bound, and
  -- the tilts of the list around the pair
  typed : List Float → List Float → Float → List ScheimpflugParams → Case
  around : ScheimpflugParams → Float → Float → List ScheimpflugParams → Case
  penalty : ScheimpflugParams → Float → Case

-- The definition of the operation gives the reply. The lists of seeds do so for every camera.
abbrev pub Holds : Case → Type 0
Holds (sqrt x r) = root binary64 x ≡ r
Holds (tilt sinX cosX sinY cosY v) = tilt_verdict (tilt_projection_matrix (record { sin_x = sinX; cos_x = cosX; sin_y = sinY; cos_y = cosY })) ≡ v
Holds (forward h p q) = apply_homography h p ≡ q
Holds (backward h p q) = apply_homography_inverse h p ≡ q
Holds (centre pixels r) = centre_reply pixels ≡ r
Holds (conic b r) = from_homographies b ≡ r
Holds (typed xs ys max ts) = (base : FxFyCxCy) → initial_list [] xs ys base max ≡ map (seed_with base) ts
Holds (around c s max ts) = (camera : FxFyCxCy) → next_list (offsets s) (offsets s) c camera max ≡ map (seed_with camera) ts
Holds (penalty t r) = tilt_penalty t ≡ r
