-- The rules about seeds, on lists of values: nearness, the bound, round 0's list, a later list. Definitions only.
use Rattle.std.specs.Prelude.{Bool, ◌&&◌, cond, List, [], ◌∷◌, ◌++◌, map, Float}
use Rattle.std.specs.Float.Ieee.{neg, lt, eq}
use Rattle.float.specs.Float.{abs_of, within}
use Rattle.float.specs.Literals.{plus_zero, ten_to_minus9, ten_to_minus12}
use Rattle.float.specs.Binary64.{◌+₆₄◌, ◌-₆₄◌}
use Rattle.camera.specs.declared.intrinsics.FxFyCxCy.{FxFyCxCy}
use Rattle.camera.specs.declared.sensor.ScheimpflugParams.{ScheimpflugParams}
use Rattle.seeds.specs.declared.CandidateSeed.{CandidateSeed}
use Rattle.seeds.specs.Merge.{keep, merged}

-- ---- nearness: two seeds are near if they are nearer than 1e-12 in both tilts and nearer than 1e-9 in all four
-- intrinsics. The rounded difference decides, and the limit itself isn't near. NaN is near nothing, and two infinities
-- of one sign aren't near each other.
unfoldable pub closer : Float → Float → Float → Bool
closer limit x y = lt (abs_of (x -₆₄ y)) limit

-- 1e-12 and 1e-9
abbrev pub tilt_limit : Float
tilt_limit = ten_to_minus12

abbrev pub camera_limit : Float
camera_limit = ten_to_minus9

unfoldable pub tilt_near : ScheimpflugParams → ScheimpflugParams → Bool
tilt_near s t = closer tilt_limit s.tilt_x t.tilt_x && closer tilt_limit s.tilt_y t.tilt_y

unfoldable pub camera_near : FxFyCxCy → FxFyCxCy → Bool
camera_near k l = closer camera_limit k.fx l.fx && closer camera_limit k.fy l.fy && closer camera_limit k.cx l.cx && closer camera_limit k.cy l.cy

unfoldable pub near : CandidateSeed → CandidateSeed → Bool
near s t = tilt_near s.sensor t.sensor && camera_near s.reference_k t.reference_k

-- ---- the bound: a pair is within it if both tilts are at most max_abs_tilt in size; NaN is within nothing
unfoldable pub in_bound : Float → ScheimpflugParams → Bool
in_bound max t = within max t.tilt_x && within max t.tilt_y

-- ---- no tilt about y: a zero of either sign
unfoldable pub untilted_y : ScheimpflugParams → Bool
untilted_y t = eq t.tilt_y plus_zero

-- ---- every x with every y: x outer, y inner
abbrev pub tilts : Float → Float → ScheimpflugParams
tilts x y = record { tilt_x = x; tilt_y = y }

unfoldable pub pairs : List Float → List Float → List ScheimpflugParams
pairs [] ys = []
pairs (x ∷ xs) ys = map (tilts x) ys ++ pairs xs ys

abbrev pub seed_with : FxFyCxCy → ScheimpflugParams → CandidateSeed
seed_with k t = record { reference_k = k; sensor = t }

-- tilts within the bound, each as an entry of a list; and as seeds with one camera
abbrev pub items_within : {A : Type 0} → (ScheimpflugParams → A) → Float → List ScheimpflugParams → List A
items_within of max ts = map of (keep (in_bound max) ts)

abbrev pub seeds_within : Float → FxFyCxCy → List ScheimpflugParams → List CandidateSeed
seeds_within max k ts = items_within (seed_with k) max ts

-- ---- round 0's grid: pairs of typed tilts beyond the bound are left out, and the others are merged by tilt alone.
unfoldable pub seed_grid : List Float → List Float → Float → List ScheimpflugParams
seed_grid xs ys max = merged tilt_near (keep (in_bound max) (pairs xs ys))

-- Round 0's list is the decomposition seeds, then the grid with the base camera, merged in this order.
unfoldable pub initial_list : List CandidateSeed → List Float → List Float → FxFyCxCy → Float → List CandidateSeed
initial_list decomposition xs ys base max = merged near (decomposition ++ map (seed_with base) (seed_grid xs ys max))

-- ---- a later round's list: the offsets are added to the centre's tilts, pairs that are then beyond the bound are left
-- out, and the others are merged, the earlier kept. The offsets are any two lists. A run has -s, 0 and s for both axes;
-- a one-axis run has 0 alone for y.
unfoldable pub offsets : Float → List Float
offsets s = neg s ∷ plus_zero ∷ s ∷ []

unfoldable pub y_offsets : Bool → Float → List Float
y_offsets one_axis s = cond one_axis (plus_zero ∷ []) (offsets s)

abbrev pub moved : Float → List Float → List Float
moved centre ds = map (λ d. centre +₆₄ d) ds

unfoldable pub next_list : List Float → List Float → ScheimpflugParams → FxFyCxCy → Float → List CandidateSeed
next_list dxs dys centre camera max =
    merged near (seeds_within max camera (pairs (moved centre.tilt_x dxs) (moved centre.tilt_y dys)))
