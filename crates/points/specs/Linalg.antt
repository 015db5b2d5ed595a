-- Hartley's normalisation of points: the centroid comes to the origin, and the mean distance from it to √2. Each
-- operation is rounded. Definitions only.
use Rattle.std.specs.Prelude.{ℕ, Bool, ◌||◌, cond, List, [], ◌∷◌, ◌++◌, eqb, length, drop, Float, Option, Some, None, Result, Ok, Err, ⊤}
use Rattle.std.specs.Float.{binary64}
use Rattle.std.specs.Float.Ieee.{of_bits, neg, le}
use Rattle.common.specs.declared.Refusal.{Refusal}
use Rattle.common.specs.declared.Refusal.TheVariants.{Coincident}
use Rattle.common.specs.Checks.{◌when◌, first_refusal}
use Rattle.float.specs.Binary64.{◌+₆₄◌, ◌-₆₄◌, ◌*₆₄◌, ◌/₆₄◌}
use Rattle.float.specs.Literals.{plus_zero, two₆₄}
use Rattle.root.specs.Root.{root}
use Rattle.camera.specs.declared.math.Pt2.{Pt2}
use Rattle.points.specs.declared.linalg.Similarity.{Similarity}
use Rattle.points.specs.declared.linalg.Transform.{Transform}
use Rattle.points.specs.Points.{fold_points, mapped_xy, map_points, count_of, length_checks}
use Rattle.camera.specs.Math.{distance_of}

-- 2^-52
abbrev pub epsilon : Float
epsilon = of_bits binary64 0x3cb0_0000_0000_0000

-- ---- the centroid, and the mean distance from a point: sums from 0, over the points in order, divided by their count
abbrev pub add_point : Pt2 → Pt2 → Pt2
add_point a p = record { x = a.x +₆₄ p.x; y = a.y +₆₄ p.y }

unfoldable pub centroid_of : List Float → Pt2
unfolding fold_points
centroid_of s = let t = fold_points add_point (record { x = plus_zero; y = plus_zero }) s in record { x = t.x /₆₄ count_of s; y = t.y /₆₄ count_of s }

abbrev pub add_distance : Pt2 → Float → Pt2 → Float
add_distance c d p = d +₆₄ distance_of p c

unfoldable pub mean_distance : Pt2 → List Float → Float
unfolding fold_points
mean_distance c s = fold_points (add_distance c) plus_zero s /₆₄ count_of s

-- ---- the similarity
-- no points, or a mean distance of at most 2^-52
unfoldable pub degenerate : List Float → Bool
unfolding mean_distance centroid_of
degenerate s = eqb (length s) 0 || le (mean_distance (centroid_of s) s) epsilon

abbrev pub scaled_to : Pt2 → Float → Similarity
scaled_to c d = record { scale = root binary64 two₆₄ /₆₄ d; cx = c.x; cy = c.y }

unfoldable pub similarity_of : List Float → Similarity
unfolding mean_distance centroid_of
similarity_of s = let c = centroid_of s in scaled_to c (mean_distance c s)

unfoldable pub hartley_of : List Float → Option Similarity
unfolding degenerate similarity_of
hartley_of s = cond (degenerate s) None (Some (similarity_of s))

abbrev pub move_by : Similarity → Pt2 → Pt2
move_by t p = record { x = (p.x -₆₄ t.cx) *₆₄ t.scale; y = (p.y -₆₄ t.cy) *₆₄ t.scale }

abbrev pub move_xy : Similarity → Pt2 → List Float
move_xy t p = mapped_xy (move_by t) p

abbrev pub move_points : Similarity → List Float → List Float
move_points t s = map_points (move_by t) s

-- ---- what normalising refuses: a bad length; a destination with no room for the points; points with no spread
unfoldable pub normalize_refusal : List Float → ℕ → Result ⊤ Refusal
unfolding degenerate
normalize_refusal s room = first_refusal (length_checks (length s) room ++ ((Coincident when degenerate s) ∷ []))

-- the matrix (scale, 0, -scale cx; 0, scale, -scale cy; 0, 0, 1)
abbrev pub transform_of : Similarity → Transform
transform_of t = record { t00 = t.scale; t02 = neg t.scale *₆₄ t.cx; t12 = neg t.scale *₆₄ t.cy }

unfoldable pub normalize_reply : List Float → ℕ → Result Transform Refusal
unfolding normalize_refusal similarity_of
normalize_reply s room = elim (normalize_refusal s room) [ Ok _ ↦ Ok (transform_of (similarity_of s)) | Err r ↦ Err r ]

-- the moved points at the front, and the rest as it was; nothing is written on a refusal
unfoldable pub normalize_into : List Float → List Float → List Float
unfolding normalize_refusal similarity_of
normalize_into s dst = let w = move_points (similarity_of s) s in elim (normalize_refusal s (length dst)) [ Ok _ ↦ w ++ drop (length w) dst | Err _ ↦ dst ]
