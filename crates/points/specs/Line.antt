-- The line test. Definitions only.
use Rattle.std.specs.Prelude.{◌%◌, Bool, true, false, not, ◌&&◌, cond, List, eqb, ltb, length, drop, Float, Option, Some, None, Result, Ok, Err}
use Rattle.std.specs.Float.Ieee.{lt, le}
use Rattle.common.specs.declared.Refusal.{Refusal}
use Rattle.common.specs.declared.Refusal.TheVariants.{BadPoints}
use Rattle.float.specs.Binary64.{◌-₆₄◌, ◌*₆₄◌}
use Rattle.float.specs.Float.{abs_of}
use Rattle.float.specs.Literals.{ten_to_minus6, ten_to_minus9}
use Rattle.camera.specs.declared.math.Pt2.{Pt2}
use Rattle.points.specs.Points.{find_point}
use Rattle.camera.specs.Math.{point_at, distance_of}

-- 1e-9: points that are no farther apart count as the same
abbrev pub least_distance : Float
least_distance = ten_to_minus9

-- 1e-6
abbrev pub least_cross : Float
least_cross = ten_to_minus6

abbrev pub far_from : Pt2 → Pt2 → Bool
far_from p0 p = lt least_distance (distance_of p p0)

-- the first point after the first one that is farther than 1e-9 from p0
abbrev pub first_distinct : Pt2 → List Float → Option Pt2
first_distinct p0 s = find_point (far_from p0) Some None (drop 2 s)

abbrev pub cross_of : Pt2 → Pt2 → Pt2 → Float
cross_of p0 p1 p2 = (p1.x -₆₄ p0.x) *₆₄ (p2.y -₆₄ p0.y) -₆₄ (p1.y -₆₄ p0.y) *₆₄ (p2.x -₆₄ p0.x)

-- neither in the place of p0 nor near the line from p0 to p1
unfoldable pub off_line : Pt2 → Pt2 → Pt2 → Bool
off_line p0 p1 p2 = not (le (distance_of p2 p0) least_distance) && lt least_cross (abs_of (cross_of p0 p1 p2))

abbrev pub any_off : Pt2 → Pt2 → List Float → Bool
any_off p0 p1 s = find_point (off_line p0 p1) (λ p. true) false s

-- The line goes through p0, the first point, and another one. Where there is no other, all points are in one place, and
-- collinear.
unfoldable pub along : Pt2 → Option Pt2 → List Float → Bool
unfolding find_point off_line
along p0 None s = true
along p0 (Some p1) s = not (any_off p0 p1 s)

-- fewer than three points aren't collinear
unfoldable pub collinear_of : List Float → Bool
unfolding along find_point
collinear_of s = cond (ltb (length s) 6) false (along (point_at s 0) (first_distinct (point_at s 0) s) s)

-- a list of odd length is refused
unfoldable pub line_reply : List Float → Result Bool Refusal
unfolding collinear_of
line_reply s = cond (eqb (length s % 2) 0) (Ok (collinear_of s)) (Err BadPoints)
