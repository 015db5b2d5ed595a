-- `points::linalg::map_points`: the loop's invariant: writing the points that are left, from this index on,
-- gives what writing all of them gives.
use Rattle.std.proofs.Common.{◌≡◌, ◌*◌, drop}
use lib.Seq.{sets}
use Rattle.camera.specs.declared.math.Pt2.{Pt2}
use Rattle.points.specs.Points.{map_points}
use Rattle.points.proofs.linalg.map_points.Given as goal

abbrev pub invariant-loop-i : goal.invariant-loop-i
invariant-loop-i g l =
    (f : Pt2 → Pt2)
    → ((p q : Pt2) → goal.F-post g l.map p q → q ≡ f p)
    → sets l.to (2 * l.i) (map_points f (drop (2 * l.i) l.points)) ≡ sets l.initial.to 0 (map_points f l.points)
