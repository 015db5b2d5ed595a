-- `points::homography::collinear` meets its contract: its tests are the definition's. Assumes nothing.
use Rattle.std.proofs.Common.{le-ltb, sym, ◌∙◌, length}
use Rattle.points.specs.Line.{along, collinear_of}
use Rattle.points.proofs.homography.collinear.Goals as goal

pub returns-in_default : goal.returns-in_default
unfolding along collinear_of
returns-in_default c =
    let s = c.args.points.now in
    simp (le-ltb (length s) 6 c.if-points-lt6.false, rw c.point_at-p0.ensures at (sym c.first_distinct.ensures ∙ c.in_default.is))

pub returns : goal.returns
unfolding along collinear_of
returns c =
    let s = c.args.points.now in
    simp (
      le-ltb (length s) 6 c.if-points-lt6.false,
      rw c.point_at-p0.ensures at (sym c.first_distinct.ensures ∙ c.in-Some.is),
      c.any_off_line.ensures,
      c.point_at-p0.ensures,
    )
