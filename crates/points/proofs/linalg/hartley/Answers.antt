-- `points::linalg::hartley` meets its contract: its tests are the definition's. Assumes nothing.
use Rattle.std.proofs.Common.{sym, ◌∙◌}
use Rattle.points.specs.Linalg.{degenerate, similarity_of, hartley_of}
use Rattle.points.proofs.linalg.hartley.Goals as goal

pub returns-then-is_empty : goal.returns-then-is_empty
unfolding degenerate hartley_of
returns-then-is_empty c = simp (sym c.is_empty.ensures ∙ c.if-is_empty.true)

pub returns-then-mean_dist : goal.returns-then-mean_dist
unfolding degenerate hartley_of
returns-then-mean_dist c = simp (sym c.is_empty.ensures ∙ c.if-is_empty.false, rw (c.mean_distance-mean_dist.ensures, c.centroid-c.ensures) at c.if-mean_dist.true)

pub returns : goal.returns
unfolding degenerate similarity_of hartley_of
returns c =
    simp (
      c.scaled_to.ensures,
      c.mean_distance-mean_dist.ensures,
      c.centroid-c.ensures,
      sym c.is_empty.ensures ∙ c.if-is_empty.false,
      rw (c.mean_distance-mean_dist.ensures, c.centroid-c.ensures) at c.if-mean_dist.false,
    )
