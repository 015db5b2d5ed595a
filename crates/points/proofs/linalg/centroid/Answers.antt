-- `points::linalg::centroid` meets its contract: the fold over the pairs is that over the points.
-- Assumes nothing.
use Rattle.std.proofs.Common.{rules, tests, ◌∙◌}
use Rattle.camera.specs.declared.math.Pt2.{Pt2}
use Rattle.points.specs.Linalg.{add_point, centroid_of}
use Rattle.points.specs.Chunks.{fold_by_pairs}
use Rattle.points.proofs.linalg.centroid.Goals as goal

pub returns : goal.returns
unfolding centroid_of
returns c =
    let zero = c.default.ensures in
    let a : Pt2 = record { x = c.default.result.x; y = c.default.result.y } in
    rw (
      fold_by_pairs _ add_point a c.fold-sum.result c.args.points.now (c.iter.ensures.rest ∙ c.as_chunks.ensures.front) c.fold-sum.ensures.ran (λ a x b q k. search (rules, tests)),
      zero.0,
      zero.1,
      c.nearest_usize_to_f64-n.ensures,
    )
