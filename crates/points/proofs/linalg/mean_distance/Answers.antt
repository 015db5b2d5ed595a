-- `points::linalg::mean_distance` meets its contract: the fold over the pairs is that over the points.
-- Assumes nothing.
use Rattle.std.proofs.Common.{rules, tests, ◌∙◌}
use Rattle.float.specs.Literals.{plus_zero}
use Rattle.points.specs.Linalg.{add_distance, mean_distance}
use Rattle.points.specs.Chunks.{fold_by_pairs}
use Rattle.points.proofs.linalg.mean_distance.Goals as goal

pub returns : goal.returns
unfolding mean_distance
returns c =
    rw (
      fold_by_pairs _ (add_distance c.args.c) plus_zero c.fold-sum.result c.args.points.now (c.iter.ensures.rest ∙ c.as_chunks.ensures.front) c.fold-sum.ensures.ran (λ a x b q k. search (rules, tests)),
      c.nearest_usize_to_f64-n.ensures,
    )
