-- `points::centre::extent_of` meets its contract: the fold over the pairs is that over the points. Assumes nothing.
use Rattle.std.proofs.Common.{rules, tests, ◌∙◌}
use Rattle.std.specs.Float.Ieee.{of_bits, neg, div}
use Rattle.float.specs.Literals.{infinity}
use Rattle.points.specs.Chunks.{fold_by_pairs}
use Rattle.points.specs.Centre.{widen, extent_of}
use Rattle.points.specs.declared.centre.Extent.{Extent}
use Rattle.points.proofs.centre.extent_of.Goals as goal

pub returns : goal.returns
unfolding extent_of neg div of_bits
returns c =
    let e : Extent = record { min_x = infinity; min_y = infinity; max_x = neg infinity; max_y = neg infinity } in
    fold_by_pairs _ widen e c.fold.result c.args.pixels.now (c.iter.ensures.rest ∙ c.as_chunks.ensures.front) c.fold.ensures.ran (λ a x b q k. search (rules, tests))
