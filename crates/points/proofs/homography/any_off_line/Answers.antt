-- `points::homography::any_off_line` meets its contract: the search among the pairs is that among the points.
-- Assumes nothing.
use Rattle.std.proofs.Common.{rules, tests, ◌∙◌}
use Rattle.std.proofs.lemmas.Iterator.{YieldsList-from_slice}
use Rattle.std.proofs.lemmas.Iterator.Search.{any_from_yields_List}
use Rattle.camera.specs.Math.{point_at}
use Rattle.points.specs.Chunks.{pairs_of, pairs_any, any_is_find_point}
use Rattle.points.specs.Line.{off_line}
use Rattle.points.proofs.homography.any_off_line.Goals as goal

pub returns : goal.returns
returns c =
    let a = c.args in
    let s = a.points.now in
    let test = off_line a.p0 a.p1 in
    let each = YieldsList-from_slice (pairs_of s) (c.iter.ensures.rest ∙ c.as_chunks.ensures.front) in
    any_from_yields_List (λ v. test (point_at v 0)) _ _ c.any.result c.any.ensures.ran each (λ x b q k. search (rules, tests)) ∙ pairs_any test s ∙ any_is_find_point test s
