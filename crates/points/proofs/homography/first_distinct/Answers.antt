-- `points::homography::first_distinct` meets its contract: the search among the pairs is that among the points.
-- Assumes nothing.
use Rattle.std.proofs.Common.{rules, tests, sym, ap, ◌∙◌, ◌-◌, arith, length, drop, length-drop}
use lib.Seq.{take_all}
use Rattle.std.proofs.lemmas.Iterator.{YieldsList-from_slice, YieldsList-from_map}
use Rattle.std.proofs.lemmas.Iterator.Consumers.{YieldsList-at}
use Rattle.std.proofs.lemmas.Iterator.Adapters.{option_map_id}
use Rattle.std.specs.List.{find}
use Rattle.std.proofs.lemmas.Iterator.Search.{find_from_yields_List}
use Rattle.camera.specs.Math.{point_at}
use Rattle.points.specs.Chunks.{pairs_of, pairs_are_points, find_is_find_point}
use Rattle.points.specs.Line.{far_from}
use Rattle.points.proofs.homography.first_distinct.Goals as goal

pub returns : goal.returns
returns c =
    let l = c.args.points.now in
    let s = drop 2 l in
    let test = far_from c.args.p0 in
    let rest = ap pairs_of (take_all (length l - 2) s (omega (arith, length-drop 2 l))) in
    let each = YieldsList-from_slice (pairs_of s) (c.iter.ensures.rest ∙ c.as_chunks.ensures.front ∙ rest) in
    let found =
    find_from_yields_List test _ _ c.find.result c.find.ensures.ran
    (YieldsList-from_map _ (λ v. point_at v 0) (YieldsList-at c.map.ensures.source each) c.map.ensures.closure (λ x r q k. search (rules, tests)))
    (λ x b q k. search (rules, tests))
    in
    sym (option_map_id c.find.result) ∙ found ∙ ap (find test) (pairs_are_points s) ∙ find_is_find_point test s
