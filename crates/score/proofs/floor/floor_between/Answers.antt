-- `score::floor::floor_between` meets its contract: the fold over the chunks is that over the seeds. Assumes nothing.
use Rattle.std.proofs.Common.{rules, tests, ap, ◌∙◌, ◌*◌, ◌-◌, ◌/◌, length, take, drop}
use Rattle.std.specs.List.{fold}
use Rattle.std.specs.Simd.{first_chunks}
use Rattle.std.proofs.lemmas.Iterator.{YieldsList-from_slice, YieldsList-from_map}
use Rattle.std.proofs.lemmas.Iterator.Consumers.{YieldsList-at, fold_from_yields_List}
use Rattle.std.specs.Float.Ieee.{of_bits, div}
use Rattle.float.specs.Literals.{infinity}
use Rattle.seeds.specs.Layout.{seed_at}
use Rattle.seeds.specs.Chunks.{seeds_in_chunks}
use Rattle.score.proofs.FloorFold.{lower, floor_by_chunks}
use Rattle.score.proofs.floor.floor_between.Goals as goal

pub returns : goal.returns
unfolding div of_bits
returns c =
    let a = c.args in
    let s = take (6 * a.to - 6 * a.from) (drop (6 * a.from) a.list.now) in
    let chunks = YieldsList-from_slice (first_chunks 6 (length s / 6) s) (c.iter.ensures.rest ∙ c.as_chunks.ensures.front) in
    fold_from_yields_List _ lower infinity c.fold.result c.fold.ensures.ran
    (YieldsList-from_map _ (λ six. seed_at six 0) (YieldsList-at c.map.ensures.source chunks) c.map.ensures.closure (λ x r q k. search (rules, tests)))
    (λ a x b q k. search (rules, tests))
    ∙ ap (fold lower infinity) (seeds_in_chunks (length s / 6) s)
    ∙ floor_by_chunks a.list.now a.from a.to c.requires.0 c.requires.1
