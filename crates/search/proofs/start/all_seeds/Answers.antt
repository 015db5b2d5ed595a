-- `search::start::all_seeds` meets its contract: the chunks are the decomposition's seeds. Assumes nothing.
use Rattle.std.proofs.Common.{rules, tests, ap, ◌∙◌, ◌/◌, length}
use Rattle.std.specs.List.{list_all}
use denote.Param.Members.{step_stays_lem, step_gives}
use Rattle.std.specs.Simd.{first_chunks}
use Rattle.std.proofs.lemmas.Iterator.{YieldsList-from_slice, YieldsList-from_map}
use Rattle.std.proofs.lemmas.Iterator.Consumers.{YieldsList-at}
use Rattle.std.proofs.lemmas.Iterator.Search.{all_from_yields_List}
use Rattle.seeds.specs.Layout.{seed_at}
use Rattle.seeds.specs.Chunks.{seeds_in_chunks}
use Rattle.search.proofs.Seeds.{list_all_every}
use Rattle.search.proofs.start.all_seeds.Goals as goal

pub returns : goal.returns
returns g c f is =
    let s = c.args.decomposition.now in
    let chunks = YieldsList-from_slice (first_chunks 6 (length s / 6) s) (c.iter.ensures.rest ∙ c.as_chunks.ensures.front) in
    all_from_yields_List f _ _ _ c.all.ensures.ran
    (YieldsList-from_map _ (λ six. seed_at six 0) (YieldsList-at c.map.ensures.source chunks) c.map.ensures.closure (λ x s q k. search (rules, tests)))
    (λ s b q k. (search step_stays_lem, is s b (step_gives _ _ _ _ _ (search rules) k)))
    ∙ ap (list_all f) (seeds_in_chunks (length s / 6) s)
    ∙ list_all_every f _
