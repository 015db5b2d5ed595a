-- `seeds::lists::Items::push_in_bound` meets its contract: tilts within the bound are pushed, any other are dropped. Assumes nothing.
use Rattle.std.proofs.Common.{sym, ◌∙◌, rules}
use Rattle.seeds.specs.Merge.{keep, merged_into}
use Rattle.seeds.proofs.Steps.{merge_under_way_at_start}
use Rattle.seeds.proofs.lists.Items.push_in_bound.Goals as goal

pub returns-then-in_bound : goal.returns-then-in_bound
unfolding keep merged_into
returns-then-in_bound g c =
    let e = sym c.in_bound.ensures ∙ c.if-in_bound.true in
    simp (e, ← c.with_tilts.ensures) c.push.ensures

pub returns-else-in_bound : goal.returns-else-in_bound
unfolding keep
returns-else-in_bound g c =
    let a = c.args in
    let e = sym c.in_bound.ensures ∙ c.if-in_bound.false in
    record { same_reference = search rules; same_length = search rules; pushed = simp e (merge_under_way_at_start g.met.E.Item.lies g.E.Item.near a.self.now.numbers.now a.self.now.count (search rules)).leaves }
