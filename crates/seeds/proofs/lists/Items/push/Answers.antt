-- `seeds::lists::Items::push` meets its contract: behind all kept entries there is none. Assumes nothing.
use Rattle.std.proofs.Common.{le_of_eq}
use Rattle.std.proofs.lemmas.List.{at_drop_all}
use Rattle.seeds.specs.Layout.{read_from}
use Rattle.seeds.specs.LayoutLaws.{read_length}
use Rattle.seeds.specs.Merge.{has_near}
use Rattle.seeds.proofs.lists.Items.push.Goals as goal

pub push_among-requires-clause-others_far : goal.push_among-requires-clause-others_far
unfolding has_near
push_among-requires-clause-others_far g c =
    let e = g.E.Item in
    let n = c.args.self.now.count in
    let l = c.args.self.now.numbers.now in
    at_drop_all (λ ks. has_near e.near ks c.args.item) (read_from e.first e.width n l) n (le_of_eq (read_length e.first e.width n l))
