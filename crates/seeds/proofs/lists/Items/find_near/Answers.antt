-- `seeds::lists::Items::find_near` meets its contract: of the places from the last back, the first whose entry is near is the newest near one's. Assumes nothing.
use Rattle.std.proofs.Common.{rules, tests, sym, ap, ◌∙◌, Bool, ℕ, ◌*◌, drop, take_all}
use Rattle.std.specs.List.{find}
use Rattle.std.proofs.lemmas.Iterator.Adapters.{option_map_id}
use Rattle.std.proofs.lemmas.Iterator.Search.{find_from_yields_List}
use Rattle.seeds.specs.Layout.{read_from}
use Rattle.seeds.specs.LayoutLaws.{read_length, read_take}
use Rattle.seeds.specs.Merge.{newest_near}
use Rattle.seeds.proofs.Search.{indices_back, indices_yielded, find_back_is_newest_near}
use Rattle.seeds.proofs.lists.Items.find_near.Goals as goal

pub returns : goal.returns
returns g c =
    let e = g.E.Item in
    let a = c.args in
    let l = a.self.now.numbers.now in
    let n = a.among in
    let ks = read_from e.first e.width n l in
    let at : ℕ → g.row.E.Denot = λ i. e.first (drop (e.width * i) l) in
    let test : ℕ → Bool = λ i. e.near (at i) a.item in
    let found = find_from_yields_List test _ _ c.find.result c.find.ensures.ran (indices_yielded (ap (λ r. r.start) c.rev.ensures.source)) (λ x b q k. search (rules, tests)) in
    sym (option_map_id c.find.result) ∙ found
    ∙ ap (λ m. find test (indices_back m)) (ap (λ r. r.end) c.rev.ensures.source)
    ∙ find_back_is_newest_near e.near ks at a.item (λ i h. read_take e.first e.width n i l (rw read_length at h)) n (rw read_length (search rules))
    ∙ ap (λ xs. newest_near e.near 0 xs a.item) (take_all n ks (rw read_length (search rules)))
