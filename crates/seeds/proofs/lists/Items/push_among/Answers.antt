-- `seeds::lists::Items::push_among` meets its contract: an entry with a near one among the kept is dropped, any other is stored behind them. Assumes nothing.
use Rattle.std.proofs.Common.{sym, ap, ◌∙◌, is_some, rules, arith, mul-le-mul_left}
use Rattle.seeds.proofs.Steps.{push_drops, push_stores}
use Rattle.seeds.proofs.Among.{found_among_first_kept}
use Rattle.seeds.proofs.lists.Items.push_among.Goals as goal

pub find_near-requires : goal.find_near-requires
find_near-requires g c = omega (arith, mul-le-mul_left g.E.Item.width c.requires.kept, c.requires.room)

pub returns-then-is_some : goal.returns-then-is_some
returns-then-is_some g c =
    let a = c.args in
    let e = g.E.Item in
    let l = a.self.now.numbers.now in
    let n = a.self.now.count in
    let found = found_among_first_kept e.near e.first e.width a.among n l a.item c.requires.kept c.requires.others_far ∙ ap is_some (sym c.find_near.ensures) ∙ sym c.is_some.ensures ∙ c.if-is_some.true in
    record { same_reference = search rules; same_length = search rules; pushed = push_drops g.met.E.Item.lies e.near l n a.item (search rules) found }

pub returns : goal.returns
returns g c =
    let a = c.args in
    let e = g.E.Item in
    let l = a.self.now.numbers.now in
    let n = a.self.now.count in
    let found = found_among_first_kept e.near e.first e.width a.among n l a.item c.requires.kept c.requires.others_far ∙ ap is_some (sym c.find_near.ensures) ∙ sym c.is_some.ensures ∙ c.if-is_some.false in
    record { same_reference = search rules; same_length = search rules; pushed = push_stores g.met.E.Item.lies e.near l c.put.new.list n a.item (search rules) found c.put.ensures }
