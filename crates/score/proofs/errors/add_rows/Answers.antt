-- `score::errors::add_rows` meets its contract: the four numbers and the flag that the loop is given are the row at its place. Assumes nothing.
use Rattle.std.proofs.Common.{◌/◌, ◌<◌, length, take, [], ◌∙◌, arith, length-take, length-append, rules}
use Rattle.std.proofs.lemmas.Slice.Zip.{zip_turn}
use Rattle.std.proofs.lemmas.List.{get_or-take}
use Rattle.std.specs.Simd.{first_chunks}
use Rattle.score.proofs.Steps.{with_row_of_four_numbers}
use Rattle.score.proofs.errors.add_rows.Goals as goal

pub loop-x-preserved : goal.loop-x-preserved
loop-x-preserved c =
    let l = c.loop-x in
    let a = c.args in
    let ns = a.rows.numbers.now in
    let fs = a.rows.flags.now in
    let t = zip_turn (first_chunks 4 (length ns / 4) ns) (take (length ns / 4) fs) l.yielded c.into_iter-x-iterator.result l.x-iterator c.next.new.self c.next.result (search rules) (search rules) l.yielded_by (c.in-Some.field-0-0, c.in-Some.flag) c.in-Some.is c.next.ensures.steps in
    let below : length l.yielded < length ns / 4 = omega (arith, t.1, length-take (length ns / 4) fs) in
    rw length-append
    (c.add_row.ensures ∙ with_row_of_four_numbers l.sum a.total a.by.camera a.by.h ns fs (length l.yielded) c.in-Some.field-0-0.now c.in-Some.flag.now l.invariant below (t.2 []) (t.3 0 ∙ get_or-take (length ns / 4) fs (length l.yielded) 0 below))
