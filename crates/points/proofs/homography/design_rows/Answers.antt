-- `points::homography::design_rows` meets its contract: where nothing is refused, there is room for the rows, and they
-- are written. Assumes nothing.
use Rattle.std.proofs.Common.{◌≡◌, sym, ◌∙◌, ◌*◌, ◌/◌, arith, length, Ok}
use Rattle.points.specs.Linalg.{similarity_of}
use Rattle.points.specs.Walk.{sets_front}
use Rattle.points.specs.Rows.{design_rows, rows_refusal, rows_into}
use Rattle.points.specs.RowsLaws.{accepted_lists, rows_length}
use Rattle.points.proofs.homography.design_rows.Goals as goal

pub put_rows-requires : goal.put_rows-requires
put_rows-requires c =
    let a = c.args in
    let f = accepted_lists a.pairs.src.now a.pairs.dst.now (length a.a.now) (sym c.check.ensures ∙ c.in_ok-check.was) in
    (f.count, f.space)

pub returns-clause-written : goal.returns-clause-written
unfolding rows_into
returns-clause-written c =
    let a = c.args in
    let clear : rows_refusal a.pairs.src.now a.pairs.dst.now (length a.a.now) ≡ Ok tt = sym c.check.ensures ∙ c.in_ok-check.was in
    let f = accepted_lists a.pairs.src.now a.pairs.dst.now (length a.a.now) clear in
    let ts = similarity_of a.pairs.src.now in
    let td = similarity_of a.pairs.dst.now in
    let w = design_rows ts td a.pairs.src.now a.pairs.dst.now in
    let n : length w ≡ length a.pairs.src.now / 2 * 18 = rows_length ts td a.pairs.src.now a.pairs.dst.now f.count in
    rw (c.put_rows.ensures, c.normalizing-ts.ensures, c.normalizing-td.ensures, clear, rows_into) (sets_front a.a.now w (omega (arith, n, f.space)))
