-- `score::blocks::add_dense` meets its contract. Assumes nothing.
use Rattle.std.proofs.Common.{sym, ap, ◌∙◌, length}
use Rattle.float.specs.Float.{is_finite}
use Rattle.score.specs.declared.errors.ErrorSum.{ErrorSum}
use Rattle.score.proofs.Steps.{add_errors_is_add_rows}
use Rattle.score.proofs.blocks.add_dense.Goals as goal

pub returns : goal.returns
returns c =
    let a = c.args in
    let b = a.block.rows in
    let e = c.add_errors-sum.ensures in
    e
    ∙ add_errors_is_add_rows a.total a.by.camera a.by.h b.numbers.now b.flags.now c.block_errors.new.errors (length b.flags.now) c.block_errors.ensures
    (sym (ap (λ (s : ErrorSum). is_finite s.sum) e) ∙ sym c.is_finite.ensures ∙ c.if-not-is_finite.false)
