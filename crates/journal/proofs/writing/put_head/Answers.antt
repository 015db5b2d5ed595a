-- `journal::writing::put_head` meets its contract: three stores, one behind the other. Assumes nothing.
use Rattle.journal.proofs.Parts.{head_stored}
use Rattle.std.proofs.Common.{rules}
use Rattle.journal.proofs.writing.put_head.Goals as goal

pub returns : goal.returns
returns c =
    let a = c.args in
    (search rules, head_stored a.number a.round c.put_decimal-n.result _ _ _ _ (search rules) c.put_decimal-n.ensures.1 c.put_byte.ensures c.put_decimal.ensures.1, search rules)
