-- `journal::writing::put_decimal` meets its contract. Assumes nothing.
use Rattle.std.proofs.Common.{rules}
use Rattle.journal.specs.Line.{decimal}
use Rattle.journal.proofs.writing.put_decimal.Goals as goal

pub returns : goal.returns
unfolding decimal
returns c =
    let w = c.decimal_width-w in
    (search rules, rw (← w.ensures.0) c.put_digits.ensures, search rules)
