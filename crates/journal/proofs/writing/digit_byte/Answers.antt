-- `journal::writing::digit_byte` meets its contract: antt computes the sixteen values of the code and of the definition. Assumes nothing.
use Rattle.std.proofs.Common.{ℕ, ◌+◌, ◌*◌, ◌/◌, sym, ◌∙◌, rules}
use Rattle.common.specs.Table.{table_at}
use Rattle.journal.specs.Line.{digit_byte}
use Rattle.journal.proofs.writing.digit_byte.Goals as goal

pub returns : goal.returns
unfolding digit_byte
returns c =
    let d = c.args.d in
    sym (table_at (λ (e : ℕ). 48 + e + 39 * ((e + 6) / 16)) 16 d 0 (search rules)) ∙ table_at digit_byte 16 d 0 (search rules)
