-- `journal::reading::number_at` meets its contract: the number so far is that of the bytes passed. Assumes nothing.
use Rattle.std.proofs.Common.{ℕ, ◌≡◌, refl, ap, ◌∙◌, arith, rules}
use Rattle.journal.specs.Reading.{number_at}
use Rattle.journal.proofs.DigitLaws.{digit_of_lt_16}
use Rattle.journal.proofs.Bytes.{number_and_digit_below_2_64, number_at_one_more}
use Rattle.journal.proofs.reading.number_at.Goals as goal

pub loop-i-init : goal.loop-i-init
unfolding number_at
loop-i-init c = refl

pub overflow_mul-n : goal.overflow_mul-n
overflow_mul-n c = let a = c.args in let l = c.loop-i in record { fits = omega (arith, number_and_digit_below_2_64 a.base l.i a.w a.s.now l.n 0 (search rules) (search rules) (search rules) l.invariant (search rules)) }

pub overflow_add-n : goal.overflow_add-n
overflow_add-n c = let a = c.args in let l = c.loop-i in record { fits = number_and_digit_below_2_64 a.base l.i a.w a.s.now l.n c.digit_of.result (search rules) (search rules) (search rules) l.invariant (rw c.digit_of.ensures (digit_of_lt_16 c.byte_at.result)) }

pub loop-i-preserved : goal.loop-i-preserved
loop-i-preserved c = let a = c.args in let l = c.loop-i in number_at_one_more a.base l.i a.s.now l.n c.digit_of.result c.byte_at.result l.invariant c.byte_at.ensures c.digit_of.ensures

pub returns : goal.returns
returns c = let a = c.args in let l = c.loop-i in let e : l.i ≡ a.w = search rules in l.invariant ∙ ap (λ (k : ℕ). number_at a.base k a.s.now) e
