-- `root::digits::isqrt_by_digits` meets its contract. Assumes nothing.
use Rattle.std.proofs.Common.{arith}
use Rattle.root.proofs.Steps.{next_base_4_digit}
use Rattle.root.proofs.digits.isqrt_by_digits.Goals as goal

pub loop-place-preserved : goal.loop-place-preserved
loop-place-preserved c =
    let l = c.loop-place in
    omega (arith, next_base_4_digit c.args.m l.place (omega arith))
