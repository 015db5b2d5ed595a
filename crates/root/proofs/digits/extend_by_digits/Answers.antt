-- `root::digits::extend_by_digits` meets its contract. Assumes nothing.
use Rattle.std.proofs.Common.{◌+◌, ◌*◌, arith}
use Rattle.root.proofs.Steps.{extended_root_below_two_pow_52, four_times, square_of_27_digits}
use Rattle.root.proofs.digits.extend_by_digits.Goals as goal

pub next_digit-p-requires : goal.next_digit-p-requires
next_digit-p-requires c =
    let l = c.loop in
    let q = c.args.q in
    let h = extended_root_below_two_pow_52 l.p.root l.p.remainder (q.root * q.root + q.remainder) l.counter l.invariant (omega (arith, square_of_27_digits q.root c.requires)) (omega arith) in
    omega (arith, h)

pub loop-preserved : goal.loop-preserved
loop-preserved c =
    let l = c.loop in
    let q = c.args.q in
    omega (arith, four_times (q.root * q.root + q.remainder) l.counter)
