-- `trig::horner` meets its contract: each turn takes one more coefficient, two below the last. Assumes nothing.
use Rattle.std.proofs.Common.{◌≡◌, suc, ◌+◌, ◌-◌, ◌*◌, arith}
use Rattle.trig.specs.Series.{horner_of}
use Rattle.trig.proofs.horner.Goals as goal

pub loop-j-preserved : goal.loop-j-preserved
unfolding horner_of
loop-j-preserved c =
    let F = c.args.first in
    let j = c.loop-j.j in
    let e : 7 - (j - 1) ≡ suc (7 - j) = omega arith in
    let f : suc (suc (F + 2 * (j - 1))) ≡ F + 2 * j = omega arith in
    rw (e, f, c.coefficient.ensures, c.loop-j.invariant)
