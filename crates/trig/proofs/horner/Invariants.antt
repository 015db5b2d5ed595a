-- `trig::horner`: the loop's invariant: the sum is that of the coefficients from j's on.
use Rattle.std.proofs.Common.{◌≡◌, ◌+◌, ◌-◌, ◌*◌}
use Rattle.trig.specs.Series.{horner_of}
use Rattle.trig.proofs.horner.Given as goal

abbrev pub invariant-loop-j : goal.invariant-loop-j
invariant-loop-j l = l.sum ≡ horner_of l.q (7 - l.j) (l.first + 2 * l.j)
