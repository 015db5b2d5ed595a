-- `root::digits::isqrt_by_digits`: the loop's invariant: the root of m without the digits that are still to come.
use Rattle.std.proofs.Common.{◌≡◌, ◌+◌, ◌*◌, ◌/◌, ◌^◌, ◌≤◌}
use Rattle.root.proofs.digits.isqrt_by_digits.Given as goal

abbrev pub invariant-loop-place : goal.invariant-loop-place
invariant-loop-place l = (l.p.0 * l.p.0 + l.p.1.0 ≡ l.m / 2 ^ (2 * l.place)) × (l.p.1.0 ≤ 2 * l.p.0)
