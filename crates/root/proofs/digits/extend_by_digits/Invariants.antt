-- `root::digits::extend_by_digits`: the loop's invariant.
use Rattle.std.proofs.Common.{◌≡◌, ◌+◌, ◌*◌, ◌^◌}
use Rattle.root.proofs.digits.extend_by_digits.Given as goal

abbrev pub invariant-loop : goal.invariant-loop
invariant-loop l = l.p.root * l.p.root + l.p.remainder ≡ (l.initial.p.root * l.initial.p.root + l.initial.p.remainder) * 4 ^ l.counter
