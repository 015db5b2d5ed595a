-- `root::operand::with_even_exponent` meets its contract. Assumes nothing.
use Rattle.std.proofs.Common.{◌≡◌, ap, ◌∙◌, arith, to_z-of_z}
use Rattle.root.specs.Exponent.{shifted}
use Rattle.root.proofs.Exponents.{shift_exact, shift_lo, shift_hi, halved_exponent_keeps_value}
use Rattle.root.proofs.operand.with_even_exponent.Goals as goal

pub returns : goal.returns
returns c =
    let m = c.args.m in
    let e = c.args.e in
    let g = shifted e in
    let same : c.natural_exponent-g.result ≡ g = c.natural_exponent-g.ensures ∙ ap shifted (to_z-of_z c.ranges.e) in
    rw (same, shift_exact m g (omega arith) (omega arith)) (
      record { least = shift_lo m g (omega arith) (omega arith); most = shift_hi m g (omega arith) (omega arith); half_least = omega arith; half_most = omega arith },
      halved_exponent_keeps_value m g (omega arith) (omega arith),
    )
