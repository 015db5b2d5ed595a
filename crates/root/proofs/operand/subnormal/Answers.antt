-- `root::operand::subnormal` meets its contract. Assumes nothing.
use Rattle.std.proofs.Common.{◌≡◌, ℕ, ◌+◌, ◌-◌, ◌*◌, ◌%◌, ◌^◌, ◌≤◌, ap, ◌∙◌, arith, w64, to_z, of_z}
use Rattle.std.specs.Float.{binary64}
use lib.Count.{count_leading_zeros}
use Rattle.root.specs.Root.{root_of}
use Rattle.root.specs.Exponent.{shifted}
use Rattle.root.proofs.Exponents.{shifted_of_read_back}
use Rattle.root.proofs.Patterns.{root_moved, leading_zeros_in_range, moving_loses_no_digit, moved_lo, moved_hi}
use Rattle.root.proofs.operand.subnormal.Goals as goal

-- the leading digit
leading_zeros_of_subnormal : (c : goal.Start) → (12 ≤ count_leading_zeros 64 c.args.b) × (count_leading_zeros 64 c.args.b ≤ 63)
leading_zeros_of_subnormal c = leading_zeros_in_range c.args.b c.requires.0 c.requires.1

pub overflow_sub-z : goal.overflow_sub-z
overflow_sub-z c = omega (arith, leading_zeros_of_subnormal c)

pub with_even_exponent-requires : goal.with_even_exponent-requires
with_even_exponent-requires c =
    let b = c.args.b in
    rw (shifted_of_read_back c.exponent.result _ c.exponent.type_inv c.exponent.ensures, moving_loses_no_digit b c.requires.0 c.requires.1)
    (moved_lo b c.requires.0 c.requires.1, moved_hi b c.requires.0 c.requires.1, omega (arith, leading_zeros_of_subnormal c.before), omega (arith, leading_zeros_of_subnormal c.before))

pub returns : goal.returns
returns c =
    let b = c.args.b in
    let w = c.with_even_exponent in
    let r = c.exponent in
    let same : shifted (to_z w64 (of_z w64 r.result)) ≡ 1074 - (count_leading_zeros 64 b - 11) = shifted_of_read_back r.result _ r.type_inv (r.ensures ∙ place (count_leading_zeros 64 b - 11) (omega (arith, leading_zeros_of_subnormal c.before.before))) in
    (w.ensures.0, ap (root_of binary64) (w.ensures.1 ∙ ap (λ (g : ℕ). b * 2 ^ (count_leading_zeros 64 b - 11) % 2 ^ 64 * 2 ^ g) same) ∙ root_moved b c.requires.0 c.requires.1)
  where
    place : (z : ℕ) → z ≤ 53 → 53 - z + 1021 ≡ 1074 - z
    place z h = omega arith
