-- `root::operand::normal` meets its contract. Assumes nothing.
use Rattle.std.proofs.Common.{◌≡◌, ℕ, ◌+◌, ◌*◌, ◌/◌, ◌%◌, ◌^◌, sym, ap, ◌∙◌, arith, w64, to_z, of_z}
use Rattle.std.specs.Float.{binary64}
use Rattle.root.specs.Root.{root_of}
use Rattle.root.specs.Exponent.{shifted}
use Rattle.root.proofs.Exponents.{shifted_of_read_back}
use Rattle.root.proofs.Patterns.{root_of_normal_pattern}
use Rattle.root.proofs.operand.normal.Goals as goal

pub returns : goal.returns
returns c =
    let b = c.args.b in
    let w = c.with_even_exponent in
    let r = c.exponent in
    let same : shifted (to_z w64 (of_z w64 r.result)) ≡ b / 2 ^ 52 + 1073 = shifted_of_read_back r.result _ r.type_inv (r.ensures ∙ place (b / 2 ^ 52)) in
    (w.ensures.0, ap (root_of binary64) (w.ensures.1 ∙ ap (λ (g : ℕ). (b % 2 ^ 52 + 2 ^ 52) * 2 ^ g) same) ∙ sym (root_of_normal_pattern b c.requires.0 c.requires.1))
  where
    place : (f : ℕ) → f + 52 + 1021 ≡ f + 1073
    place f = omega arith
