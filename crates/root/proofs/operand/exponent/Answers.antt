-- `root::operand::exponent` meets its contract. Assumes nothing.
use Rattle.std.proofs.Common.{◌≡◌, ℕ, ◌+◌, ◌-◌, ◌^◌, ℤ, pos, ◌-ℤ◌, ap, ◌∙◌, arith, to_z-of_z, w64, SFits, to_z}
use lib.IntN.{sub_ℕ}
use mir.Facts.{to_z_pos}
use Rattle.root.specs.Exponent.{shifted}
use Rattle.root.proofs.Exponents.{shifted_difference, mag_difference}
use Rattle.root.proofs.operand.exponent.Goals as goal

place_minus_1127 : (c : goal.Start) → to_z w64 c.args.place -ℤ pos 1127 ≡ sub_ℕ c.args.place 1127
place_minus_1127 c = ap (λ (z : ℤ). z -ℤ pos 1127) (to_z_pos w64 {n = c.args.place} (omega arith))

difference_fits : (c : goal.Start) → SFits w64 (to_z w64 c.args.place -ℤ pos 1127)
difference_fits c = rw (place_minus_1127 c) (record { sfits = mag_difference c.args.place 1127 (2 ^ 63) (omega arith) (omega arith) })

pub returns : goal.returns
returns c =
    ap shifted (to_z-of_z (difference_fits c) ∙ place_minus_1127 c) ∙ shifted_difference c.args.place 1127 (omega arith) ∙ rest c.args.place
  where
    rest : (n : ℕ) → n + 2148 - 1127 ≡ n + 1021
    rest n = omega arith
