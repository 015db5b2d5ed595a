-- The loop over the powers: each way out of a turn, and out of the loop, is the definition's. Assumes nothing.
use Rattle.std.proofs.Common.{◌≡◌, ℕ, suc, ◌+◌, ◌-◌, ◌*◌, ◌%◌, ◌^◌, ◌<◌, ◌≤◌, true, false, pos, sym, ◌∙◌, arith, one-mul, pow_pos, pow_mono, Ok, Err}
use Rattle.std.proofs.Math.Nat.{mod-eq_of_lt}
use Rattle.std.specs.Float.{binary64}
use Rattle.std.specs.Float.Ieee.{of_int}
use mathlib.Core.Option.{none}
use Rattle.common.specs.declared.Refusal.TheVariants.{NoSharedPower}
use Rattle.camera.specs.declared.intrinsics.FxFyCxCy.{FxFyCxCy}
use Rattle.zhang.specs.declared.Conic.{Conic}
use Rattle.zhang.specs.Plate.{shared_unit, unit_from, conic_with, plate_of}
use Rattle.zhang.proofs.Lowest.{unit_found_here, unit_looked_for_further, double_of_power}
use Rattle.zhang.proofs.Given.{plate_of_lowest_unit, no_plate_without_unit}

-- a turn at the power j, of which u is the value
module _ (j : ℕ) (below : j < 9) where
  power_at_most_256 : 2 ^ j ≤ 256
  power_at_most_256 = let l : j ≤ 8 = omega arith in pow_mono l

  pub shift_is_power : 1 * 2 ^ j % 2 ^ 64 ≡ 2 ^ j
  shift_is_power = rw one-mul (mod-eq_of_lt (omega (arith, power_at_most_256)))

  pub power_in_range : (u : ℕ) → u ≡ 2 ^ j → (1 ≤ u) × (u ≤ 256)
  power_in_range u value = rw value (pow_pos j, power_at_most_256)

  module _ (f : FxFyCxCy) (rest : unit_from (9 - j) (2 ^ j) f ≡ unit_from 9 1 f) (u : ℕ) (value : u ≡ 2 ^ j) where
    search_left_at_power : unit_from (suc (8 - j)) u f ≡ unit_from 9 1 f
    search_left_at_power = let e : 9 - j ≡ suc (8 - j) = omega arith in rw value (rw e at rest)

    pub turn_stops_with_plate : shared_unit u f ≡ true → (b : Conic) → b ≡ conic_with (of_int binary64 (pos u)) f → Ok b ≡ plate_of f
    turn_stops_with_plate t b e = rw e (sym (plate_of_lowest_unit f u (sym search_left_at_power ∙ unit_found_here (8 - j) u f t)))

    pub turn_goes_on_with_double : shared_unit u f ≡ false → unit_from (9 - (j + 1)) (2 ^ (j + 1)) f ≡ unit_from 9 1 f
    turn_goes_on_with_double t =
        let e : 9 - (j + 1) ≡ 8 - j = omega arith in
        let d : u * 2 ≡ 2 ^ (j + 1) = rw value (double_of_power j) in
        rw (e, ← d) (sym (unit_looked_for_further (8 - j) u f t) ∙ search_left_at_power)

pub loop_ends_without_plate : (j : ℕ) (f : FxFyCxCy) → 9 ≤ j → unit_from (9 - j) (2 ^ j) f ≡ unit_from 9 1 f → Err NoSharedPower ≡ plate_of f
unfolding unit_from
loop_ends_without_plate j f h rest =
    let e : 9 - j ≡ 0 = omega arith in
    let g : none ≡ unit_from 9 1 f = rw e at rest in
    sym (no_plate_without_unit f (sym g))
