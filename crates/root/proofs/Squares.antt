-- The root of a whole number's square is that number, where the format holds it. Assumes nothing.
use Rattle.std.specs.Prelude.{◌≡◌, refl}
use Rattle.std.proofs.Common.{sym, ap, ◌∙◌, subst, le_antisymm, le_of_suc-le-suc, le_of_eq, mul_assoc, mul_left_comm, one-mul, add-mul, mul-div_cancel, pow-add, pow_pos, shl_lt}
use Prim.Native.Nat.{ℕ, suc, ◌+◌, ◌-◌, ◌*◌, ◌/◌, ◌^◌, ◌≤◌, ◌<◌}
use native.Mathlib.Omega.{arith}
use Rattle.std.proofs.Math.Bool.{false}
use Rattle.std.specs.Float.{Format}
use Rattle.std.specs.Float.Ieee.{prec, emax, low, size, units}
use Rattle.std.specs.Float.Ieee.Digits.{size-le, back}
use Rattle.std.specs.Float.Ieee.Exact.{HasValue, units_val}
use Rattle.root.specs.Root.{isqrt, root_of}
use Rattle.root.specs.IntegerRoot.{square_lt, isqrt_ge, isqrt_lt}
use Rattle.root.specs.Compare.{compare_lt}

isqrt_square : (w : ℕ) → isqrt (w * w) ≡ w
isqrt_square w = le_antisymm (le_of_suc-le-suc (isqrt_lt (w * w) (suc w) (square_lt w (suc w) (omega arith)))) (isqrt_ge (w * w) w (le_of_eq refl))

-- w is q * 2 ^ j, with q of no more digits than the format keeps
module _ (f : Format) (w q j : ℕ) (small : q < 2 ^ prec f) (is : q * 2 ^ j ≡ w) where
  dropped_of_root : ℕ
  dropped_of_root = size w - prec f

  dropped_at_most_zeros : dropped_of_root ≤ j
  unfolding dropped_of_root
  dropped_at_most_zeros = let s : size w ≤ prec f + j = size-le w (prec f + j) (subst (λ (x : ℕ). x < 2 ^ (prec f + j)) is (shl_lt (prec f) j small)) in omega arith

  kept_digits_are_all : w / 2 ^ dropped_of_root * 2 ^ dropped_of_root ≡ w
  kept_digits_are_all =
      let r = q * 2 ^ (j - dropped_of_root) in
      let e : r * 2 ^ dropped_of_root ≡ w =
      mul_assoc q (2 ^ (j - dropped_of_root)) (2 ^ dropped_of_root) ∙ ap (λ (x : ℕ). q * x) (sym (pow-add 2 (j - dropped_of_root) dropped_of_root) ∙ ap (λ (x : ℕ). 2 ^ x) (back j dropped_of_root dropped_at_most_zeros)) ∙ is in
      ap (λ (x : ℕ). x / 2 ^ dropped_of_root * 2 ^ dropped_of_root) (sym e) ∙ ap (λ (x : ℕ). x * 2 ^ dropped_of_root) (mul-div_cancel r (pow_pos dropped_of_root)) ∙ e

  -- half a step above w lies beyond it
  square_below_middle : 4 * (w * w) < (2 * (w / 2 ^ dropped_of_root) + 1) * 2 ^ dropped_of_root * ((2 * (w / 2 ^ dropped_of_root) + 1) * 2 ^ dropped_of_root)
  square_below_middle =
      let r = w / 2 ^ dropped_of_root in
      let u = 2 ^ dropped_of_root in
      let p : 0 < u = pow_pos dropped_of_root in
      let e : (2 * r + 1) * u ≡ 2 * w + u = add-mul (2 * r) 1 u ∙ ap (λ (x : ℕ). x + 1 * u) (mul_assoc 2 r u ∙ ap (λ (x : ℕ). 2 * x) kept_digits_are_all) ∙ ap (λ (x : ℕ). 2 * w + x) (one-mul u) in
      let g : 2 * w * (2 * w) ≡ 4 * (w * w) = simp (mul_assoc, mul_left_comm) (omega arith) in
      rw (e, sym g) (square_lt (2 * w) (2 * w + u) (omega arith))

  pub root_of_square : w < 2 ^ (low f + suc (emax f)) → HasValue (root_of f (w * w)) false w (2 ^ low f)
  unfolding root_of dropped_of_root
  root_of_square h =
      rw (isqrt_square w, compare_lt (4 * (w * w)) ((2 * (w / 2 ^ dropped_of_root) + 1) * 2 ^ dropped_of_root * ((2 * (w / 2 ^ dropped_of_root) + 1) * 2 ^ dropped_of_root)) square_below_middle)
      (subst (λ (x : ℕ). HasValue (units f false (w / 2 ^ dropped_of_root) dropped_of_root) false x (2 ^ low f)) kept_digits_are_all
      (units_val f false (w / 2 ^ dropped_of_root) dropped_of_root (subst (λ (x : ℕ). x < 2 ^ (low f + suc (emax f))) (sym kept_digits_are_all) h)))
