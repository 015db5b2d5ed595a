-- The search for the lowest unit: the four numbers share the unit that it finds, and where it finds none they share
-- none. Assumes nothing.
use Rattle.std.proofs.Common.{◌≡◌, ℕ, zero, suc, ◌+◌, ◌*◌, ◌^◌, ◌<◌, ◌≤◌, true, false, eqb, sym, ap, ◌∙◌, true≢false, add-one, arith, pow-add, eqb-true}
use Rattle.std.proofs.Math.Option.{none, some, none-ne-some, some-injective}
use borrow.Author.Tests.{eqb-false}
use Rattle.common.specs.Tests.{case}
use Rattle.camera.specs.declared.intrinsics.FxFyCxCy.{FxFyCxCy}
use Rattle.zhang.specs.Plate.{shared_unit, unit_from}

-- ---- one step
pub unit_found_here : (n u : ℕ) (f : FxFyCxCy) → shared_unit u f ≡ true → unit_from (suc n) u f ≡ some u
unfolding unit_from
unit_found_here n u f t = simp (unit_from, t)

pub unit_looked_for_further : (n u : ℕ) (f : FxFyCxCy) → shared_unit u f ≡ false → unit_from (suc n) u f ≡ unit_from n (u * 2) f
unfolding unit_from
unit_looked_for_further n u f t = simp (unit_from, t)

pub double_of_power : (k : ℕ) → 2 ^ k * 2 ≡ 2 ^ (k + 1)
double_of_power k = sym (pow-add 2 k 1)

unit_from_next_power : (n k : ℕ) (f : FxFyCxCy) → shared_unit (2 ^ k) f ≡ false → unit_from (suc n) (2 ^ k) f ≡ unit_from n (2 ^ suc k) f
unit_from_next_power n k f t = unit_looked_for_further n (2 ^ k) f t ∙ ap (λ (u : ℕ). unit_from n u f) (double_of_power k ∙ ap (λ (j : ℕ). 2 ^ j) (add-one k))

-- ---- all steps
pub record Lowest (n k u : ℕ) (f : FxFyCxCy) : Type 0 where
  pub j : ℕ
  pub below : j < k + n
  pub is : u ≡ 2 ^ j
  pub test : shared_unit (2 ^ j) f ≡ true

pub found_unit_is_shared : (n k u : ℕ) (f : FxFyCxCy) → unit_from n (2 ^ k) f ≡ some u → Lowest n k u f
unfolding unit_from
found_unit_is_shared zero k u f h = absurd (none-ne-some u h)
found_unit_is_shared (suc n) k u f h =
    case (shared_unit (2 ^ k) f)
    (λ t. record { j = k; below = omega arith; is = sym (some-injective (2 ^ k) u (sym (unit_found_here n (2 ^ k) f t) ∙ h)); test = t })
    (λ t. let l = found_unit_is_shared n (suc k) u f (sym (unit_from_next_power n k f t) ∙ h) in record { j = l.j; below = omega (arith, l.below); is = l.is; test = l.test })

pub shared_unit_is_not_missed : (n k j : ℕ) (f : FxFyCxCy) → unit_from n (2 ^ k) f ≡ none → k ≤ j → j < k + n → shared_unit (2 ^ j) f ≡ true → ⊥
unfolding unit_from
shared_unit_is_not_missed zero k j f h l u t = omega arith
shared_unit_is_not_missed (suc n) k j f h l u t =
    case (shared_unit (2 ^ k) f)
    (λ r. none-ne-some (2 ^ k) (sym h ∙ unit_found_here n (2 ^ k) f r))
    (λ r. case (eqb k j)
    (λ e. true≢false (sym t ∙ ap (λ (i : ℕ). shared_unit (2 ^ i) f) (sym (eqb-true k j e)) ∙ r))
    (λ e. let d = eqb-false k j e in shared_unit_is_not_missed n (suc k) j f (sym (unit_from_next_power n k f r) ∙ h) (omega arith) (omega arith) t))
