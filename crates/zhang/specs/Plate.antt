-- The six numbers of a chosen camera, or a refusal (docs/SPECIFICATION.md, 3.16). specs/Theorem.antt says that the
-- camera comes back from them. Definitions only.
use Rattle.std.specs.Prelude.{ℕ, zero, suc, ◌*◌, ◌/◌, ◌%◌, Bool, true, false, ◌&&◌, pos, ◌==◌, nat_le, Float, Result, Ok, Err}
use Rattle.std.proofs.Math.Option.{Option, none, some}
use Rattle.std.specs.Float.{nan, inf, fin, binary64}
use Rattle.std.specs.Float.Ieee.{up, down, of_int, neg, lt}
use Rattle.float.specs.Binary64.{◌+₆₄◌, ◌*₆₄◌, ◌/₆₄◌}
use Rattle.float.specs.Literals.{plus_zero}
use Rattle.camera.specs.declared.intrinsics.FxFyCxCy.{FxFyCxCy}
use Rattle.zhang.specs.declared.Conic.{Conic}
use Rattle.common.specs.declared.Refusal.{Refusal}
use Rattle.common.specs.declared.Refusal.TheVariants.{NoSharedPower}

-- ±(m up e / down e) is a whole number of units u, at most 256 of them
unfoldable pub times_unit : ℕ → Float → Bool
times_unit u nan = false
times_unit u (inf s) = false
times_unit u (fin s m e) = m * up e % (u * down e) == 0 && nat_le (m * up e / (u * down e)) 256

-- the four are such numbers, and the focal lengths are above 0
unfoldable pub shared_unit : ℕ → FxFyCxCy → Bool
shared_unit u k = times_unit u k.fx && times_unit u k.fy && times_unit u k.cx && times_unit u k.cy && lt plus_zero k.fx && lt plus_zero k.fy

-- the lowest unit that the four share, of u, 2 u, 4 u and so on, n of them
unfoldable pub unit_from : ℕ → ℕ → FxFyCxCy → Option ℕ
unit_from zero u k = none
unit_from (suc n) u k = elim (shared_unit u k) [ true ↦ some u | false ↦ unit_from n (u * 2) k ]

-- With p = fx / u and q = fy / u: q², 0, p², −cx q², −cy p², cx² q² + cy² p² + fx² q². It is the conic K⁻ᵀ K⁻¹ times p²
-- q² u², so that all six are whole numbers.
unfoldable pub conic_with : Float → FxFyCxCy → Conic
conic_with u k =
    let p = k.fx /₆₄ u in
    let q = k.fy /₆₄ u in
    record {
      b11 = q *₆₄ q;
      b12 = plus_zero;
      b22 = p *₆₄ p;
      b13 = neg (k.cx *₆₄ (q *₆₄ q));
      b23 = neg (k.cy *₆₄ (p *₆₄ p));
      b33 = k.cx *₆₄ k.cx *₆₄ (q *₆₄ q) +₆₄ k.cy *₆₄ k.cy *₆₄ (p *₆₄ p) +₆₄ k.fx *₆₄ k.fx *₆₄ (q *₆₄ q);
    }

-- by the lowest unit of 1, 2, 4 .. 256 that the four share, and a refusal where there is none
unfoldable pub plate_of : FxFyCxCy → Result Conic Refusal
plate_of k = elim (unit_from 9 1 k) [ none ↦ Err NoSharedPower | some u ↦ Ok (conic_with (of_int binary64 (pos u)) k) ]
