-- What the distortion does where all five coefficients are 0, each +0 or −0: `without_distortion`. Assumes nothing.
use Rattle.std.specs.Prelude.{◌≡◌, Bool, true, cond, ◌&&◌, Float}
use Rattle.std.specs.Bool.{beq}
use Rattle.std.specs.Float.{nan}
use Rattle.std.specs.Float.Ieee.{binary64, of_bits, unlike, eq}
use Rattle.float.specs.Float.{is_finite, sign_bit}
use Rattle.float.specs.Literals.{plus_zero}
use Rattle.float.specs.Binary64.{◌*₆₄◌}
use Rattle.float.specs.Zero.{plus_zero_unless}
use Rattle.camera.specs.Distortion.{squared_norm}
use Rattle.camera.specs.declared.math.Pt2.{Pt2}
use Rattle.camera.specs.declared.distortion.BrownConrady5.{BrownConrady5}

-- each coefficient equals 0, so is +0 or −0
abbrev pub AllZero : BrownConrady5 → Type 0
AllZero b = (eq b.k1 plus_zero ≡ true) × ((eq b.k2 plus_zero ≡ true) × ((eq b.k3 plus_zero ≡ true) × ((eq b.p1 plus_zero ≡ true) × (eq b.p2 plus_zero ≡ true))))

-- r6
abbrev pub sixth_power : Pt2 → Float
sixth_power p = squared_norm p *₆₄ squared_norm p *₆₄ squared_norm p

-- Whether a coordinate of −0 stays −0: its own tangential coefficient, p2 for x and p1 for y, is −0, and the other
-- coefficient has the other coordinate's sign.
abbrev pub keeps_minus : (own other otherCoordinate : Float) → Bool
keeps_minus own other w = sign_bit own && beq (sign_bit other) (sign_bit w)

-- Where r6 is finite, the point itself, but a coordinate of −0 becomes +0 unless `keeps_minus` says that it stays.
-- Where r6 isn't finite, so where it overflows or a coordinate isn't finite, both coordinates are NaN.
abbrev pub without_distortion : BrownConrady5 → Pt2 → Pt2
without_distortion b p =
    cond (is_finite (sixth_power p))
    (record { x = plus_zero_unless (keeps_minus b.p2 b.p1 p.y) p.x; y = plus_zero_unless (keeps_minus b.p1 b.p2 p.x) p.y })
    (record { x = nan; y = nan })

-- 2 ^ 256: a coordinate of that size makes r4 overflow
abbrev pub large : Float
large = of_bits binary64 0x4ff0_0000_0000_0000

-- the sign of a coefficient's product with both coordinates
abbrev pub product_sign : Float → Pt2 → Bool
product_sign k p = unlike (unlike (sign_bit k) (sign_bit p.x)) (sign_bit p.y)
