-- Brown's and Conrady's lens distortion, each operation rounded, in the order in which the formulas read.
-- Definitions only.
use Rattle.std.specs.Prelude.{Float}
use Rattle.float.specs.Binary64.{◌+₆₄◌, ◌*₆₄◌}
use Rattle.float.specs.Literals.{one₆₄, two₆₄, three₆₄, six₆₄}
use Rattle.camera.specs.declared.math.Pt2.{Pt2}
use Rattle.camera.specs.declared.distortion.BrownConrady5.{BrownConrady5}
use Rattle.camera.specs.declared.distortion.Terms.{Terms}
use Rattle.camera.specs.declared.distortion.Jacobian.{Jacobian}
use Rattle.camera.specs.declared.distortion.DistortedPoint.{DistortedPoint}

-- r2, the squared distance from the lens's axis
abbrev pub squared_norm : Pt2 → Float
squared_norm p = p.x *₆₄ p.x +₆₄ p.y *₆₄ p.y

-- the factor on both coordinates, a polynomial in r2 with r4 = r2 × r2 and r6 = r4 × r2
unfoldable pub radial_factor : BrownConrady5 → Pt2 → Float
radial_factor b p =
    let r2 = squared_norm p in
    let r4 = r2 *₆₄ r2 in
    let r6 = r4 *₆₄ r2 in
    one₆₄ +₆₄ b.k1 *₆₄ r2 +₆₄ b.k2 *₆₄ r4 +₆₄ b.k3 *₆₄ r6

-- what a lens off its axis adds to x and to y
unfoldable pub tangential_x : BrownConrady5 → Pt2 → Float
tangential_x b p = two₆₄ *₆₄ b.p1 *₆₄ p.x *₆₄ p.y +₆₄ b.p2 *₆₄ (squared_norm p +₆₄ two₆₄ *₆₄ p.x *₆₄ p.x)

unfoldable pub tangential_y : BrownConrady5 → Pt2 → Float
tangential_y b p = b.p1 *₆₄ (squared_norm p +₆₄ two₆₄ *₆₄ p.y *₆₄ p.y) +₆₄ two₆₄ *₆₄ b.p2 *₆₄ p.x *₆₄ p.y

-- the three together, as the code passes them on
abbrev pub terms : BrownConrady5 → Pt2 → Terms
terms b p = record { radial = radial_factor b p; x_tan = tangential_x b p; y_tan = tangential_y b p }

-- the point as the lens images it
unfoldable pub distorted : BrownConrady5 → Pt2 → Pt2
distorted b p = record {
  x = p.x *₆₄ radial_factor b p +₆₄ tangential_x b p;
  y = p.y *₆₄ radial_factor b p +₆₄ tangential_y b p;
}

-- ---- the derivatives of the two coordinates
-- the radial factor as the derivatives take it, with (k3 × r4) × r2 for its last term
unfoldable pub jacobian_radial : BrownConrady5 → Pt2 → Float
jacobian_radial b p =
    let r2 = squared_norm p in
    let r4 = r2 *₆₄ r2 in
    one₆₄ +₆₄ b.k1 *₆₄ r2 +₆₄ b.k2 *₆₄ r4 +₆₄ b.k3 *₆₄ r4 *₆₄ r2

-- the radial factor's derivative by r2
unfoldable pub radial_derivative : BrownConrady5 → Pt2 → Float
radial_derivative b p =
    let r2 = squared_norm p in
    let r4 = r2 *₆₄ r2 in
    b.k1 +₆₄ two₆₄ *₆₄ b.k2 *₆₄ r2 +₆₄ three₆₄ *₆₄ b.k3 *₆₄ r4

-- the derivatives of x by x, of either coordinate by the other, and of y by y, from the radial factor r and its
-- derivative d
abbrev pub derivatives : BrownConrady5 → Pt2 → Float → Float → Jacobian
derivatives b p r d =
    let x = p.x in
    let y = p.y in
    let cross = two₆₄ *₆₄ x *₆₄ y *₆₄ d +₆₄ two₆₄ *₆₄ b.p1 *₆₄ x +₆₄ two₆₄ *₆₄ b.p2 *₆₄ y in
    record {
      xx = r +₆₄ two₆₄ *₆₄ x *₆₄ x *₆₄ d +₆₄ two₆₄ *₆₄ b.p1 *₆₄ y +₆₄ six₆₄ *₆₄ b.p2 *₆₄ x;
      xy = cross;
      yx = cross;
      yy = r +₆₄ two₆₄ *₆₄ y *₆₄ y *₆₄ d +₆₄ six₆₄ *₆₄ b.p1 *₆₄ y +₆₄ two₆₄ *₆₄ b.p2 *₆₄ x;
    }

unfoldable pub jacobian_at : BrownConrady5 → Pt2 → Jacobian
jacobian_at b p = derivatives b p (jacobian_radial b p) (radial_derivative b p)

abbrev pub distorted_with_jacobian : BrownConrady5 → Pt2 → DistortedPoint
distorted_with_jacobian b p = record { point = distorted b p; jacobian = jacobian_at b p }
