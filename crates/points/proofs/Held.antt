-- A pixel inside an extent doesn't change it. Assumes nothing.
use Rattle.std.specs.Prelude.{◌≡◌, refl, true, ◌&&◌}
use Rattle.std.proofs.Common.{sym}
use Rattle.std.specs.Float.Ieee.{le}
use Rattle.common.specs.Tests.{case, both_true}
use Rattle.camera.specs.declared.math.Pt2.{Pt2}
use Rattle.float.specs.Float.{is_finite}
use Rattle.float_laws.specs.OneTest.{lower_is_first, higher_is_first}
use Rattle.points.specs.declared.centre.Extent.{Extent}
use Rattle.points.specs.Centre.{widen}

pub pixel_inside_keeps_extent : (e : Extent) (p : Pt2) → (le e.min_x p.x && le p.x e.max_x && le e.min_y p.y && le p.y e.max_y) ≡ true → e ≡ widen e p
pixel_inside_keeps_extent e p h =
    let a = both_true (le e.min_x p.x && le p.x e.max_x && le e.min_y p.y) (le p.y e.max_y) h in
    let b = both_true (le e.min_x p.x && le p.x e.max_x) (le e.min_y p.y) a.0 in
    let c = both_true (le e.min_x p.x) (le p.x e.max_x) b.0 in
    case (is_finite p.x && is_finite p.y)
    (λ t. rw (t, sym (lower_is_first e.min_x p.x c.0), sym (higher_is_first e.max_x p.x c.1), sym (lower_is_first e.min_y p.y b.1), sym (higher_is_first e.max_y p.y a.1)) refl)
    (λ t. rw t refl)
