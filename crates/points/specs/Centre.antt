-- The observed centre. Definitions only.
use Rattle.std.specs.Prelude.{◌%◌, Bool, ◌&&◌, cond, List, eqb, length, Result, Ok, Err, Float}
use Rattle.std.specs.Float.Ieee.{neg, le}
use Rattle.common.specs.declared.Refusal.{Refusal}
use Rattle.common.specs.declared.Refusal.TheVariants.{BadPoints}
use Rattle.float.specs.Binary64.{◌+₆₄◌, ◌*₆₄◌}
use Rattle.float.specs.Float.{is_finite, min_of, max_of}
use Rattle.float.specs.Literals.{plus_zero, infinity, half₆₄}
use Rattle.camera.specs.declared.math.Pt2.{Pt2}
use Rattle.points.specs.declared.centre.Extent.{Extent}
use Rattle.points.specs.Points.{fold_points}

-- A pixel counts if both coordinates are finite. Of equal ones, so also of two zeros, the first is kept.
abbrev pub widen : Extent → Pt2 → Extent
widen e p =
    cond (is_finite p.x && is_finite p.y)
    (record {
      min_x = min_of e.min_x p.x;
      min_y = min_of e.min_y p.y;
      max_x = max_of e.max_x p.x;
      max_y = max_of e.max_y p.y;
    })
    e

unfoldable pub extent_of : List Float → Extent
unfolding fold_points
extent_of s = fold_points widen (record { min_x = infinity; min_y = infinity; max_x = neg infinity; max_y = neg infinity }) s

abbrev pub finite_extent : Extent → Bool
finite_extent e = (is_finite e.min_x && is_finite e.min_y) && (is_finite e.max_x && is_finite e.max_y)

-- (0, 0) where no pixel is finite; half of the greatest coordinates where none is negative; else the middle of the
-- range, in both coordinates.
unfoldable pub centre_of : Extent → Pt2
centre_of e =
    cond (finite_extent e)
    (cond (le plus_zero e.min_x && le plus_zero e.min_y)
    (record { x = half₆₄ *₆₄ e.max_x; y = half₆₄ *₆₄ e.max_y })
    (record { x = half₆₄ *₆₄ (e.min_x +₆₄ e.max_x); y = half₆₄ *₆₄ (e.min_y +₆₄ e.max_y) }))
    (record { x = plus_zero; y = plus_zero })

-- an odd length is refused
unfoldable pub centre_reply : List Float → Result Pt2 Refusal
unfolding centre_of extent_of
centre_reply s = cond (eqb (length s % 2) 0) (Ok (centre_of (extent_of s))) (Err BadPoints)
