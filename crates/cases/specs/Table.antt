-- The worked cases of single operations (docs/SPECIFICATION.md, 13.1), and the theorem that all of them hold. Assumes
-- nothing.
use Rattle.std.specs.Prelude.{refl, List, [], ◌∷◌, Float, Result, Ok, Err}
use Rattle.common.specs.declared.Refusal.{Refusal}
use Rattle.common.specs.declared.Refusal.TheVariants.{SingularTilt, DegenerateViews}
use Rattle.camera.specs.declared.intrinsics.FxFyCxCy.{FxFyCxCy}
use Rattle.std.specs.Float.Ieee.{of_int, of_bits, add, sub, mul, div, neg, lt, le, eq, is_nan}
use Rattle.common.specs.Each.{All}
use Rattle.float.specs.Float.{abs_of, is_finite, min_of, max_of, within}
use Rattle.root.specs.Root.{root}
use Rattle.camera.specs.declared.math.Pt2.{Pt2}
use Rattle.camera.specs.Matrix.{Matrix, product_of, first_other, second_other, minor_of, determinant_of}
use Rattle.camera.specs.Sensor.{tilt_projection_matrix, forward_depth, inverse_depth, apply_homography, apply_homography_inverse}
use Rattle.points.specs.Points.{fold_points}
use Rattle.points.specs.Centre.{extent_of, centre_of, centre_reply}
use Rattle.zhang.specs.declared.Conic.{Conic}
use Rattle.zhang.specs.Zhang.{definite, from_homographies}
use Rattle.seeds.specs.Merge.{keep, has_near, push, merged_into}
use Rattle.seeds.specs.Rules.{closer, tilt_near, near, in_bound, tilts, pairs, seed_grid, initial_list, offsets, next_list}
use Rattle.score.specs.Penalties.{tilt_penalty}
use Rattle.cases.specs.Case.{Case, sqrt, tilt, forward, backward, centre, conic, typed, around, penalty, Holds, whole, minus}
use Rattle.cases.specs.Numbers.{bits, eighth, quarter, half}

abbrev point : Float → Float → Pt2
point x y = record { x = x; y = y }

-- the matrix with the diagonal 1, 1, -2
abbrev diagonal : Matrix
diagonal = (whole 1 ∷ whole 0 ∷ whole 0 ∷ []) ∷ (whole 0 ∷ whole 1 ∷ whole 0 ∷ []) ∷ (whole 0 ∷ whole 0 ∷ minus 2 ∷ []) ∷ []

abbrev conic_of : Float → Float → Float → Float → Float → Float → Conic
conic_of b11 b12 b22 b13 b23 b33 = record { b11 = b11; b12 = b12; b22 = b22; b13 = b13; b23 = b23; b33 = b33 }

abbrev chosen : Result FxFyCxCy Refusal
chosen = Ok (record { fx = whole 2; fy = whole 2; cx = whole 3; cy = whole 1 })

abbrev pub table : List Case
table =
    conic (conic_of (whole 1) (whole 0) (whole 1) (minus 3) (minus 1) (whole 14)) chosen
    ∷ conic (conic_of (minus 1) (minus 0) (minus 1) (whole 3) (whole 1) (minus 14)) chosen
    ∷ conic (conic_of (whole 0) (whole 0) (whole 0) (whole 0) (whole 0) (whole 0)) (Err DegenerateViews)
    ∷ conic (conic_of (whole 1) (whole 0) (whole 1) (whole 0) (whole 0) (whole 0)) (Err DegenerateViews)
    ∷ sqrt (whole 4) (whole 2)
    ∷ sqrt (whole 2) (bits 0x3ff6_a09e_667f_3bcd)
    ∷ typed (quarter ∷ half ∷ []) (whole 0 ∷ []) quarter (tilts quarter (whole 0) ∷ [])
    ∷ typed (whole 0 ∷ minus 0 ∷ []) (whole 0 ∷ []) quarter (tilts (whole 0) (whole 0) ∷ [])
    ∷ around (tilts quarter (whole 0)) eighth quarter
    (tilts eighth (neg eighth) ∷ tilts eighth (whole 0) ∷ tilts eighth eighth
    ∷ tilts quarter (neg eighth) ∷ tilts quarter (whole 0) ∷ tilts quarter eighth ∷ [])
    ∷ centre (whole 2 ∷ whole 4 ∷ whole 10 ∷ whole 6 ∷ []) (Ok (point (whole 5) (whole 3)))
    ∷ centre (minus 2 ∷ whole 4 ∷ whole 10 ∷ whole 6 ∷ []) (Ok (point (whole 4) (whole 5)))
    ∷ penalty (tilts half (whole 0)) (bits 0x3fb0_0000_0000_0000)
    ∷ tilt (whole 1) (whole 0) (whole 0) (whole 1) (Err SingularTilt)
    ∷ backward diagonal (point (whole 2) (whole 3)) (point (minus 1) (bits 0xbff8_0000_0000_0000))
    ∷ forward diagonal (point (whole 2) (whole 3)) (point (bits 0x427d_1a94_a200_0000) (bits 0x4285_d3ef_7980_0000))
    ∷ []

-- Each row is proved by computing both sides.
pub all_hold : All Holds table
unfolding root from_homographies definite centre_reply centre_of extent_of fold_points tilt_projection_matrix product_of first_other second_other minor_of determinant_of forward_depth inverse_depth apply_homography apply_homography_inverse initial_list next_list offsets seed_grid pairs keep in_bound within merged_into push has_near tilt_near closer near tilt_penalty abs_of is_finite min_of max_of of_int of_bits add sub mul div neg lt le eq is_nan
all_hold = (
  refl,
  (
    refl,
    (
      refl,
      (
        refl,
        (
          refl,
          (
            refl,
            (
              λ base. refl,
              (
                λ base. refl,
                (
                  λ camera. refl,
                  (refl, (refl, (refl, (refl, (refl, (refl, tt)))))),
                ),
              ),
            ),
          ),
        ),
      ),
    ),
  ),
)
