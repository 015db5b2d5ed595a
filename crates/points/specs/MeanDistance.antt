-- The mean distance is not below 0, whatever the points are: distances are roots of sums of squares, and their sum
-- starts at +0. Assumes nothing.
use Rattle.std.specs.Prelude.{◌≡◌, refl, false, List, [], ◌∷◌, ◌/◌, length, Float}
use Rattle.std.specs.Float.{binary64}
use Rattle.std.specs.Float.Ieee.{of_bits, lt}
use Rattle.float.specs.Sign.{unsigned_not_below, sign_add, sign_square, sign_div, sign_count}
use Rattle.float.specs.Float.{sign_bit}
use Rattle.float.specs.Literals.{plus_zero}
use Rattle.root.proofs.RootLaws.{sign_root}
use Rattle.camera.specs.declared.math.Pt2.{Pt2}
use Rattle.points.specs.Points.{fold_points, count_of}
use Rattle.camera.specs.Math.{distance_of}
use Rattle.points.specs.Linalg.{add_distance, mean_distance}

-- ---- a distance, a sum of distances and their mean have no minus sign
pub sign_distance : (p q : Pt2) → sign_bit (distance_of p q) ≡ false
sign_distance p q = sign_root binary64 _ (sign_add binary64 _ _ (sign_square binary64 _) (sign_square binary64 _))

pub sign_total : (c : Pt2) (d : Float) (s : List Float) → sign_bit d ≡ false → sign_bit (fold_points (add_distance c) d s) ≡ false
unfolding fold_points
sign_total c d [] h = h
sign_total c d (x ∷ []) h = h
sign_total c d (x ∷ y ∷ s) h =
    let p : Pt2 = record { x = x; y = y } in
    sign_total c (add_distance c d p) s (sign_add binary64 d (distance_of p c) h (sign_distance p c))

pub sign_mean : (c : Pt2) (s : List Float) → sign_bit (mean_distance c s) ≡ false
unfolding mean_distance sign_bit of_bits
sign_mean c s = sign_div binary64 (fold_points (add_distance c) plus_zero s) (count_of s) (sign_total c plus_zero s refl) (sign_count binary64 (length s / 2))

pub mean_not_below : (c : Pt2) (s : List Float) → lt (mean_distance c s) plus_zero ≡ false
mean_not_below c s = unsigned_not_below (mean_distance c s) (sign_mean c s)
