-- The rows that the host sends, their reprojection errors, and the mean of these. Definitions only.
use Rattle.std.specs.Prelude.{ℕ, ◌+◌, Bool, cond, ◌&&◌, List, [], ◌∷◌, pos, ◌==◌, Float}
use Rattle.std.specs.Float.{binary64}
use Rattle.std.specs.Float.Ieee.{of_int}
use Rattle.float.specs.Binary64.{◌+₆₄◌, ◌/₆₄◌}
use Rattle.float.specs.Float.{is_finite}
use Rattle.float.specs.Literals.{plus_zero, infinity}
use Rattle.camera.specs.Distortion.{distorted}
use Rattle.camera.specs.Intrinsics.{sensor_to_pixel}
use Rattle.camera.specs.Matrix.{Matrix}
use Rattle.camera.specs.Sensor.{tilt_projection_matrix, apply_homography}
use Rattle.camera.specs.declared.math.Pt2.{Pt2}
use Rattle.camera.specs.Math.{distance_of}
use Rattle.score.specs.declared.pinhole.PinholeCamera.{PinholeCamera}
use Rattle.camera.specs.declared.sensor.TiltTrig.{TiltTrig}
use Rattle.score.specs.declared.errors.Row.{Row}
use Rattle.score.specs.declared.errors.ErrorSum.{ErrorSum}

-- A row is x, y (the ideal point), u, v (the seen pixel) and a flag. The rows end where one of the lists does.
unfoldable pub rows_of : List Float → List ℕ → List Row
rows_of [] flags = []
rows_of (x ∷ []) flags = []
rows_of (x ∷ y ∷ []) flags = []
rows_of (x ∷ y ∷ u ∷ []) flags = []
rows_of (x ∷ y ∷ u ∷ v ∷ numbers) [] = []
rows_of (x ∷ y ∷ u ∷ v ∷ numbers) (flag ∷ flags) =
    record { ideal = record { x = x; y = y }; seen = record { x = u; y = v }; flag = flag } ∷ rows_of numbers flags

-- the forward tilt, P × R
unfoldable pub tilt_matrix : TiltTrig → Matrix
tilt_matrix t = tilt_projection_matrix t

-- where the camera projects an ideal point: distorted, then tilted, then brought to a pixel
unfoldable pub projected : PinholeCamera → Matrix → Pt2 → Pt2
projected c h p = sensor_to_pixel c.k (apply_homography h (distorted c.dist p))

-- A row's error is the distance between its projected and its seen pixel.
unfoldable pub row_error : PinholeCamera → Matrix → Row → Float
row_error c h r = distance_of (projected c h r.ideal) r.seen

-- A row counts if its flag is 1 and its error is finite.
unfoldable pub is_counted : PinholeCamera → Matrix → Row → Bool
is_counted c h r = r.flag == 1 && is_finite (row_error c h r)

-- the errors that count, in the rows' order
unfoldable pub counted_errors : PinholeCamera → Matrix → List Row → List Float
counted_errors c h [] = []
counted_errors c h (r ∷ rs) = cond (is_counted c h r) (row_error c h r ∷ counted_errors c h rs) (counted_errors c h rs)

-- Errors summed from 0.0 on, left to right, and how many there are.
abbrev pub no_errors : ErrorSum
no_errors = record { sum = plus_zero; count = 0 }

unfoldable pub summed : ErrorSum → List Float → ErrorSum
summed s [] = s
summed s (e ∷ es) = summed (record { sum = s.sum +₆₄ e; count = s.count + 1 }) es

unfoldable pub error_sum : PinholeCamera → Matrix → List Row → ErrorSum
error_sum c h rows = summed no_errors (counted_errors c h rows)

-- The mean is the sum divided by how many errors count, and infinity where none does.
unfoldable pub mean_of : ErrorSum → Float
mean_of s = cond (s.count == 0) infinity (s.sum /₆₄ of_int binary64 (pos s.count))
