-- How the code goes through the rows: the steps that its loops are proved equal to. Definitions only.
use Rattle.std.specs.Prelude.{◌≡◌, ℕ, zero, suc, ◌+◌, ◌*◌, ◌%◌, ◌^◌, ◌<◌, Bool, cond, List, length, ◌==◌, slice_index, slice_index_or, Float}
use Rattle.std.specs.Float.{nan}
use Rattle.float.specs.Binary64.{◌+₆₄◌, ◌/₆₄◌}
use Rattle.camera.specs.Distortion.{distorted}
use Rattle.camera.specs.Intrinsics.{sensor_to_pixel}
use Rattle.camera.specs.declared.math.Pt2.{Pt2}
use Rattle.camera.specs.Matrix.{Matrix}
use Rattle.camera.specs.Sensor.{homogeneous, forward_depth}
use Rattle.camera.specs.Math.{point_at, distance_of}
use Rattle.score.specs.Rows.{projected, row_error, is_counted}
use Rattle.score.specs.declared.pinhole.PinholeCamera.{PinholeCamera}
use Rattle.score.specs.declared.errors.Row.{Row}
use Rattle.score.specs.declared.errors.ErrorSum.{ErrorSum}
use Rattle.score.specs.declared.errors.Projection.{Projection}
use Rattle.score.specs.declared.rows.Rows.{Rows}

-- A row that counts adds its error to the sum and one to the count. A count at 2 ^ 64 - 1 goes on from 0; no list of rows brings it there.
unfoldable pub add_error : ErrorSum → Bool → Float → ErrorSum
add_error s counted e = cond counted (record { sum = s.sum +₆₄ e; count = (s.count + 1) % 2 ^ 64 }) s

-- the sum and count with one more row: the step for one row
unfoldable pub with_row : PinholeCamera → Matrix → ErrorSum → Row → ErrorSum
with_row c h s r = add_error s (is_counted c h r) (row_error c h r)

-- row i of the two lists
unfoldable pub row_at : List Float → List ℕ → ℕ → Row
row_at numbers flags i = record { ideal = point_at numbers (4 * i); seen = point_at numbers (4 * i + 2); flag = slice_index flags i }

-- the step for each of the first n rows, in their order
unfoldable pub add_rows : ErrorSum → PinholeCamera → Matrix → List Float → List ℕ → ℕ → ErrorSum
add_rows s c h numbers flags zero = s
add_rows s c h numbers flags (suc j) = with_row c h (add_rows s c h numbers flags j) (row_at numbers flags j)

-- all rows of two lists, brought to pixels by a projection
abbrev pub add_all_rows : ErrorSum → Projection → Rows → ErrorSum
add_all_rows s by rows = add_rows s by.camera by.h rows.numbers.now rows.flags.now (length rows.flags.now)

-- the first n errors added by the rows' flags alone
unfoldable pub add_errors : ErrorSum → List ℕ → List Float → ℕ → ErrorSum
add_errors s flags errors zero = s
add_errors s flags errors (suc j) = add_error (add_errors s flags errors j) (slice_index flags j == 1) (slice_index_or errors j nan)

-- 1 for a row in front of the camera, and how many of the first n rows lie there
unfoldable pub one_in_front : ℕ → ℕ
one_in_front flag = cond (flag == 1) 1 0

unfoldable pub in_front : List ℕ → ℕ → ℕ
in_front flags zero = 0
in_front flags (suc j) = in_front flags j + one_in_front (slice_index flags j)

-- the three lists start with the first n rows' points on the sensor, not yet divided
abbrev pub Tilted : PinholeCamera → Matrix → List Float → ℕ → List Float → List Float → List Float → Type 0
Tilted c h numbers n xs ys zs =
    (j : ℕ) → j < n →
    let p = distorted c.dist (point_at numbers (4 * j)) in
    (slice_index_or xs j nan ≡ homogeneous h p 0) × (slice_index_or ys j nan ≡ homogeneous h p 1) × (slice_index_or zs j nan ≡ homogeneous h p 2)

-- depths starts with those of the first n points
abbrev pub Depths : ℕ → List Float → List Float → Type 0
Depths n zs depths = (j : ℕ) → j < n → slice_index_or depths j nan ≡ forward_depth (slice_index_or zs j nan)

-- errors starts with those of the first n such points
abbrev pub PointErrors : PinholeCamera → List Float → ℕ → List Float → List Float → List Float → List Float → Type 0
PointErrors c numbers n xs ys depths errors =
    (j : ℕ) → j < n →
    let d = slice_index_or depths j nan in
    let p : Pt2 = record { x = slice_index_or xs j nan /₆₄ d; y = slice_index_or ys j nan /₆₄ d } in
    slice_index_or errors j nan ≡ distance_of (sensor_to_pixel c.k p) (point_at numbers (4 * j + 2))

-- errors starts with those of the first n rows
abbrev pub Errors : PinholeCamera → Matrix → List Float → ℕ → List Float → Type 0
Errors c h numbers n errors = (j : ℕ) → j < n → slice_index_or errors j nan ≡ distance_of (projected c h (point_at numbers (4 * j))) (point_at numbers (4 * j + 2))
