-- The mean error has no minus sign: errors are roots of sums of squares, and their sum starts at +0. Assumes nothing.
use Rattle.std.specs.Prelude.{ℕ, ◌+◌, ◌≡◌, refl, Bool, true, false, cond, List, [], ◌∷◌, eqb, pos, Float}
use Rattle.std.specs.Float.{binary64}
use Rattle.std.specs.Float.Ieee.{div, of_bits, of_int}
use Rattle.float.specs.Binary64.{◌+₆₄◌, ◌/₆₄◌}
use Rattle.float.specs.Literals.{infinity}
use Rattle.float.specs.Sign.{sign_add, sign_square, sign_div, sign_count}
use Rattle.float.specs.Float.{sign_bit}
use Rattle.root.proofs.RootLaws.{sign_root}
use Rattle.camera.specs.Matrix.{Matrix}
use Rattle.score.specs.Camera.{damped_camera}
use Rattle.score.specs.Rows.{rows_of, tilt_matrix, row_error, is_counted, counted_errors, no_errors, summed, error_sum, mean_of}
use Rattle.score.specs.Evaluation.{errors_with, mean_with}
use Rattle.score.specs.declared.pinhole.PinholeCamera.{PinholeCamera}
use Rattle.score.specs.declared.errors.Row.{Row}
use Rattle.score.specs.declared.errors.ErrorSum.{ErrorSum}
use Rattle.score.specs.declared.outcome.SolvedCamera.{SolvedCamera}

row_error_unsigned : (c : PinholeCamera) (h : Matrix) (r : Row) → sign_bit (row_error c h r) ≡ false
unfolding row_error
row_error_unsigned c h r = sign_root binary64 _ (sign_add binary64 _ _ (sign_square binary64 _) (sign_square binary64 _))

summed_unsigned : (c : PinholeCamera) (h : Matrix) (rs : List Row) (s : ErrorSum) → sign_bit s.sum ≡ false → sign_bit (summed s (counted_errors c h rs)).sum ≡ false
unfolding counted_errors summed
summed_unsigned c h [] s p = p
summed_unsigned c h (r ∷ rs) s p =
    elim (is_counted c h r) as (λ (v : Bool). sign_bit (summed s (cond v (row_error c h r ∷ counted_errors c h rs) (counted_errors c h rs))).sum ≡ false) [
      | true ↦ summed_unsigned c h rs (record { sum = s.sum +₆₄ row_error c h r; count = s.count + 1 }) (sign_add binary64 s.sum (row_error c h r) p (row_error_unsigned c h r))
      | false ↦ summed_unsigned c h rs s p
    ]

infinity_unsigned : sign_bit infinity ≡ false
unfolding sign_bit div of_bits
infinity_unsigned = refl

mean_of_unsigned : (s : ErrorSum) → sign_bit s.sum ≡ false → sign_bit (mean_of s) ≡ false
unfolding mean_of
mean_of_unsigned s p =
    elim (eqb s.count 0) as (λ (v : Bool). sign_bit (cond v infinity (s.sum /₆₄ of_int binary64 (pos s.count))) ≡ false) [
      | true ↦ infinity_unsigned
      | false ↦ sign_div binary64 s.sum (of_int binary64 (pos s.count)) p (sign_count binary64 s.count)
    ]

pub mean_with_unsigned : (s : SolvedCamera) (rows : List Float) (flags : List ℕ) → sign_bit (mean_with s rows flags) ≡ false
unfolding mean_with errors_with error_sum sign_bit of_bits
mean_with_unsigned s rows flags =
    mean_of_unsigned (summed no_errors (counted_errors (damped_camera s.camera) (tilt_matrix s.trig) (rows_of rows flags)))
    (summed_unsigned (damped_camera s.camera) (tilt_matrix s.trig) (rows_of rows flags) no_errors refl)
