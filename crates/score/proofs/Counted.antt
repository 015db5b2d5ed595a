-- At most as many errors count as there are flags. Assumes nothing.
use Rattle.std.specs.Prelude.{◌≡◌, ℕ, suc, ◌+◌, ◌≤◌, Bool, true, false, cond, List, [], ◌∷◌, length, Float}
use Rattle.std.proofs.Common.{arith}
use Rattle.float.specs.Binary64.{◌+₆₄◌}
use Rattle.camera.specs.Matrix.{Matrix}
use Rattle.score.specs.declared.pinhole.PinholeCamera.{PinholeCamera}
use Rattle.score.specs.Rows.{rows_of, row_error, is_counted, counted_errors, no_errors, summed, error_sum}
use Rattle.score.specs.declared.errors.Row.{Row}
use Rattle.score.specs.declared.errors.ErrorSum.{ErrorSum}

summed_count : (es : List Float) (s : ErrorSum) → (summed s es).count ≡ s.count + length es
unfolding summed
summed_count [] s = omega arith
summed_count (e ∷ es) s = let h = summed_count es (record { sum = s.sum +₆₄ e; count = s.count + 1 }) in omega arith

counted_errors_le_rows : (c : PinholeCamera) (h : Matrix) (rs : List Row) → length (counted_errors c h rs) ≤ length rs
unfolding counted_errors
counted_errors_le_rows c h [] = omega arith
counted_errors_le_rows c h (r ∷ rs) =
    let k = counted_errors_le_rows c h rs in
    elim (is_counted c h r) as (λ (v : Bool). length (cond v (row_error c h r ∷ counted_errors c h rs) (counted_errors c h rs)) ≤ suc (length rs)) [ true ↦ omega arith | false ↦ omega arith ]

-- the rows end with the flags at the latest
rows_le_flags : (ns : List Float) (fs : List ℕ) → length (rows_of ns fs) ≤ length fs
unfolding rows_of
rows_le_flags [] fs = omega arith
rows_le_flags (x ∷ []) fs = omega arith
rows_le_flags (x ∷ y ∷ []) fs = omega arith
rows_le_flags (x ∷ y ∷ u ∷ []) fs = omega arith
rows_le_flags (x ∷ y ∷ u ∷ v ∷ ns) [] = omega arith
rows_le_flags (x ∷ y ∷ u ∷ v ∷ ns) (f ∷ fs) = let k = rows_le_flags ns fs in omega arith

pub error_count_le_flags : (c : PinholeCamera) (h : Matrix) (ns : List Float) (fs : List ℕ) → (error_sum c h (rows_of ns fs)).count ≤ length fs
unfolding error_sum
error_count_le_flags c h ns fs =
    let n = summed_count (counted_errors c h (rows_of ns fs)) no_errors in
    let k = counted_errors_le_rows c h (rows_of ns fs) in
    let m = rows_le_flags ns fs in
    omega arith
