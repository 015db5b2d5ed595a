-- Lists of points that `design_rows` doesn't refuse are spread out enough to be normalised. Assumes nothing.
use Rattle.std.specs.Prelude.{◌≡◌, false, ℕ, ◌≤◌, length, Float, Result, Ok, Err, ⊤}
use Rattle.std.proofs.Common.{refl, sym, ◌∙◌, arith, ne_eqb}
use Rattle.std.proofs.Math.Bool.{true≢false}
use mathlib.Core.List.{List, [], ◌∷◌, ◌++◌}
use Rattle.std.specs.Float.Ieee.{le}
use Rattle.common.specs.declared.Refusal.{Refusal}
use Rattle.common.specs.Checks.{◌when◌, first_refusal}
use Rattle.common.specs.ChecksLaws.{refuses_no_more}
use Rattle.common.specs.Tests.{case}
use Rattle.camera.specs.declared.math.Pt2.{Pt2}
use Rattle.points.specs.Linalg.{epsilon, mean_distance, centroid_of, degenerate}
use Rattle.points.specs.Line.{collinear_of}
use Rattle.points.specs.Rows.{design_conditions, rows_refusal}
use Rattle.points.specs.RowsLaws.{Accepted, accepted_lists}
use Rattle.points.specs.Spread.{close_of_small_mean, close_collinear, two_points, three_points}
use Rattle.points.specs.Theorem.{number_or, degenerate_number, RowsNormalised}

-- ---- so the mean distance of 3 to 400 points that aren't collinear, from any point, is not at most 2^-52
module _ (s : List Float) (n : 6 ≤ length s) (m : length s ≤ 800) where
  pub mean_above : (c : Pt2) → collinear_of s ≡ false → le (mean_distance c s) epsilon ≡ false
  mean_above c h = case (le (mean_distance c s) epsilon) (λ e. absurd (true≢false (sym (close_collinear c s n (close_of_small_mean c s m e)) ∙ h))) (λ e. e)

  pub not_degenerate : collinear_of s ≡ false → degenerate s ≡ false
  unfolding degenerate
  not_degenerate h = rw (ne_eqb (length s) 0 (λ e. omega arith), mean_above (centroid_of s) h)

-- ---- lists that `design_rows` doesn't refuse can be normalised, the source points and the destination points alike
pub normalised : (src dst : List Float) (room : ℕ) → rows_refusal src dst room ≡ Ok tt → (degenerate src ≡ false) × (degenerate dst ≡ false)
normalised src dst room h =
    let f : Accepted src dst room = accepted_lists src dst room h in (
      not_degenerate src (omega (arith, f.least)) f.source f.source_off,
      not_degenerate dst (omega (arith, f.least, f.count)) (omega (arith, f.source, f.count)) f.target_off,
    )

-- so the published Rust's two checks after its line tests refuse nothing, whatever refusal they reply
pub checks_refuse_nothing : (r : Refusal) (src dst : List Float) (room : ℕ) → first_refusal (design_conditions src dst room ++ (r when degenerate src) ∷ (r when degenerate dst) ∷ []) ≡ rows_refusal src dst room
checks_refuse_nothing r src dst room = refuses_no_more (design_conditions src dst room) ((r when degenerate src) ∷ (r when degenerate dst) ∷ []) (λ h. let f = normalised src dst room h in rw (f.0, f.1))

-- nor under any number
number_of_refusal_alone : (x : Result ⊤ Refusal) (n : ℕ) (src dst : List Float) → (x ≡ Ok tt → (degenerate src ≡ false) × (degenerate dst ≡ false)) → number_or (degenerate_number n src dst) x ≡ number_or 0 x
number_of_refusal_alone (Ok none) n src dst h = let f = h refl in simp (f.0, f.1)
number_of_refusal_alone (Err r) n src dst h = refl

pub checks_give_no_number : (n : ℕ) (src dst : List Float) (room : ℕ) → number_or (degenerate_number n src dst) (rows_refusal src dst room) ≡ number_or 0 (rows_refusal src dst room)
checks_give_no_number n src dst room = number_of_refusal_alone (rows_refusal src dst room) n src dst (normalised src dst room)

pub rows_normalised : RowsNormalised
rows_normalised = record {
  mean_above = mean_above;
  normalised = normalised;
  checks_refuse_nothing = checks_refuse_nothing;
  checks_give_no_number = checks_give_no_number;
  two_points = two_points;
  three_points = three_points;
}
