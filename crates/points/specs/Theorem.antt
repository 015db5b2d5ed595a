-- The theorems of points, as types. The comment on each part names the file that proves it. Definitions only.
use Rattle.std.specs.Prelude.{◌≡◌, false, cond, List, Float, true, [], ◌∷◌, ◌++◌, ℕ, ◌*◌, ◌≤◌, length, take, drop, Result, Ok, Err, ⊤}
use Rattle.std.specs.Float.Ieee.{lt, binary64, of_bits, le}
use Rattle.float.specs.Literals.{plus_zero}
use Rattle.camera.specs.declared.math.Pt2.{Pt2}
use Rattle.points.specs.Linalg.{mean_distance, epsilon, centroid_of, degenerate, similarity_of, move_points, normalize_refusal, normalize_into}
use Rattle.common.specs.declared.Refusal.{Refusal}
use Rattle.common.specs.Checks.{◌when◌, first_refusal}
use Rattle.common.specs.Number.{number_of}
use Rattle.points.specs.Line.{collinear_of}
use Rattle.points.specs.Rows.{design_conditions, rows_refusal, design_rows, rows_into}

-- ---- The mean distance is not below 0. `specs/MeanDistance.antt` proves it.

abbrev pub MeanNotBelow : Type 0
MeanNotBelow = (c : Pt2) (s : List Float) → lt (mean_distance c s) plus_zero ≡ false

-- ---- What normalising and writing design rows change, and that lists for which design rows are written can be
-- normalised, as types. `proofs/Front.antt` and `proofs/Spread.antt` prove them.

-- `to` is `from` with the numbers w in place of its first n
pub record Front (n : ℕ) (w from to : List Float) : Type 0 where
  pub written : take n to ≡ w
  pub kept : drop n to ≡ drop n from

-- exactly the front is written, and nothing where a call refuses
pub record FrontsRight : Type 0 where
  pub normalize_front : (s dst : List Float) → normalize_refusal s (length dst) ≡ Ok tt → Front (length s) (move_points (similarity_of s) s) dst (normalize_into s dst)
  pub normalize_refused : (s dst : List Float) (r : Refusal) → normalize_refusal s (length dst) ≡ Err r → normalize_into s dst ≡ dst
  pub rows_front : (src dst a : List Float) → rows_refusal src dst (length a) ≡ Ok tt
      → Front (9 * length src) (design_rows (similarity_of src) (similarity_of dst) src dst) a (rows_into src dst a)
  pub rows_refused : (src dst a : List Float) (r : Refusal) → rows_refusal src dst (length a) ≡ Err r → rows_into src dst a ≡ a

-- the number that a caller is told: the refusal's, or n where nothing is refused
abbrev pub number_or : ℕ → Result ⊤ Refusal → ℕ
number_or n (Ok none) = n
number_or n (Err r) = number_of r

-- what the published Rust's two checks after its line tests reply, if n is their number
abbrev pub degenerate_number : ℕ → List Float → List Float → ℕ
degenerate_number n src dst = cond (degenerate src) n (cond (degenerate dst) n 0)

-- points that aren't collinear can be normalised
pub record RowsNormalised : Type 0 where
  -- the mean distance of 3 to 400 points that aren't collinear, from any point, isn't at most 2^-52
  pub mean_above : (s : List Float) → 6 ≤ length s → length s ≤ 800 → (c : Pt2) → collinear_of s ≡ false → le (mean_distance c s) epsilon ≡ false
  -- lists that `design_rows` doesn't refuse can be normalised, the source points and the destination points alike
  pub normalised : (src dst : List Float) (room : ℕ) → rows_refusal src dst room ≡ Ok tt → (degenerate src ≡ false) × (degenerate dst ≡ false)
  -- so the published Rust's two checks after its line tests refuse nothing, whatever refusal they reply
  pub checks_refuse_nothing : (r : Refusal) (src dst : List Float) (room : ℕ)
      → first_refusal (design_conditions src dst room ++ (r when degenerate src) ∷ (r when degenerate dst) ∷ []) ≡ rows_refusal src dst room
  -- nor under a number that no refusal has, such as their own, 26
  pub checks_give_no_number : (n : ℕ) (src dst : List Float) (room : ℕ)
      → number_or (degenerate_number n src dst) (rows_refusal src dst room) ≡ number_or 0 (rows_refusal src dst room)
  -- two points in one place aren't collinear, and can't be normalised; these three points aren't collinear, and have a
  -- mean distance of at most 2^-9
  pub two_points : let s = plus_zero ∷ plus_zero ∷ plus_zero ∷ plus_zero ∷ [] in (collinear_of s ≡ false) × (degenerate s ≡ true)
  pub three_points :
      let a = of_bits binary64 0x3f58_9374_bc6a_7efa in
      let s = plus_zero ∷ plus_zero ∷ a ∷ plus_zero ∷ plus_zero ∷ a ∷ [] in
      (collinear_of s ≡ false) × (le (mean_distance (centroid_of s) s) (of_bits binary64 0x3f60_0000_0000_0000) ≡ true)
