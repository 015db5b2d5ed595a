-- Normalising and writing design rows change the front of the destination and nothing else, and nothing at all where
-- they refuse. Assumes nothing.
use Rattle.std.specs.Prelude.{◌≡◌, refl, false, List, [], ◌∷◌, ◌++◌, ℕ, ◌*◌, ◌/◌, ltb, length, drop, Float, Ok, Err}
use Rattle.std.proofs.Common.{sym, ◌∙◌, arith}
use Rattle.std.proofs.Math.Seq.{take-append_seam, drop-append_seam}
use Rattle.common.specs.declared.Refusal.{Refusal}
use Rattle.common.specs.declared.Refusal.TheVariants.{BadPoints, DestinationTooShort, Coincident}
use Rattle.common.specs.Checks.{◌when◌, first_refusal}
use Rattle.common.specs.ChecksLaws.{refuses_none}
use Rattle.points.specs.Points.{bad_points}
use Rattle.points.specs.Hartley.{accepted_length_is_even}
use Rattle.points.specs.Linalg.{degenerate, similarity_of, move_xy, move_points, normalize_refusal, normalize_into}
use Rattle.points.specs.Rows.{rows_refusal, design_rows, rows_into}
use Rattle.points.specs.Walk.{each_length}
use Rattle.points.specs.RowsLaws.{accepted_lists, rows_length}
use Rattle.points.specs.Theorem.{Front, FrontsRight}

front_of_written : (n : ℕ) (w d : List Float) → length w ≡ n → Front n w d (w ++ drop (length w) d)
front_of_written n w d e = rw (sym e) (record { written = take-append_seam w (drop (length w) d); kept = drop-append_seam w (drop (length w) d) })

-- a length that isn't refused is twice its half
twice_half_of_accepted_length : (n : ℕ) → bad_points n ≡ false → n / 2 * 2 ≡ n
twice_half_of_accepted_length n h = let z = accepted_length_is_even n h in omega arith

-- ---- normalising
pub normalize_front : (s dst : List Float) → normalize_refusal s (length dst) ≡ Ok tt → Front (length s) (move_points (similarity_of s) s) dst (normalize_into s dst)
unfolding normalize_refusal normalize_into
normalize_front s dst h =
    let b = refuses_none (bad_points (length s)) BadPoints (first_refusal ((DestinationTooShort when ltb (length dst) (length s)) ∷ (Coincident when degenerate s) ∷ [])) h in
    rw (h, normalize_into) (front_of_written (length s) (move_points (similarity_of s) s) dst (each_length (move_xy (similarity_of s)) 2 (λ p. refl) s ∙ twice_half_of_accepted_length (length s) b.0))

pub normalize_refused : (s dst : List Float) (r : Refusal) → normalize_refusal s (length dst) ≡ Err r → normalize_into s dst ≡ dst
unfolding normalize_into
normalize_refused s dst r h = rw (h, normalize_into)

-- ---- design rows
pub rows_front : (src dst a : List Float) → rows_refusal src dst (length a) ≡ Ok tt
    → Front (9 * length src) (design_rows (similarity_of src) (similarity_of dst) src dst) a (rows_into src dst a)
unfolding rows_into
rows_front src dst a h =
    let room = length a in
    let f = accepted_lists src dst room h in
    let e = twice_half_of_accepted_length (length src) f.even in
    let n = rows_length (similarity_of src) (similarity_of dst) src dst f.count in
    rw (h, rows_into) (front_of_written (9 * length src) (design_rows (similarity_of src) (similarity_of dst) src dst) a (omega arith))

pub rows_refused : (src dst a : List Float) (r : Refusal) → rows_refusal src dst (length a) ≡ Err r → rows_into src dst a ≡ a
unfolding rows_into
rows_refused src dst a r h = rw (h, rows_into)

pub fronts_right : FrontsRight
fronts_right = record { normalize_front = normalize_front; normalize_refused = normalize_refused; rows_front = rows_front; rows_refused = rows_refused }
