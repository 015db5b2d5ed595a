-- What is known of lists that `design_rows` doesn't refuse, and how rows are written, pair by pair. Assumes nothing.
use Rattle.std.specs.Prelude.{◌≡◌, refl, false, not, List, ℕ, ◌+◌, ◌*◌, ◌/◌, ◌≤◌, ◌<◌, eqb, ltb, length, drop, Float, Result, Ok, ⊤}
use Rattle.std.proofs.Common.{sym, ap, ◌∙◌, arith}
use borrow.Author.Tests.{ltb-false, eqb-true, not-false}
use Rattle.std.proofs.lemmas.List.Edits.{sets}
use Rattle.common.specs.declared.Refusal.{Refusal}
use Rattle.common.specs.declared.Refusal.TheVariants.{BadPoints, DestinationTooShort, SourceNotFinite, DestinationNotFinite, TooFewPoints, CountsDiffer, SourceCollinear, DestinationCollinear}
use Rattle.common.specs.Checks.{first_refusal}
use Rattle.common.specs.ChecksLaws.{refuses_none}
use Rattle.camera.specs.declared.math.Pt2.{Pt2}
use Rattle.points.specs.declared.linalg.Similarity.{Similarity}
use Rattle.points.specs.Points.{bad_points}
use Rattle.camera.specs.Math.{point_at}
use Rattle.points.specs.Linalg.{move_by}
use Rattle.points.specs.Hartley.{accepted_length_at_most_800}
use Rattle.points.specs.Line.{collinear_of}
use Rattle.points.specs.Rows.{all_finite, pair_rows, moved_rows, design_rows, design_conditions, rows_refusal}
use Rattle.points.specs.Walk.{pair_next, pair_length, sets_append}

pair_rows_length : (p q : Pt2) → length (pair_rows p q) ≡ 18
unfolding pair_rows
pair_rows_length p q = refl

module _ (ts td : Similarity) where
  pub rows_length : (src dst : List Float) → length dst ≡ length src → length (design_rows ts td src dst) ≡ length src / 2 * 18
  rows_length = pair_length (moved_rows ts td) 18 (λ p q. pair_rows_length (move_by ts p) (move_by td q))

  -- one pair further
  pub rows_next : (src dst a : List Float) (i : ℕ) → i + 1 < length src → i + 1 < length dst
      → sets (sets a (9 * i) (moved_rows ts td (point_at src i) (point_at dst i))) (9 * (i + 2)) (design_rows ts td (drop (i + 2) src) (drop (i + 2) dst)) ≡ sets a (9 * i) (design_rows ts td (drop i src) (drop i dst))
  rows_next src dst a i h k =
      let v = moved_rows ts td (point_at src i) (point_at dst i) in
      let w = design_rows ts td (drop (i + 2) src) (drop (i + 2) dst) in
      let n : length v ≡ 18 = pair_rows_length (move_by ts (point_at src i)) (move_by td (point_at dst i)) in
      let e : 9 * (i + 2) ≡ 9 * i + length v = omega arith in
      ap (λ (j : ℕ). sets (sets a (9 * i) v) j w) e ∙ sym (sets_append a (9 * i) v w) ∙ ap (sets a (9 * i)) (sym (pair_next (moved_rows ts td) src dst i h k))

-- ---- what is known of the lists where nothing is refused
pub record Accepted (src dst : List Float) (room : ℕ) : Type 0 where
  pub even : bad_points (length src) ≡ false
  pub source : length src ≤ 800
  pub least : 8 ≤ length src
  pub count : length dst ≡ length src
  pub space : 9 * length src ≤ room
  pub source_off : collinear_of src ≡ false
  pub target_off : collinear_of dst ≡ false

pub accepted_lists : (src dst : List Float) (room : ℕ) → rows_refusal src dst room ≡ Ok tt → Accepted src dst room
accepted_lists src dst room h0 =
    let h1 = refuses_none (bad_points (length src)) BadPoints (from 1) h0 in
    let h2 = refuses_none (bad_points (length dst)) BadPoints (from 2) h1.1 in
    let h3 = refuses_none (ltb room (9 * length src)) DestinationTooShort (from 3) h2.1 in
    let h4 = refuses_none (not (all_finite src)) SourceNotFinite (from 4) h3.1 in
    let h5 = refuses_none (not (all_finite dst)) DestinationNotFinite (from 5) h4.1 in
    let h6 = refuses_none (ltb (length src) 8) TooFewPoints (from 6) h5.1 in
    let h7 = refuses_none (not (eqb (length dst) (length src))) CountsDiffer (from 7) h6.1 in
    let h8 = refuses_none (collinear_of src) SourceCollinear (from 8) h7.1 in
    let h9 = refuses_none (collinear_of dst) DestinationCollinear (from 9) h8.1 in
    record {
      even = h1.0;
      source = accepted_length_at_most_800 (length src) h1.0;
      least = ltb-false (length src) 8 h6.0;
      count = eqb-true (length dst) (length src) (not-false (eqb (length dst) (length src)) h7.0);
      space = ltb-false room (9 * length src) h3.0;
      source_off = h8.0;
      target_off = h9.0;
    }
  where
    from : ℕ → Result ⊤ Refusal
    from k = first_refusal (drop k (design_conditions src dst room))
