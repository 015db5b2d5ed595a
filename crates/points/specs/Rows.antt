-- The rows of the homography's design matrix, for points normalised as in Hartley's method. Definitions only.
use Rattle.std.specs.Prelude.{ℕ, ◌*◌, Bool, not, List, [], ◌∷◌, ◌++◌, eqb, ltb, length, drop, Float, Result, Ok, Err, ⊤}
use Rattle.std.specs.Float.Ieee.{neg}
use Rattle.std.specs.List.{list_all}
use Rattle.common.specs.declared.Refusal.{Refusal}
use Rattle.common.specs.declared.Refusal.TheVariants.{BadPoints, DestinationTooShort, SourceNotFinite, DestinationNotFinite, TooFewPoints, CountsDiffer, SourceCollinear, DestinationCollinear}
use Rattle.common.specs.Checks.{Check, ◌when◌, first_refusal}
use Rattle.float.specs.Binary64.{◌*₆₄◌}
use Rattle.float.specs.Float.{is_finite}
use Rattle.float.specs.Literals.{plus_zero, one₆₄}
use Rattle.camera.specs.declared.math.Pt2.{Pt2}
use Rattle.points.specs.declared.linalg.Similarity.{Similarity}
use Rattle.points.specs.Points.{each_pair, bad_points}
use Rattle.points.specs.Linalg.{move_by, similarity_of}
use Rattle.points.specs.Line.{collinear_of}

abbrev pub all_finite : List Float → Bool
all_finite s = list_all is_finite s

-- -1
abbrev pub minus_one : Float
minus_one = neg one₆₄

-- The rows of (x, y), which the homography maps to (u, v): (-x, -y, -1, 0, 0, 0, u x, u y, u) and (0, 0, 0, -x, -y, -1,
-- v x, v y, v).
abbrev pub first_row : Pt2 → Pt2 → List Float
first_row p q =
    neg p.x
    ∷ neg p.y
    ∷ minus_one
    ∷ plus_zero
    ∷ plus_zero
    ∷ plus_zero
    ∷ q.x *₆₄ p.x
    ∷ q.x *₆₄ p.y
    ∷ q.x
    ∷ []

abbrev pub second_row : Pt2 → Pt2 → List Float
second_row p q =
    plus_zero
    ∷ plus_zero
    ∷ plus_zero
    ∷ neg p.x
    ∷ neg p.y
    ∷ minus_one
    ∷ q.y *₆₄ p.x
    ∷ q.y *₆₄ p.y
    ∷ q.y
    ∷ []

unfoldable pub pair_rows : Pt2 → Pt2 → List Float
pair_rows p q = first_row p q ++ second_row p q

-- pair after pair, each point moved by its list's similarity
abbrev pub moved_rows : Similarity → Similarity → Pt2 → Pt2 → List Float
moved_rows ts td p q = pair_rows (move_by ts p) (move_by td q)

abbrev pub design_rows : Similarity → Similarity → List Float → List Float → List Float
design_rows ts td src dst = each_pair (moved_rows ts td) src dst

-- ---- the refusals: a bad length of either list; less room than 18 numbers a source point; a number that isn't finite;
-- fewer than 4 source points; counts that differ; collinear points
abbrev pub point_conditions : List Float → List Float → List Check
point_conditions src dst =
    (TooFewPoints when ltb (length src) 8)
    ∷ (CountsDiffer when not (eqb (length dst) (length src)))
    ∷ (SourceCollinear when collinear_of src)
    ∷ (DestinationCollinear when collinear_of dst)
    ∷ []

abbrev pub design_conditions : List Float → List Float → ℕ → List Check
design_conditions src dst room =
    (BadPoints when bad_points (length src))
    ∷ (BadPoints when bad_points (length dst))
    ∷ (DestinationTooShort when ltb room (9 * length src))
    ∷ (SourceNotFinite when not (all_finite src))
    ∷ (DestinationNotFinite when not (all_finite dst))
    ∷ point_conditions src dst

abbrev pub rows_refusal : List Float → List Float → ℕ → Result ⊤ Refusal
rows_refusal src dst room = first_refusal (design_conditions src dst room)

unfoldable pub rows_reply : List Float → List Float → ℕ → Result ⊤ Refusal
unfolding collinear_of
rows_reply src dst room = rows_refusal src dst room

-- the rows at the front, and the rest as it was; nothing is written on a refusal
unfoldable pub rows_into : List Float → List Float → List Float → List Float
unfolding collinear_of similarity_of
rows_into src dst a =
    let w = design_rows (similarity_of src) (similarity_of dst) src dst in elim (rows_refusal src dst (length a)) [ Ok _ ↦ w ++ drop (length w) a | Err _ ↦ a ]
