-- With a bound of at most 0.5 and a step from 1e-11 to 1, a later round's list has exactly as many seeds as there are
-- admissible x tilts times admissible y tilts, in two-axis and in one-axis runs, around any centre and with any camera.
-- Both are instances of one law over any two lists of offsets, `exact_length` (Counts.antt). Assumes nothing.
use Rattle.std.specs.Prelude.{◌≡◌, Bool, true, false, [], ◌∷◌, length, Float}
use Rattle.std.specs.Float.Ieee.{lt, le}
use Rattle.float.specs.Float.{within}
use Rattle.float.specs.Literals.{plus_zero, half₆₄}
use Rattle.camera.specs.declared.intrinsics.FxFyCxCy.{FxFyCxCy}
use Rattle.camera.specs.declared.sensor.ScheimpflugParams.{ScheimpflugParams}
use Rattle.seeds.specs.Rules.{closer, tilt_limit, offsets, y_offsets, moved, next_list}
use Rattle.seeds.proofs.Unmerged.{keep_apart}
use Rattle.seeds.specs.Admissible.{admitted, seed_count, least_step, most_step}
use Rattle.seeds.specs.Theorem.{TiltsApart}
use Rattle.seeds.proofs.Counts.{exact_length}
use Rattle.seeds.proofs.Offsets.{step_from_bounds}
use Rattle.seeds.proofs.Anywhere.{admitted_offsets_apart}
use Rattle.seeds.proofs.Cases.{six_in_x, six_in_y, two_in_x, nine_by_half, far_admissible, far_merges, small_admissible, small_step_merges}
use Rattle.seeds.specs.Theorem.{ExactLength}

-- ---- the two lists of offsets that a run has: -s, 0, s, and 0 alone
three_offsets_apart : (max c s : Float) → lt half₆₄ max ≡ false → le least_step s ≡ true → le s most_step ≡ true → TiltsApart (admitted max c (offsets s))
three_offsets_apart max c s h l u = admitted_offsets_apart max c s h (step_from_bounds s l u)

one_offset_apart : (max c d : Float) → TiltsApart (admitted max c (d ∷ []))
unfolding admitted
one_offset_apart max c d = keep_apart (closer tilt_limit) (within max) (moved c (d ∷ [])) (tt, tt)

-- the offsets of tilt_y, in either kind of run
y_offsets_apart : (one_axis : Bool) (max c s : Float) → lt half₆₄ max ≡ false → le least_step s ≡ true → le s most_step ≡ true → TiltsApart (admitted max c (y_offsets one_axis s))
unfolding y_offsets
y_offsets_apart true max c s h l u = one_offset_apart max c plus_zero
y_offsets_apart false max c s h l u = three_offsets_apart max c s h l u

pub round_length : (one_axis : Bool) (s : Float) (centre : ScheimpflugParams) (camera : FxFyCxCy) (max : Float) → lt half₆₄ max ≡ false → le least_step s ≡ true → le s most_step ≡ true
    → length (next_list (offsets s) (y_offsets one_axis s) centre camera max) ≡ seed_count (offsets s) (y_offsets one_axis s) centre max
round_length one_axis s centre camera max h l u =
    exact_length (offsets s) (y_offsets one_axis s) centre camera max (three_offsets_apart max centre.tilt_x s h l u) (y_offsets_apart one_axis max centre.tilt_y s h l u)

pub list_length_is_exact : ExactLength
list_length_is_exact = record {
  exact_length = exact_length;
  round_length = round_length;
  six_in_x = six_in_x;
  six_in_y = six_in_y;
  two_in_x = two_in_x;
  nine_by_half = nine_by_half;
  far_admissible = far_admissible;
  far_merges = far_merges;
  small_admissible = small_admissible;
  small_step_merges = small_step_merges;
}
