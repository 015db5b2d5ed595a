-- The theorems on specs/AnyOffsets.antt: a later round's list over any two lists of offsets. Assumes nothing.
use Rattle.std.specs.Prelude.{◌≡◌, refl, Bool, true, false, ◌*◌, ◌≤◌, length, Float}
use Rattle.std.proofs.Common.{⊎_elim, arith}
use mathlib.Core.List.Memᴰ
use mathlib.Core.List.{List, [], Memᴰ}
use Rattle.float.specs.Binary64.{◌+₆₄◌}
use Rattle.float.specs.Literals.{plus_zero}
use Rattle.float.specs.Zero.{zero_plus_plus_zero}
use Rattle.camera.specs.declared.intrinsics.FxFyCxCy.{FxFyCxCy}
use Rattle.camera.specs.declared.sensor.ScheimpflugParams.{ScheimpflugParams}
use Rattle.seeds.specs.declared.CandidateSeed.{CandidateSeed}
use Rattle.seeds.specs.Theorem.{Covered}
use Rattle.seeds.proofs.MergeLaws.{mem_keep, merged_covers_each, merged_fresh}
use Rattle.seeds.specs.Rules.{near, in_bound, untilted_y, pairs, seed_with, seeds_within, offsets, y_offsets, moved, next_list}
use Rattle.seeds.proofs.RulesLaws.{next_list_length_le}
use Rattle.seeds.proofs.Facts.{pairs_mem, next_list_all, next_list_not_empty, zero_offset, zero_y_offset}
use Rattle.seeds.specs.AnyOffsets.{offset_seed, most_seeds}
use Rattle.seeds.specs.Theorem.{AtOffsets, ListOverOffsets, LaterLists}

offset_seeds_covered : (dxs dys : List Float) (centre : ScheimpflugParams) (camera : FxFyCxCy) (max dx dy : Float) → Memᴰ dx dxs → Memᴰ dy dys
    → in_bound max (offset_seed centre camera dx dy).sensor ≡ true → Covered near (next_list dxs dys centre camera max) (offset_seed centre camera dx dy)
unfolding next_list
offset_seeds_covered dxs dys centre camera max dx dy m n b =
    let xs = moved centre.tilt_x dxs in
    let ys = moved centre.tilt_y dys in
    merged_covers_each near [] (seeds_within max camera (pairs xs ys))
    (Memᴰ.map (seed_with camera) (mem_keep (in_bound max) (pairs xs ys) (pairs_mem xs ys (Memᴰ.map (λ d. centre.tilt_x +₆₄ d) m) (Memᴰ.map (λ d. centre.tilt_y +₆₄ d) n)) b))

pub any_offsets : (dxs dys : List Float) (centre : ScheimpflugParams) (camera : FxFyCxCy) (max : Float) → ListOverOffsets dxs dys centre camera max
unfolding next_list
any_offsets dxs dys centre camera max = record {
  few = next_list_length_le dxs dys centre camera max;
  made = next_list_all (AtOffsets dxs dys centre camera max) dxs dys centre camera max (λ dx dy m n b. record { dx = dx; dy = dy; is_dx = m; is_dy = n; seed_is = refl; is_in_bound = b });
  apart = λ before behind s e. merged_fresh near (seeds_within max camera (pairs (moved centre.tilt_x dxs) (moved centre.tilt_y dys))) before s behind e;
  all_tried = offset_seeds_covered dxs dys centre camera max;
}

pub most_seeds_le_nine : (one_axis : Bool) → most_seeds one_axis ≤ 9
most_seeds_le_nine true = omega arith
most_seeds_le_nine false = omega arith

offset_pairs_eq_most_seeds : (one_axis : Bool) (s : Float) → length (offsets s) * length (y_offsets one_axis s) ≡ most_seeds one_axis
unfolding offsets y_offsets
offset_pairs_eq_most_seeds true s = refl
offset_pairs_eq_most_seeds false s = refl

one_axis_y_offset_is_zero : (s : Float) {d : Float} → Memᴰ d (y_offsets true s) → d ≡ plus_zero
unfolding y_offsets
one_axis_y_offset_is_zero s m = ⊎_elim (λ e. e) (λ n. absurd (Memᴰ.not-nil n)) (Memᴰ.cases_cons m)

module _ (one_axis : Bool) (s : Float) (centre : ScheimpflugParams) (camera : FxFyCxCy) (max : Float) where
  pub list_over_run_offsets : ListOverOffsets (offsets s) (y_offsets one_axis s) centre camera max
  list_over_run_offsets = any_offsets (offsets s) (y_offsets one_axis s) centre camera max

  pub later_list_le_most_seeds : length (next_list (offsets s) (y_offsets one_axis s) centre camera max) ≤ most_seeds one_axis
  later_list_le_most_seeds = rw offset_pairs_eq_most_seeds at list_over_run_offsets.few

-- Around a centre that has no tilt about y, of either sign, a seed of a one-axis round has the tilt +0 there.
pub untilted_around : (dxs : List Float) (s : Float) (centre : ScheimpflugParams) (camera : FxFyCxCy) (max : Float) (t : CandidateSeed) → untilted_y centre ≡ true
    → AtOffsets dxs (y_offsets true s) centre camera max t → t.sensor.tilt_y ≡ plus_zero
unfolding untilted_y
untilted_around dxs s centre camera max t h a = rw (a.seed_is, one_axis_y_offset_is_zero s a.is_dy) (zero_plus_plus_zero centre.tilt_y h)

pub later_lists : LaterLists
later_lists = record {
  any_offsets = any_offsets;
  next_some = next_list_not_empty;
  zero_offset = zero_offset;
  zero_y_offset = zero_y_offset;
  round_few = later_list_le_most_seeds;
  untilted_around = untilted_around;
}
