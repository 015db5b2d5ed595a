-- Every typed tilt is tried: for each pair of typed tilts within the bound, by order alone, round 0's list has a seed with the base camera, or with one near it, whose tilts
-- are near the pair's, or near those of a pair that is near it. Nearness is the rule's own, on rounded differences. Assumes nothing.
use Rattle.std.specs.Prelude.{◌≡◌, true, Float}
use Rattle.std.proofs.Common.{ap, inl, inr, ⊎_elim}
use mathlib.Core.List.Memᴰ
use mathlib.Core.List.{List, [], ◌++◌, map, Memᴰ}
use Rattle.std.specs.Float.Ieee.{of_bits, neg, lt, le}
use Rattle.common.specs.Tests.{both_true}
use Rattle.float.specs.Float.{abs_of, is_finite, within}
use Rattle.float.specs.Finite.{finite_of_size_at_most_finite}
use Rattle.float.specs.Sign.{abs_sub_self}
use Rattle.camera.specs.declared.intrinsics.FxFyCxCy.{FxFyCxCy}
use Rattle.camera.specs.declared.sensor.ScheimpflugParams.{ScheimpflugParams}
use Rattle.seeds.specs.declared.CandidateSeed.{CandidateSeed}
use Rattle.seeds.specs.Merge.{keep}
use Rattle.seeds.proofs.MergeLaws.{mem_keep, merged_covers_each}
use Rattle.seeds.specs.Rules.{closer, tilt_limit, tilt_near, camera_near, near, in_bound, tilts, pairs, seed_with, seed_grid, initial_list}
use Rattle.float.proofs.Bound.{abs_at_most_by_order}
use Rattle.seeds.proofs.Facts.{pairs_mem, initial_in_bound, initial_list_le_512}
use Rattle.seeds.specs.Theorem.{Tried, TypedTilts}

-- ---- a number is near itself
finite_closer_to_itself : (x : Float) → is_finite x ≡ true → closer tilt_limit x x ≡ true
unfolding closer lt of_bits
finite_closer_to_itself x h = rw (abs_sub_self x h)

finite_tilts_near_themselves : (t : ScheimpflugParams) → is_finite t.tilt_x ≡ true → is_finite t.tilt_y ≡ true → tilt_near t t ≡ true
unfolding tilt_near
finite_tilts_near_themselves t x y = rw (finite_closer_to_itself t.tilt_x x, finite_closer_to_itself t.tilt_y y)

near_tilts_and_cameras : (s t : CandidateSeed) → near s t ≡ true → (tilt_near s.sensor t.sensor ≡ true) × (camera_near s.reference_k t.reference_k ≡ true)
unfolding near
near_tilts_and_cameras s t h = both_true (tilt_near s.sensor t.sensor) (camera_near s.reference_k t.reference_k) h

-- in size at most the bound
abs_le_bound : (max t : Float) → le (neg max) t ≡ true → le t max ≡ true → le (abs_of t) max ≡ true
abs_le_bound max t l h = rw (abs_at_most_by_order max t, l, h)

pub every_tilt_tried : (ds : List CandidateSeed) (xs ys : List Float) (base : FxFyCxCy) (max : Float) → is_finite max ≡ true
    → (x y : Float) → Memᴰ x xs → Memᴰ y ys → le (neg max) x ≡ true → le x max ≡ true → le (neg max) y ≡ true → le y max ≡ true
    → Tried (initial_list ds xs ys base max) (seed_grid xs ys max) base (tilts x y)
unfolding initial_list seed_grid in_bound within
every_tilt_tried ds xs ys base max f x y mx my lx hx ly hy =
    let t = tilts x y in
    let ax = abs_le_bound max x lx hx in
    let ay = abs_le_bound max y ly hy in
    let b : in_bound max t ≡ true = rw (ax, ay) in
    let first = merged_covers_each tilt_near [] (keep (in_bound max) (pairs xs ys)) (mem_keep (in_bound max) (pairs xs ys) (pairs_mem xs ys mx my) b) in
    let u = first.by in
    let close : tilt_near u t ≡ true = ⊎_elim (λ e. rw e (finite_tilts_near_themselves t (finite_of_size_at_most_finite x max f ax) (finite_of_size_at_most_finite y max f ay))) (λ n. n) first.nearby in
    let second = merged_covers_each near [] (ds ++ map (seed_with base) (seed_grid xs ys max)) (Memᴰ.append_right ds (Memᴰ.map (seed_with base) first.kept)) in
    record {
      seed = second.by;
      listed = second.kept;
      camera = ⊎_elim (λ e. inl (ap (λ (s : CandidateSeed). s.reference_k) e)) (λ n. inr (near_tilts_and_cameras second.by (seed_with base u) n).1) second.nearby;
      nearby = ⊎_elim (λ e. inl (rw e close)) (λ n. inr (u, first.kept, (near_tilts_and_cameras second.by (seed_with base u) n).0, close)) second.nearby;
    }

pub typed_tilts : TypedTilts
typed_tilts = record { every_tilt_tried = every_tilt_tried; initial_in_bound = initial_in_bound; initial_most = initial_list_le_512 }
