-- How long a later round's list is, for any two lists of offsets: the admissible x tilts times the admissible y tilts, where no two of either are near. Assumes nothing.
use Rattle.std.specs.Prelude.{◌≡◌, refl, false, ◌&&◌, cond, Float}
use Rattle.std.proofs.Math.Path.{ap}
use Rattle.std.proofs.Common.{◌∙◌}
use Rattle.std.proofs.Math.Bool.{and-false}
use mathlib.Core.List.{List, [], ◌∷◌, ◌++◌, map}
use Rattle.std.proofs.Math.ListN.{length, length-map}
use Rattle.common.specs.Each.{All}
use Rattle.common.specs.All.{all_append, all_mapped}
use Rattle.common.specs.Tests.{case}
use Rattle.float.specs.Float.{within}
use Rattle.camera.specs.declared.intrinsics.FxFyCxCy.{FxFyCxCy}
use Rattle.camera.specs.declared.sensor.ScheimpflugParams.{ScheimpflugParams}
use Rattle.seeds.specs.Merge.{keep, merged}
use Rattle.seeds.proofs.MergeLaws.{keep_append}
use Rattle.seeds.specs.Rules.{closer, tilt_limit, tilt_near, near, in_bound, tilts, pairs, seed_with, moved, next_list}
use Rattle.seeds.proofs.RulesLaws.{pairs_length}
use Rattle.seeds.specs.Theorem.{Apart}
use Rattle.seeds.proofs.Unmerged.{merged_of_apart, append_apart, map_apart}
use Rattle.seeds.specs.Admissible.{admitted, seed_count}
use Rattle.seeds.specs.Theorem.{TiltsApart}

-- ---- those of all pairs that lie within the bound are the pairs of those that do
row_within_bound : (max x : Float) (ys : List Float) → keep (in_bound max) (map (tilts x) ys) ≡ cond (within max x) (map (tilts x) (keep (within max) ys)) []
unfolding keep in_bound
row_within_bound max x [] = case (within max x) (λ e. rw e) (λ e. rw e)
row_within_bound max x (y ∷ ys) =
    let r = row_within_bound max x ys in
    case (within max x)
    (λ e. case (within max y) (λ f. simp (e, f) (ap (λ (l : List ScheimpflugParams). tilts x y ∷ l) (simp e at r))) (λ f. simp (e, f) (simp e at r)))
    (λ e. simp e (simp e at r))

pairs_within_bound : (max : Float) (xs ys : List Float) → keep (in_bound max) (pairs xs ys) ≡ pairs (keep (within max) xs) (keep (within max) ys)
unfolding pairs keep
pairs_within_bound max [] ys = refl
pairs_within_bound max (x ∷ xs) ys =
    let r = pairs_within_bound max xs ys in
    keep_append (in_bound max) (map (tilts x) ys) (pairs xs ys)
    ∙ ap (λ (l : List ScheimpflugParams). l ++ keep (in_bound max) (pairs xs ys)) (row_within_bound max x ys)
    ∙ case (within max x) (λ e. simp (e, r)) (λ e. simp (e, r))

-- ---- pairs of tilts that are apart are apart
row_pairs_not_near : (x y : Float) (xs ys : List Float) → All (λ z. closer tilt_limit x z ≡ false) xs → All (λ t. tilt_near (tilts x y) t ≡ false) (pairs xs ys)
unfolding pairs tilt_near
row_pairs_not_near x y [] ys h = tt
row_pairs_not_near x y (z ∷ xs) ys h =
    all_append (λ t. tilt_near (tilts x y) t ≡ false) (map (tilts z) ys) (pairs xs ys)
    (all_mapped (tilts z) (λ t. tilt_near (tilts x y) t ≡ false) ys (every ys)) (row_pairs_not_near x y xs ys h.1)
  where
    every : (l : List Float) → All (λ w. (closer tilt_limit x z && closer tilt_limit y w) ≡ false) l
    every [] = tt
    every (w ∷ l) = (rw h.0, every l)

pairs_apart : (xs ys : List Float) → TiltsApart xs → TiltsApart ys → Apart tilt_near (pairs xs ys)
unfolding pairs tilt_near
pairs_apart [] ys a b = tt
pairs_apart (x ∷ xs) ys a b =
    append_apart tilt_near (map (tilts x) ys) (pairs xs ys)
    (map_apart (closer tilt_limit) tilt_near (tilts x) (λ y z h. rw h (and-false (closer tilt_limit x x))) ys b)
    (pairs_apart xs ys a.1 b)
    (all_mapped (tilts x) (λ s. All (λ t. tilt_near s t ≡ false) (pairs xs ys)) ys (every ys))
  where
    every : (l : List Float) → All (λ y. All (λ t. tilt_near (tilts x y) t ≡ false) (pairs xs ys)) l
    every [] = tt
    every (y ∷ l) = (row_pairs_not_near x y xs ys a.0, every l)

-- ---- the list and its length, whatever the camera's four numbers are; what the bound drops needn't be apart
module _ (dxs dys : List Float) (centre : ScheimpflugParams) (camera : FxFyCxCy) (max : Float) where
  next_list_of_apart_offsets : TiltsApart (admitted max centre.tilt_x dxs) → TiltsApart (admitted max centre.tilt_y dys)
      → next_list dxs dys centre camera max ≡ map (seed_with camera) (pairs (admitted max centre.tilt_x dxs) (admitted max centre.tilt_y dys))
  unfolding next_list admitted near
  next_list_of_apart_offsets a b =
      let xs = admitted max centre.tilt_x dxs in
      let ys = admitted max centre.tilt_y dys in
      ap (λ (ts : List ScheimpflugParams). merged near (map (seed_with camera) ts)) (pairs_within_bound max (moved centre.tilt_x dxs) (moved centre.tilt_y dys))
      ∙ merged_of_apart near (map (seed_with camera) (pairs xs ys))
      (map_apart tilt_near near (seed_with camera) (λ s t h. rw h) (pairs xs ys) (pairs_apart xs ys a b))

  pub exact_length : TiltsApart (admitted max centre.tilt_x dxs) → TiltsApart (admitted max centre.tilt_y dys)
      → length (next_list dxs dys centre camera max) ≡ seed_count dxs dys centre max
  unfolding seed_count
  exact_length a b =
      let xs = admitted max centre.tilt_x dxs in
      let ys = admitted max centre.tilt_y dys in
      ap length (next_list_of_apart_offsets a b) ∙ length-map (pairs xs ys) (seed_with camera) ∙ pairs_length xs ys
