-- Round 0's list prefers no sign: with every tilt of Start's inputs negated, the typed ones and those of the
-- decomposition seeds, it is the same list with each tilt negated. This holds of round 0's list alone: from round 1 on
-- the offsets come in the order -s, 0, s, and of equal scores the earlier one wins. Assumes nothing.
use Rattle.std.specs.Prelude.{◌≡◌, refl, Bool, ◌&&◌, List, [], ◌∷◌, ◌++◌, map, Float}
use Rattle.std.proofs.Common.{sym, ap, ◌∙◌}
use Rattle.std.proofs.lemmas.List.{map-append}
use Rattle.std.specs.Float.{binary64}
use Rattle.std.specs.Float.Ieee.{neg, lt}
use Rattle.float.specs.Float.{within}
use Rattle.float.specs.Sign.{abs_neg, abs_sub_neg}
use Rattle.camera.specs.declared.intrinsics.FxFyCxCy.{FxFyCxCy}
use Rattle.camera.specs.declared.sensor.ScheimpflugParams.{ScheimpflugParams}
use Rattle.seeds.specs.declared.CandidateSeed.{CandidateSeed}
use Rattle.seeds.specs.Merge.{keep, merged}
use Rattle.seeds.proofs.MergeLaws.{keep_map, merged_into_map}
use Rattle.seeds.specs.Rules.{closer, tilt_limit, tilt_near, camera_near, near, in_bound, tilts, pairs, seed_with, seed_grid, initial_list}
use Rattle.seeds.specs.Theorem.{opposite, mirrored}

-- ---- nearness and the bound prefer no sign
closer_neg : (limit x y : Float) → closer limit (neg x) (neg y) ≡ closer limit x y
unfolding closer
closer_neg limit x y = ap (λ (d : Float). lt d limit) (abs_sub_neg binary64 x y)

near_opposite : (s t : ScheimpflugParams) → tilt_near (opposite s) (opposite t) ≡ tilt_near s t
unfolding tilt_near
near_opposite s t = rw (closer_neg tilt_limit s.tilt_x t.tilt_x, closer_neg tilt_limit s.tilt_y t.tilt_y)

near_mirrored : (s t : CandidateSeed) → near (mirrored s) (mirrored t) ≡ near s t
unfolding near
near_mirrored s t = ap (λ (b : Bool). b && camera_near s.reference_k t.reference_k) (near_opposite s.sensor t.sensor)

bound_opposite : (max : Float) (t : ScheimpflugParams) → in_bound max (opposite t) ≡ in_bound max t
unfolding in_bound within
bound_opposite max t = rw (abs_neg t.tilt_x, abs_neg t.tilt_y)

-- ---- the grid
map_map : {A B C D : Type 0} (f : A → B) (g : B → D) (h : A → C) (k : C → D) → ((a : A) → g (f a) ≡ k (h a)) → (xs : List A) → map g (map f xs) ≡ map k (map h xs)
map_map f g h k e [] = refl
map_map f g h k e (x ∷ xs) = rw (e x, map_map f g h k e xs)

pairs_opposite : (xs ys : List Float) → pairs (map neg xs) (map neg ys) ≡ map opposite (pairs xs ys)
unfolding pairs
pairs_opposite [] ys = refl
pairs_opposite (x ∷ xs) ys =
    ap (λ (r : List ScheimpflugParams). map (tilts (neg x)) (map neg ys) ++ r) (pairs_opposite xs ys)
    ∙ ap (λ (r : List ScheimpflugParams). r ++ map opposite (pairs xs ys)) (map_map neg (tilts (neg x)) (tilts x) opposite (λ y. refl) ys)
    ∙ sym (map-append opposite (map (tilts x) ys) (pairs xs ys))

grid_opposite : (xs ys : List Float) (max : Float) → seed_grid (map neg xs) (map neg ys) max ≡ map opposite (seed_grid xs ys max)
unfolding seed_grid
grid_opposite xs ys max =
    ap (λ (ts : List ScheimpflugParams). merged tilt_near (keep (in_bound max) ts)) (pairs_opposite xs ys)
    ∙ ap (merged tilt_near) (keep_map (in_bound max) opposite (bound_opposite max) (pairs xs ys))
    ∙ merged_into_map tilt_near opposite near_opposite [] (keep (in_bound max) (pairs xs ys))

-- ---- round 0's list of the negated seeds is the negated list
pub initial_list_negated : (ds : List CandidateSeed) (xs ys : List Float) (base : FxFyCxCy) (max : Float)
    → initial_list (map mirrored ds) (map neg xs) (map neg ys) base max ≡ map mirrored (initial_list ds xs ys base max)
unfolding initial_list
initial_list_negated ds xs ys base max =
    let g = seed_grid xs ys max in
    ap (λ (ts : List ScheimpflugParams). merged near (map mirrored ds ++ map (seed_with base) ts)) (grid_opposite xs ys max)
    ∙ ap (λ (ss : List CandidateSeed). merged near (map mirrored ds ++ ss)) (map_map opposite (seed_with base) (seed_with base) mirrored (λ t. refl) g)
    ∙ ap (merged near) (sym (map-append mirrored ds (map (seed_with base) g)))
    ∙ merged_into_map near mirrored near_mirrored [] (ds ++ map (seed_with base) g)
