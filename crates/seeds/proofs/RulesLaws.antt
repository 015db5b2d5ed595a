-- Laws of the rules about seeds: how the lists of a round are made up part by part, and how long they are. Assumes nothing.
use Rattle.std.specs.Prelude.{◌≡◌, refl, List, [], ◌∷◌, ◌++◌, map, ℕ, suc, ◌+◌, ◌*◌, ◌≤◌, ◌<◌, length, get_or, take, Float}
use Rattle.std.proofs.Common.{ap, ◌∙◌, append_assoc, append-nil, arith, suc-mul, length-append, take-suc}
use Rattle.std.proofs.lemmas.List.{map-append, length-map}
use Rattle.std.specs.Float.{nan}
use Rattle.float.specs.Binary64.{◌+₆₄◌}
use Rattle.camera.specs.declared.intrinsics.FxFyCxCy.{FxFyCxCy}
use Rattle.camera.specs.declared.sensor.ScheimpflugParams.{ScheimpflugParams}
use Rattle.seeds.specs.declared.CandidateSeed.{CandidateSeed}
use Rattle.seeds.specs.Merge.{keep}
use Rattle.seeds.proofs.MergeLaws.{keep_append, keep_length, merged_into_length_le_sum}
use Rattle.seeds.specs.Rules.{tilt_near, near, in_bound, tilts, pairs, seed_with, items_within, seeds_within, seed_grid, initial_list, moved, next_list}

module _ {A : Type 0} (of : ScheimpflugParams → A) (max : Float) where
  pub entries_within_append : (ss ts : List ScheimpflugParams) → items_within of max (ss ++ ts) ≡ items_within of max ss ++ items_within of max ts
  entries_within_append ss ts = ap (map of) (keep_append (in_bound max) ss ts) ∙ map-append of (keep (in_bound max) ss) (keep (in_bound max) ts)

  pub entries_within_length_le : (ts : List ScheimpflugParams) → length (items_within of max ts) ≤ length ts
  entries_within_length_le ts = omega (arith, length-map (keep (in_bound max) ts) of, keep_length (in_bound max) ts)

pub pairs_append : (xs zs ys : List Float) → pairs (xs ++ zs) ys ≡ pairs xs ys ++ pairs zs ys
unfolding pairs
pairs_append [] zs ys = refl
pairs_append (x ∷ xs) zs ys = rw (pairs_append xs zs ys, append_assoc)

pub pairs_length : (xs ys : List Float) → length (pairs xs ys) ≡ length xs * length ys
unfolding pairs
pairs_length [] ys = omega arith
pairs_length (x ∷ xs) ys =
    omega (arith, length-append (map (tilts x) ys) (pairs xs ys), length-map ys (tilts x), pairs_length xs ys, suc-mul (length xs) (length ys))

pairs_of_one_x : (x : Float) (ys : List Float) → pairs (x ∷ []) ys ≡ map (tilts x) ys
unfolding pairs
pairs_of_one_x x ys = append-nil (map (tilts x) ys)

-- ---- one more number of an axis, typed or an offset: f gives its tilt
map_take_suc : {B : Type 0} (f : Float → B) (ds : List Float) (j : ℕ) → j < length ds → map f (take (suc j) ds) ≡ map f (take j ds) ++ (f (get_or ds j nan) ∷ [])
map_take_suc f ds j h = ap (map f) (take-suc ds j nan h) ∙ map-append f (take j ds) (get_or ds j nan ∷ [])

module _ {A : Type 0} (of : ScheimpflugParams → A) (max : Float) (f : Float → Float) where
  pub row_entries_take_suc : (x : Float) (ds : List Float) (j : ℕ) → j < length ds
      → items_within of max (map (tilts x) (map f (take (suc j) ds)))
      ≡ items_within of max (map (tilts x) (map f (take j ds))) ++ items_within of max (tilts x (f (get_or ds j nan)) ∷ [])
  row_entries_take_suc x ds j h =
      ap (λ (zs : List Float). items_within of max (map (tilts x) zs)) (map_take_suc f ds j h)
      ∙ ap (items_within of max) (map-append (tilts x) (map f (take j ds)) (f (get_or ds j nan) ∷ []))
      ∙ entries_within_append of max (map (tilts x) (map f (take j ds))) (tilts x (f (get_or ds j nan)) ∷ [])

  pub grid_entries_take_suc : (ds ys : List Float) (i : ℕ) → i < length ds
      → items_within of max (pairs (map f (take (suc i) ds)) ys)
      ≡ items_within of max (pairs (map f (take i ds)) ys) ++ items_within of max (map (tilts (f (get_or ds i nan))) ys)
  grid_entries_take_suc ds ys i h =
      let x = f (get_or ds i nan) in
      ap (λ (zs : List Float). items_within of max (pairs zs ys)) (map_take_suc f ds i h)
      ∙ ap (items_within of max) (pairs_append (map f (take i ds)) (x ∷ []) ys)
      ∙ entries_within_append of max (pairs (map f (take i ds)) ys) (pairs (x ∷ []) ys)
      ∙ ap (λ (zs : List ScheimpflugParams). items_within of max (pairs (map f (take i ds)) ys) ++ items_within of max zs) (pairs_of_one_x x ys)

-- ---- at most one seed for each pair
pub seed_grid_length_le : (xs ys : List Float) (max : Float) → length (seed_grid xs ys max) ≤ length xs * length ys
unfolding seed_grid
seed_grid_length_le xs ys max =
    omega (arith, merged_into_length_le_sum tilt_near [] (keep (in_bound max) (pairs xs ys)), keep_length (in_bound max) (pairs xs ys), pairs_length xs ys)

pub initial_list_length_le : (ds : List CandidateSeed) (xs ys : List Float) (base : FxFyCxCy) (max : Float)
    → length (initial_list ds xs ys base max) ≤ length ds + length xs * length ys
unfolding initial_list
initial_list_length_le ds xs ys base max =
    let g = map (seed_with base) (seed_grid xs ys max) in
    omega (arith, merged_into_length_le_sum near [] (ds ++ g), length-append ds g, length-map (seed_grid xs ys max) (seed_with base), seed_grid_length_le xs ys max)

pub next_list_length_le : (dxs dys : List Float) (centre : ScheimpflugParams) (camera : FxFyCxCy) (max : Float)
    → length (next_list dxs dys centre camera max) ≤ length dxs * length dys
unfolding next_list
next_list_length_le dxs dys centre camera max =
    let xs = moved centre.tilt_x dxs in
    let ys = moved centre.tilt_y dys in
    let ex : length xs ≡ length dxs = length-map dxs (λ d. centre.tilt_x +₆₄ d) in
    let ey : length ys ≡ length dys = length-map dys (λ d. centre.tilt_y +₆₄ d) in
    let e : length (pairs xs ys) ≡ length dxs * length dys = rw (ex, ey) at (pairs_length xs ys) in
    omega (arith, merged_into_length_le_sum near [] (seeds_within max camera (pairs xs ys)), entries_within_length_le (seed_with camera) max (pairs xs ys))
