-- What holds of every seed of a round's list, for those who use the rules: where it comes from, that it lies within the bound, how many there are, and that a later
-- round's list around a centre within the bound has one. Assumes nothing.
use Rattle.std.specs.Prelude.{◌≡◌, refl, Bool, true, false, ◌+◌, ◌≤◌, ◌<◌, T, length, Float}
use Rattle.std.proofs.Common.{ap, ⊎_elim, mul-le-mul, arith}
use mathlib.Core.List.Memᴰ
use mathlib.Core.List.{List, [], ◌∷◌, ◌++◌, map, Memᴰ}
use Rattle.std.specs.Float.{binary64}
use Rattle.std.specs.Float.Ieee.{fits, le}
use Rattle.common.specs.All.{all_append, all_map, all_mapped}
use Rattle.common.specs.Each.{All}
use Rattle.float.specs.Float.{within}
use Rattle.float.specs.Binary64.{◌+₆₄◌}
use Rattle.float.specs.Sign.{abs_add_zero}
use Rattle.float.specs.Literals.{plus_zero}
use Rattle.camera.specs.declared.intrinsics.FxFyCxCy.{FxFyCxCy}
use Rattle.camera.specs.declared.sensor.ScheimpflugParams.{ScheimpflugParams}
use Rattle.seeds.specs.declared.CandidateSeed.{CandidateSeed}
use Rattle.seeds.specs.Merge.{keep}
use Rattle.seeds.proofs.MergeLaws.{keep_all, mem_keep, all_after_merging, merged_covers_each}
use Rattle.seeds.specs.Rules.{near, tilt_near, in_bound, tilts, pairs, seed_with, seeds_within, seed_grid, initial_list, offsets, y_offsets, moved, next_list}
use Rattle.seeds.proofs.RulesLaws.{initial_list_length_le}

-- ---- lists in general
all_from_members : {A : Type 0} (P : A → Type 0) (xs : List A) → ((x : A) → Memᴰ x xs → P x) → All P xs
all_from_members P [] f = tt
all_from_members P (x ∷ xs) f = (f x (Memᴰ.head refl), all_from_members P xs (λ z m. f z (Memᴰ.tail m)))

length_positive_of_member : {A : Type 0} {x : A} (xs : List A) → Memᴰ x xs → 0 < length xs
length_positive_of_member [] m = absurd (Memᴰ.not-nil m)
length_positive_of_member (x ∷ xs) m = omega arith

-- ---- the pairs of two lists
all_pairs_from_members : (P : ScheimpflugParams → Type 0) (xs ys : List Float)
    → ((x y : Float) → Memᴰ x xs → Memᴰ y ys → P (tilts x y)) → All P (pairs xs ys)
unfolding pairs
all_pairs_from_members P [] ys f = tt
all_pairs_from_members P (x ∷ xs) ys f =
    all_append P (map (tilts x) ys) (pairs xs ys)
    (all_mapped (tilts x) P ys (all_from_members (λ y. P (tilts x y)) ys (λ y m. f x y (Memᴰ.head refl) m)))
    (all_pairs_from_members P xs ys (λ z y m n. f z y (Memᴰ.tail m) n))

pub pairs_mem : (xs ys : List Float) {x y : Float} → Memᴰ x xs → Memᴰ y ys → Memᴰ (tilts x y) (pairs xs ys)
unfolding pairs
pairs_mem [] ys m n = absurd (Memᴰ.not-nil m)
pairs_mem (z ∷ xs) ys {x} {y} m n =
    ⊎_elim
    (λ e. Memᴰ.append_left {s = map (tilts z) ys} (pairs xs ys) (rw e (Memᴰ.map (tilts z) n)))
    (λ t. Memᴰ.append_right (map (tilts z) ys) (pairs_mem xs ys t n))
    (Memᴰ.cases_cons m)

-- ---- round 0's list
-- What holds of the decomposition's seeds, and of each pair of typed tilts within the bound with the base camera, holds of the whole list.
pub initial_list_all : (P : CandidateSeed → Type 0) (ds : List CandidateSeed) (xs ys : List Float) (base : FxFyCxCy) (max : Float) → All P ds
    → ((x y : Float) → Memᴰ x xs → Memᴰ y ys → in_bound max (tilts x y) ≡ true → P (seed_with base (tilts x y)))
    → All P (initial_list ds xs ys base max)
unfolding initial_list seed_grid
initial_list_all P ds xs ys base max h f =
    let Q : ScheimpflugParams → Type 0 = λ t. P (seed_with base t) in
    let R : ScheimpflugParams → Type 0 = λ t. in_bound max t ≡ true → Q t in
    let kept : All Q (keep (in_bound max) (pairs xs ys)) =
    all_map (λ t. R t × (in_bound max t ≡ true)) Q (λ t r. r.0 r.1) (keep (in_bound max) (pairs xs ys))
    (keep_all R (in_bound max) (pairs xs ys) (all_pairs_from_members R xs ys f))
    in
    all_after_merging near P [] (ds ++ map (seed_with base) (seed_grid xs ys max)) tt
    (all_append P ds (map (seed_with base) (seed_grid xs ys max)) h
    (all_mapped (seed_with base) P (seed_grid xs ys max) (all_after_merging tilt_near Q [] (keep (in_bound max) (pairs xs ys)) tt kept)))

-- Every seed lies within the bound, if the decomposition's do.
pub initial_in_bound : (ds : List CandidateSeed) (xs ys : List Float) (base : FxFyCxCy) (max : Float)
    → All (λ s. in_bound max s.sensor ≡ true) ds → All (λ s. in_bound max s.sensor ≡ true) (initial_list ds xs ys base max)
initial_in_bound ds xs ys base max h = initial_list_all (λ s. in_bound max s.sensor ≡ true) ds xs ys base max h (λ x y m n b. b)

-- With at most 256 seeds of the decomposition and 16 typed tilts for each axis there are at most 256 + 256.
pub initial_list_le_512 : (ds : List CandidateSeed) (xs ys : List Float) (base : FxFyCxCy) (max : Float)
    → length ds ≤ 256 → length xs ≤ 16 → length ys ≤ 16 → length (initial_list ds xs ys base max) ≤ 256 + 256
initial_list_le_512 ds xs ys base max d x y = omega (arith, initial_list_length_le ds xs ys base max, mul-le-mul x y)

-- ---- a later round's list
-- What holds of the centre moved by each pair of offsets, within the bound and with the camera, holds of the whole list.
pub next_list_all : (P : CandidateSeed → Type 0) (dxs dys : List Float) (centre : ScheimpflugParams) (camera : FxFyCxCy) (max : Float)
    → ((dx dy : Float) → Memᴰ dx dxs → Memᴰ dy dys
    → in_bound max (tilts (centre.tilt_x +₆₄ dx) (centre.tilt_y +₆₄ dy)) ≡ true → P (seed_with camera (tilts (centre.tilt_x +₆₄ dx) (centre.tilt_y +₆₄ dy))))
    → All P (next_list dxs dys centre camera max)
unfolding next_list
next_list_all P dxs dys centre camera max f =
    let Q : ScheimpflugParams → Type 0 = λ t. P (seed_with camera t) in
    let R : ScheimpflugParams → Type 0 = λ t. in_bound max t ≡ true → Q t in
    let xs = moved centre.tilt_x dxs in
    let ys = moved centre.tilt_y dys in
    let kept : All Q (keep (in_bound max) (pairs xs ys)) =
    all_map (λ t. R t × (in_bound max t ≡ true)) Q (λ t r. r.0 r.1) (keep (in_bound max) (pairs xs ys))
    (keep_all R (in_bound max) (pairs xs ys) (all_pairs_from_members R xs ys (λ x y m n.
    let p = Memᴰ.of_map (λ d. centre.tilt_x +₆₄ d) dxs m in
    let q = Memᴰ.of_map (λ d. centre.tilt_y +₆₄ d) dys n in
    rw (p.2, q.2) at (f p.0 q.0 p.1 q.1))))
    in
    all_after_merging near P [] (seeds_within max camera (pairs xs ys)) tt (all_mapped (seed_with camera) P (keep (in_bound max) (pairs xs ys)) kept)

-- Where 0 is among the offsets of each axis, a list around a centre within the bound has a seed: the centre plus 0 is within the bound too.
pub zero_offset : (s : Float) → Memᴰ plus_zero (offsets s)
unfolding offsets
zero_offset s = Memᴰ.tail (Memᴰ.head refl)

pub zero_y_offset : (one_axis : Bool) (s : Float) → Memᴰ plus_zero (y_offsets one_axis s)
unfolding y_offsets
zero_y_offset true s = Memᴰ.head refl
zero_y_offset false s = zero_offset s

within_after_adding_zero : (max t : Float) → T (fits binary64 t) → within max (t +₆₄ plus_zero) ≡ within max t
unfolding within
within_after_adding_zero max t h = ap (λ (x : Float). le x max) (abs_add_zero t h)

pub next_list_not_empty : (dxs dys : List Float) (centre : ScheimpflugParams) (camera : FxFyCxCy) (max : Float)
    → Memᴰ plus_zero dxs → Memᴰ plus_zero dys → T (fits binary64 centre.tilt_x) → T (fits binary64 centre.tilt_y)
    → in_bound max centre ≡ true → 0 < length (next_list dxs dys centre camera max)
unfolding next_list in_bound
next_list_not_empty dxs dys centre camera max zx zy fx fy h =
    let x = centre.tilt_x in
    let y = centre.tilt_y in
    let ts = pairs (moved x dxs) (moved y dys) in
    let b : in_bound max (tilts (x +₆₄ plus_zero) (y +₆₄ plus_zero)) ≡ true = rw (within_after_adding_zero max x fx, within_after_adding_zero max y fy) h in
    let m = pairs_mem (moved x dxs) (moved y dys) (Memᴰ.map (λ d. x +₆₄ d) zx) (Memᴰ.map (λ d. y +₆₄ d) zy) in
    let c = merged_covers_each near [] (seeds_within max camera ts) (Memᴰ.map (seed_with camera) (mem_keep (in_bound max) ts m b)) in
    length_positive_of_member (next_list dxs dys centre camera max) c.kept
