-- The theorems of seeds, as types. The comment on each part names the file that proves it. Definitions only.
use Rattle.std.specs.Prelude.{◌≡◌, Bool, true, false, ℕ, ◌+◌, ◌*◌, ◌≤◌, ◌<◌, ◌⊎◌, Some, is_some, T, length, Float}
use mathlib.Core.List.{List, [], ◌∷◌, ◌++◌, map, Memᴰ}
use Rattle.std.specs.Float.{binary64}
use Rattle.std.specs.Float.Ieee.{of_bits, fits, neg, le, lt}
use Rattle.common.specs.Each.{All}
use Rattle.float.specs.Float.{is_finite}
use Rattle.float.specs.Literals.{plus_zero, half₆₄}
use Rattle.camera.specs.declared.intrinsics.FxFyCxCy.{FxFyCxCy}
use Rattle.camera.specs.declared.sensor.ScheimpflugParams.{ScheimpflugParams}
use Rattle.seeds.specs.declared.CandidateSeed.{CandidateSeed}
use Rattle.seeds.specs.Merge.{has_near, newest_near, merged}
use Rattle.seeds.specs.Rules.{tilt_near, camera_near, near, in_bound, untilted_y, tilts, seed_with, seed_grid, initial_list, offsets, y_offsets, next_list, closer, tilt_limit}
use Rattle.seeds.specs.AnyOffsets.{offset_seed, most_seeds}
use Rattle.seeds.specs.Admissible.{admitted, seed_count, least_step, most_step}

-- ---- What holds of the lists of seeds: what merging keeps, that every typed tilt is tried, that no sign is
-- preferred, and what a later round's list is over any two lists of offsets. `proofs/MergeLaws.antt`,
-- `Newest.antt`, `Tried.antt`, `Mirror.antt`, `AnyOffsets.antt` and `Facts.antt` prove them.

-- ---- merging under any relation of nearness
-- no element lies near a later one
abbrev pub Apart : {A : Type 0} → (A → A → Bool) → List A → Type 0
Apart near [] = Unit {0}
Apart near (x ∷ xs) = All (λ y. near x y ≡ false) xs × Apart near xs

module _ {A : Type 0} (near : A → A → Bool) where
  -- the kept one that the search names is near s, and none behind it is
  pub record Newest (i : ℕ) (ks : List A) (s : A) (j : ℕ) : Type 0 where
    pub earlier : List A
    pub named : A
    pub later : List A
    pub split : ks ≡ earlier ++ (named ∷ later)
    pub index : j ≡ i + length earlier
    pub nearby : near named s ≡ true
    pub none_later : has_near near later s ≡ false

  -- each one offered is kept, or near a kept one
  pub record Covered (ks : List A) (s : A) : Type 0 where
    pub by : A
    pub kept : Memᴰ by ks
    pub nearby : (by ≡ s) ⊎ (near by s ≡ true)

-- ---- the near search where two kept ones are near
abbrev pub tilted : ℕ → ScheimpflugParams
tilted x = tilts (of_bits binary64 x) plus_zero

-- one camera for all three
abbrev pub seeded : ScheimpflugParams → CandidateSeed
seeded = seed_with (record { fx = plus_zero; fy = plus_zero; cx = plus_zero; cy = plus_zero })

-- 0.1 and 0.1 + 1.5e-12, and between them 0.1 + 0.8e-12
abbrev pub apart : List ScheimpflugParams
apart = tilted 0x3fb9_9999_9999_999a ∷ tilted 0x3fb9_9999_999b_3fd0 ∷ []

abbrev pub between : ScheimpflugParams
between = tilted 0x3fb9_9999_999a_7ac8

pub record NamesNewer : Type 0 where
  pub kept : merged tilt_near (apart ++ (between ∷ [])) ≡ apart
  pub named : newest_near tilt_near 0 apart between ≡ Some 1
  pub seeds_kept : merged near (map seeded (apart ++ (between ∷ []))) ≡ map seeded apart
  pub seed_named : newest_near near 0 (map seeded apart) (seeded between) ≡ Some 1

-- what merging does with one kind of entry under its nearness
pub record Merging {A : Type 0} (near : A → A → Bool) : Type 0 where
  -- each one offered is kept, or near a kept one; none is near an earlier one
  pub covers : (ss : List A) {s : A} → Memᴰ s ss → Covered near (merged near ss) s
  pub fresh : (ss before : List A) (s : A) (behind : List A) → merged near ss ≡ before ++ s ∷ behind → has_near near before s ≡ false
  -- the search finds a near one exactly where there is one, and the one that it names is near, and none behind it is
  pub newest_found : (i : ℕ) (ks : List A) (s : A) → is_some (newest_near near i ks s) ≡ has_near near ks s
  pub newest_named : (i j : ℕ) (ks : List A) (s : A) → newest_near near i ks s ≡ Some j → Newest near i ks s j

pub record MergingRight : Type 0 where
  pub of_tilts : Merging tilt_near
  pub of_seeds : Merging near
  pub names_newer : NamesNewer

-- ---- every typed tilt is tried
pub record Tried (list : List CandidateSeed) (grid : List ScheimpflugParams) (base : FxFyCxCy) (t : ScheimpflugParams) : Type 0 where
  pub seed : CandidateSeed
  pub listed : Memᴰ seed list
  pub camera : (seed.reference_k ≡ base) ⊎ (camera_near seed.reference_k base ≡ true)
  pub nearby :
      (tilt_near seed.sensor t ≡ true)
      ⊎ ((u : ScheimpflugParams) × Memᴰ u grid × (tilt_near seed.sensor u ≡ true) × (tilt_near u t ≡ true))

-- for each pair of typed tilts within the bound, by order alone, round 0's list has such a seed
pub record TypedTilts : Type 0 where
  pub every_tilt_tried : (ds : List CandidateSeed) (xs ys : List Float) (base : FxFyCxCy) (max : Float) → is_finite max ≡ true
      → (x y : Float) → Memᴰ x xs → Memᴰ y ys → le (neg max) x ≡ true → le x max ≡ true → le (neg max) y ≡ true → le y max ≡ true
      → Tried (initial_list ds xs ys base max) (seed_grid xs ys max) base (tilts x y)
  -- every seed of round 0 lies within the bound, if the decomposition's do, and at most 512 are there
  pub initial_in_bound : (ds : List CandidateSeed) (xs ys : List Float) (base : FxFyCxCy) (max : Float)
      → All (λ s. in_bound max s.sensor ≡ true) ds → All (λ s. in_bound max s.sensor ≡ true) (initial_list ds xs ys base max)
  pub initial_most : (ds : List CandidateSeed) (xs ys : List Float) (base : FxFyCxCy) (max : Float)
      → length ds ≤ 256 → length xs ≤ 16 → length ys ≤ 16 → length (initial_list ds xs ys base max) ≤ 256 + 256

-- ---- no sign is preferred
-- both tilts negated, the camera kept
abbrev pub opposite : ScheimpflugParams → ScheimpflugParams
opposite t = tilts (neg t.tilt_x) (neg t.tilt_y)

abbrev pub mirrored : CandidateSeed → CandidateSeed
mirrored s = seed_with s.reference_k (opposite s.sensor)

-- round 0's list of the negated seeds is the negated list
abbrev pub NoSignPreferred : Type 0
NoSignPreferred = (ds : List CandidateSeed) (xs ys : List Float) (base : FxFyCxCy) (max : Float)
    → initial_list (map mirrored ds) (map neg xs) (map neg ys) base max ≡ map mirrored (initial_list ds xs ys base max)

-- ---- a later round's list, over any two lists of offsets
-- a seed of the list: it lies at an offset of each axis, with the one camera, and within the bound
pub record AtOffsets (dxs dys : List Float) (centre : ScheimpflugParams) (camera : FxFyCxCy) (max : Float) (s : CandidateSeed) : Type 0 where
  pub dx : Float
  pub dy : Float
  pub is_dx : Memᴰ dx dxs
  pub is_dy : Memᴰ dy dys
  pub seed_is : s ≡ offset_seed centre camera dx dy
  pub is_in_bound : in_bound max s.sensor ≡ true

pub record ListOverOffsets (dxs dys : List Float) (centre : ScheimpflugParams) (camera : FxFyCxCy) (max : Float) : Type 0 where
  -- at most one seed for each pair of offsets, and nothing else
  pub few : length (next_list dxs dys centre camera max) ≤ length dxs * length dys
  pub made : All (AtOffsets dxs dys centre camera max) (next_list dxs dys centre camera max)
  -- none is near an earlier one, and each pair of offsets within the bound is there, or a seed near it
  pub apart : (before behind : List CandidateSeed) (s : CandidateSeed) → next_list dxs dys centre camera max ≡ before ++ s ∷ behind → has_near near before s ≡ false
  pub all_tried : (dx dy : Float) → Memᴰ dx dxs → Memᴰ dy dys → in_bound max (offset_seed centre camera dx dy).sensor ≡ true
      → Covered near (next_list dxs dys centre camera max) (offset_seed centre camera dx dy)

pub record LaterLists : Type 0 where
  pub any_offsets : (dxs dys : List Float) (centre : ScheimpflugParams) (camera : FxFyCxCy) (max : Float) → ListOverOffsets dxs dys centre camera max
  -- around a centre within the bound it is never empty, where 0 is among the offsets of each axis, as it is in both kinds of run
  pub next_some : (dxs dys : List Float) (centre : ScheimpflugParams) (camera : FxFyCxCy) (max : Float)
      → Memᴰ plus_zero dxs → Memᴰ plus_zero dys → T (fits binary64 centre.tilt_x) → T (fits binary64 centre.tilt_y)
      → in_bound max centre ≡ true → 0 < length (next_list dxs dys centre camera max)
  pub zero_offset : (s : Float) → Memᴰ plus_zero (offsets s)
  pub zero_y_offset : (one_axis : Bool) (s : Float) → Memᴰ plus_zero (y_offsets one_axis s)
  -- the two kinds of run: at most nine seeds, or three; about one axis a seed around a centre with no tilt y has the tilt y +0
  pub round_few : (one_axis : Bool) (s : Float) (centre : ScheimpflugParams) (camera : FxFyCxCy) (max : Float)
      → length (next_list (offsets s) (y_offsets one_axis s) centre camera max) ≤ most_seeds one_axis
  pub untilted_around : (dxs : List Float) (s : Float) (centre : ScheimpflugParams) (camera : FxFyCxCy) (max : Float) (t : CandidateSeed) → untilted_y centre ≡ true
      → AtOffsets dxs (y_offsets true s) centre camera max t → t.sensor.tilt_y ≡ plus_zero

-- ---- How long a later round's list is. `proofs/Counts.antt`, `Exact.antt` and `Cases.antt` prove it.

-- no tilt is nearer than 1e-12 to a later one, as the rounded difference says
abbrev pub TiltsApart : List Float → Type 0
TiltsApart ts = Apart (closer tilt_limit) ts

-- ---- step 0.02 and bound 0.3: 0.28 + 0.02 is above 0.3 once it is rounded
abbrev pub at28 : Float
at28 = of_bits binary64 0x3fd1_eb85_1eb8_51ec

abbrev pub by02 : Float
by02 = of_bits binary64 0x3f94_7ae1_47ae_147b

abbrev pub to30 : Float
to30 = of_bits binary64 0x3fd3_3333_3333_3333

-- ---- centre (131072, 0), step 1e-11, bound 2e5: nine pairs are admissible, and six seeds are left
abbrev pub some_camera : FxFyCxCy
some_camera = record { fx = of_bits binary64 0x4089_0000_0000_0000; fy = of_bits binary64 0x4089_0000_0000_0000; cx = of_bits binary64 0x4074_0000_0000_0000; cy = of_bits binary64 0x406e_0000_0000_0000 }

abbrev pub far : Float
far = of_bits binary64 0x4100_0000_0000_0000

abbrev pub wide : Float
wide = of_bits binary64 0x4108_6a00_0000_0000

pub record ExactLength : Type 0 where
  -- the admissible x tilts times the admissible y tilts, for any two lists of offsets whose admitted tilts are apart
  pub exact_length : (dxs dys : List Float) (centre : ScheimpflugParams) (camera : FxFyCxCy) (max : Float)
      → TiltsApart (admitted max centre.tilt_x dxs) → TiltsApart (admitted max centre.tilt_y dys) → length (next_list dxs dys centre camera max) ≡ seed_count dxs dys centre max
  -- which they are with a bound of at most 0.5 and a step from 1e-11 to 1, around any centre, in both kinds of run
  pub round_length : (one_axis : Bool) (s : Float) (centre : ScheimpflugParams) (camera : FxFyCxCy) (max : Float) → lt half₆₄ max ≡ false → le least_step s ≡ true → le s most_step ≡ true
      → length (next_list (offsets s) (y_offsets one_axis s) centre camera max) ≡ seed_count (offsets s) (y_offsets one_axis s) centre max
  -- computed: 0.28 + 0.02 is above 0.3 once it is rounded
  pub six_in_x : seed_count (offsets by02) (offsets by02) (tilts at28 plus_zero) to30 ≡ 6
  pub six_in_y : seed_count (offsets by02) (offsets by02) (tilts plus_zero at28) to30 ≡ 6
  pub two_in_x : seed_count (offsets by02) (plus_zero ∷ []) (tilts at28 plus_zero) to30 ≡ 2
  pub nine_by_half : seed_count (offsets (of_bits binary64 0x3f84_7ae1_47ae_147b)) (offsets (of_bits binary64 0x3f84_7ae1_47ae_147b)) (tilts at28 plus_zero) to30 ≡ 9
  -- with a wider bound, and with a smaller step, it is false
  pub far_admissible : seed_count (offsets least_step) (offsets least_step) (tilts far plus_zero) wide ≡ 9
  pub far_merges : length (next_list (offsets least_step) (offsets least_step) (tilts far plus_zero) some_camera wide) ≡ 6
  pub small_admissible : seed_count (offsets tilt_limit) (plus_zero ∷ []) (tilts to30 plus_zero) half₆₄ ≡ 3
  pub small_step_merges : length (next_list (offsets tilt_limit) (plus_zero ∷ []) (tilts to30 plus_zero) some_camera half₆₄) ≡ 2
