-- Computed cases: the bound is asked of the rounded sum, and each axis counts by itself. Around a centre far from 0,
-- and for a step below 1e-11, the product isn't the length. Assumes nothing.
use Rattle.std.specs.Prelude.{◌≡◌, refl, [], ◌∷◌, length}
use Rattle.std.specs.Float.{binary64}
use Rattle.std.specs.Float.Ieee.{of_bits, add, sub, neg, lt, le, eq}
use Rattle.float.specs.Float.{abs_of, within}
use Rattle.float.specs.Literals.{plus_zero, half₆₄}
use Rattle.seeds.specs.Merge.{keep, has_near, push, merged_into}
use Rattle.seeds.specs.Rules.{closer, tilt_limit, tilt_near, camera_near, near, in_bound, tilts, pairs, offsets, next_list}
use Rattle.seeds.specs.Admissible.{admitted, seed_count, least_step}
use Rattle.seeds.specs.Theorem.{at28, by02, to30, some_camera, far, wide}

-- ---- step 0.02 and bound 0.3: 0.28 + 0.02 is above 0.3 once it is rounded
-- centre (0.28, 0), and (0, 0.28)
pub six_in_x : seed_count (offsets by02) (offsets by02) (tilts at28 plus_zero) to30 ≡ 6
unfolding seed_count admitted keep offsets neg add abs_of le lt eq within of_bits
six_in_x = refl

pub six_in_y : seed_count (offsets by02) (offsets by02) (tilts plus_zero at28) to30 ≡ 6
unfolding seed_count admitted keep offsets neg add abs_of le lt eq within of_bits
six_in_y = refl

-- with tilt_y fixed at 0: two
pub two_in_x : seed_count (offsets by02) (plus_zero ∷ []) (tilts at28 plus_zero) to30 ≡ 2
unfolding seed_count admitted keep offsets neg add abs_of le lt eq within of_bits
two_in_x = refl

-- half of the step stays within: nine
pub nine_by_half : seed_count (offsets (of_bits binary64 0x3f84_7ae1_47ae_147b)) (offsets (of_bits binary64 0x3f84_7ae1_47ae_147b)) (tilts at28 plus_zero) to30 ≡ 9
unfolding seed_count admitted keep offsets neg add abs_of le lt eq within of_bits
nine_by_half = refl

-- ---- centre (131072, 0), step 1e-11, bound 2e5: nine pairs are admissible, and six seeds are left
pub far_admissible : seed_count (offsets least_step) (offsets least_step) (tilts far plus_zero) wide ≡ 9
unfolding seed_count admitted keep offsets neg add abs_of le lt eq within of_bits
far_admissible = refl

pub far_merges : length (next_list (offsets least_step) (offsets least_step) (tilts far plus_zero) some_camera wide) ≡ 6
unfolding next_list offsets neg add sub abs_of le lt eq within in_bound of_bits keep pairs has_near push merged_into near tilt_near camera_near closer
far_merges = refl

-- ---- centre (0.3, 0), step 1e-12, bound 0.5, one axis: at so small a step seeds merge, since the sums are rounded
pub small_admissible : seed_count (offsets tilt_limit) (plus_zero ∷ []) (tilts to30 plus_zero) half₆₄ ≡ 3
unfolding seed_count admitted keep offsets neg add abs_of le lt eq within of_bits
small_admissible = refl

pub small_step_merges : length (next_list (offsets tilt_limit) (plus_zero ∷ []) (tilts to30 plus_zero) some_camera half₆₄) ≡ 2
unfolding next_list offsets neg add sub abs_of le lt eq within in_bound of_bits keep pairs has_near push merged_into near tilt_near camera_near closer
small_step_merges = refl
