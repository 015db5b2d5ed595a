-- Normalising after the line test. The line test says that 3 to 400 points are collinear if their mean distance from
-- some point is at most 2^-52. So where it says that they aren't, normalising doesn't fail. The numbers may be
-- anything, also not finite or such that an operation overflows. Assumes nothing.
use Rattle.std.specs.Prelude.{◌≡◌, refl, Bool, true, false, not, ℕ, ◌/◌, ◌≤◌, pos, length, Float, Option, Some, None}
use Rattle.std.proofs.Common.{sym, ap, ◌∙◌, zero-lt-suc, arith, le-ltb}
use Rattle.std.proofs.Math.Bool.{true≢false}
use mathlib.Core.List.{List, [], ◌∷◌}
use Rattle.std.specs.Float.Ieee.{binary64, of_bits, of_int, round, add, sub, mul, div, lt, eq, le, is_nan}
use Rattle.common.specs.Tests.{both_true}
use Rattle.float.specs.Binary64.{◌+₆₄◌, ◌-₆₄◌, ◌*₆₄◌, ◌/₆₄◌}
use Rattle.float.specs.Float.{abs_of, sign_bit}
use Rattle.float.specs.Order.{lt_cotrans}
use Rattle.float.specs.Sign.{sign_add, sign_square}
use Rattle.float.specs.Literals.{plus_zero}
use Rattle.root.specs.Root.{root}
use Rattle.camera.specs.declared.math.Pt2.{Pt2}
use Rattle.points.specs.Points.{fold_points, find_point, count_of}
use Rattle.camera.specs.Math.{distance_of}
use Rattle.points.specs.MeanDistance.{sign_distance, sign_mean}
use Rattle.points.specs.Linalg.{epsilon, add_distance, mean_distance, centroid_of, degenerate}
use Rattle.points.specs.Line.{least_distance, least_cross, far_from, cross_of, off_line, along, collinear_of}
use Rattle.float_laws.specs.Reaches.{Reaches, not_below_of_reaches, Below, below_of_result_below, below_of_le, zero_reached, round_reaches, mul_reaches, div_reaches, add_reaches, sub_reaches, squares_reach}
use Rattle.root.proofs.RootReaches.{root_reaches}
use Rattle.float_laws.specs.Apart.{difference_at_most_twice}
use Rattle.points.specs.AllPoints.{AllPoints, find_holds}

-- 2^-12, 2^-11 and 400
abbrev two_pow_minus_12 : Float
two_pow_minus_12 = round binary64 false 1 4096

abbrev two_pow_minus_11 : Float
two_pow_minus_11 = round binary64 false 2 4096

abbrev four_hundred : Float
four_hundred = round binary64 false 400 1

-- ---- where a distance is below 2^-12, so are the differences in x and in y
distance_reaches_sides : (x y a b : Float) → Reaches x a → Reaches y b → Reaches (root binary64 (x *₆₄ x +₆₄ y *₆₄ y)) (root binary64 (a *₆₄ a +₆₄ b *₆₄ b))
distance_reaches_sides x y a b h k = root_reaches binary64 (x *₆₄ x +₆₄ y *₆₄ y) (a *₆₄ a +₆₄ b *₆₄ b) (squares_reach binary64 x y a b h k)

distance_along_one_axis : (root binary64 (two_pow_minus_12 *₆₄ two_pow_minus_12 +₆₄ plus_zero *₆₄ plus_zero) ≡ two_pow_minus_12) × (root binary64 (plus_zero *₆₄ plus_zero +₆₄ two_pow_minus_12 *₆₄ two_pow_minus_12) ≡ two_pow_minus_12)
unfolding root round mul add of_bits
distance_along_one_axis = (refl, refl)

abbrev Close : Pt2 → Pt2 → Type 0
Close c p = Below (p.x -₆₄ c.x) two_pow_minus_12 × Below (p.y -₆₄ c.y) two_pow_minus_12

close_of_small_distance : (c p : Pt2) → Below (distance_of p c) two_pow_minus_12 → Close c p
close_of_small_distance c p h =
    let x = p.x -₆₄ c.x in
    let y = p.y -₆₄ c.y in (
      below_of_result_below x two_pow_minus_12 (distance_of p c) two_pow_minus_12 (λ r. rw distance_along_one_axis.0 at (distance_reaches_sides x y two_pow_minus_12 plus_zero r (zero_reached y))) h,
      below_of_result_below y two_pow_minus_12 (distance_of p c) two_pow_minus_12 (λ r. rw distance_along_one_axis.1 at (distance_reaches_sides x y plus_zero two_pow_minus_12 (zero_reached x) r)) h,
    )

-- ---- where a sum of distances is below 2^-12 each of them is
sum_with_plus_zero : (two_pow_minus_12 +₆₄ plus_zero ≡ two_pow_minus_12) × (plus_zero +₆₄ two_pow_minus_12 ≡ two_pow_minus_12)
unfolding round add of_bits
sum_with_plus_zero = (refl, refl)

module _ (c : Pt2) where
  total_reaches : (d : Float) (s : List Float) → sign_bit d ≡ false → Reaches d two_pow_minus_12 → Reaches (fold_points (add_distance c) d s) two_pow_minus_12
  unfolding fold_points
  total_reaches d [] g h = h
  total_reaches d (x ∷ []) g h = h
  total_reaches d (x ∷ y ∷ s) g h =
      let p : Pt2 = record { x = x; y = y } in
      let r = distance_of p c in
      let i = sign_distance p c in
      total_reaches (add_distance c d p) s (sign_add binary64 d r g i) (rw sum_with_plus_zero.0 at (add_reaches binary64 d r two_pow_minus_12 plus_zero g i h (zero_reached r)))

  all_close : (d : Float) (s : List Float) → sign_bit d ≡ false → Below (fold_points (add_distance c) d s) two_pow_minus_12 → AllPoints (Close c) s
  unfolding fold_points
  all_close d [] g h = tt
  all_close d (x ∷ []) g h = tt
  all_close d (x ∷ y ∷ s) g h =
      let p : Pt2 = record { x = x; y = y } in
      let r = distance_of p c in
      let i = sign_distance p c in
      let t = add_distance c d p in
      let j = sign_add binary64 d r g i in (
        close_of_small_distance c p
            (below_of_result_below r two_pow_minus_12 (fold_points (add_distance c) t s) two_pow_minus_12
            (λ k. total_reaches t s j (rw sum_with_plus_zero.1 at (add_reaches binary64 d r plus_zero two_pow_minus_12 g i (zero_reached d) k)))
            h),
        all_close t s j h,
      )

-- ---- and so where the mean of at most 400 distances is at most 2^-52
count_at_most_400 : (n : ℕ) → n ≤ 400 → Reaches four_hundred (of_int binary64 (pos n))
unfolding of_int
count_at_most_400 n h = round_reaches binary64 false false 400 1 n 1 (zero-lt-suc 0) (zero-lt-suc 0) (omega arith)

epsilon_below_quotient : lt epsilon (abs_of (two_pow_minus_12 /₆₄ four_hundred)) ≡ true
unfolding round div abs_of lt of_bits
epsilon_below_quotient = refl

pub close_of_small_mean : (c : Pt2) (s : List Float) → length s ≤ 800 → le (mean_distance c s) epsilon ≡ true → AllPoints (Close c) s
unfolding mean_distance sign_bit of_bits
close_of_small_mean c s n h =
    let t = fold_points (add_distance c) plus_zero s in
    all_close c plus_zero s refl
    (below_of_result_below t two_pow_minus_12 (t /₆₄ count_of s) (two_pow_minus_12 /₆₄ four_hundred)
    (λ r. div_reaches binary64 t (count_of s) two_pow_minus_12 four_hundred r (count_at_most_400 (length s / 2) (omega arith)))
    (below_of_le (t /₆₄ count_of s) epsilon (two_pow_minus_12 /₆₄ four_hundred) (sign_mean c s) h epsilon_below_quotient))

-- ---- three points near c differ by at most 2^-11 in x and in y, so their cross product is at most 2^-21
abbrev cross_limit : Float
cross_limit = two_pow_minus_11 *₆₄ two_pow_minus_11 +₆₄ two_pow_minus_11 *₆₄ two_pow_minus_11

cross_limit_is_small : (is_nan (abs_of cross_limit) ≡ false) × (lt least_cross (abs_of cross_limit) ≡ false)
unfolding round mul add abs_of is_nan lt of_bits
cross_limit_is_small = (refl, refl)

module _ (c p0 p1 p2 : Pt2) (h0 : Close c p0) (h1 : Close c p1) (h2 : Close c p2) where
  close_points_cross_at_most : Reaches cross_limit (cross_of p0 p1 p2)
  close_points_cross_at_most =
      let x : (p : Pt2) → Close c p → Reaches two_pow_minus_11 (p.x -₆₄ p0.x) = λ p h. difference_at_most_twice 1 4096 (zero-lt-suc 4095) p.x p0.x c.x h.0 h0.0 in
      let y : (p : Pt2) → Close c p → Reaches two_pow_minus_11 (p.y -₆₄ p0.y) = λ p h. difference_at_most_twice 1 4096 (zero-lt-suc 4095) p.y p0.y c.y h.1 h0.1 in
      sub_reaches binary64 (two_pow_minus_11 *₆₄ two_pow_minus_11) (two_pow_minus_11 *₆₄ two_pow_minus_11) ((p1.x -₆₄ p0.x) *₆₄ (p2.y -₆₄ p0.y)) ((p1.y -₆₄ p0.y) *₆₄ (p2.x -₆₄ p0.x)) (sign_square binary64 two_pow_minus_11) (sign_square binary64 two_pow_minus_11)
      (mul_reaches binary64 two_pow_minus_11 two_pow_minus_11 (p1.x -₆₄ p0.x) (p2.y -₆₄ p0.y) (x p1 h1) (y p2 h2))
      (mul_reaches binary64 two_pow_minus_11 two_pow_minus_11 (p1.y -₆₄ p0.y) (p2.x -₆₄ p0.x) (y p1 h1) (x p2 h2))

  close_points_not_off_line : off_line p0 p1 p2 ≡ true → ⊥
  unfolding off_line
  close_points_not_off_line h =
      let v = abs_of (cross_of p0 p1 p2) in
      let k = (both_true (not (le (distance_of p2 p0) least_distance)) (lt least_cross v) h).1 in
      true≢false (sym (lt_cotrans least_cross v (abs_of cross_limit) cross_limit_is_small.0 k (not_below_of_reaches cross_limit (cross_of p0 p1 p2) close_points_cross_at_most)) ∙ cross_limit_is_small.1)

pub close_collinear : (c : Pt2) (s : List Float) → 6 ≤ length s → AllPoints (Close c) s → collinear_of s ≡ true
unfolding collinear_of along
close_collinear c [] n h = absurd (omega arith)
close_collinear c (x ∷ []) n h = absurd (omega arith)
close_collinear c (x ∷ y ∷ s) n h =
    let l = x ∷ y ∷ s in
    let p0 : Pt2 = record { x = x; y = y } in
    rw (le-ltb (length l) 6 n)
    (find_holds (Close c) (far_from p0) Some None (λ (d : Option Pt2). along p0 d l ≡ true) refl
    (λ p1 h1 t1. ap not (find_holds (Close c) (off_line p0 p1) (λ p. true) false (λ (b : Bool). b ≡ false) refl (λ p2 h2 t2. absurd (close_points_not_off_line c p0 p1 p2 h.0 h1 h2 t2)) l h))
    s h.1)

-- ---- the limits: two points in one place aren't collinear, nor are these three with a mean distance of at most 2^-9
pub two_points : let s = plus_zero ∷ plus_zero ∷ plus_zero ∷ plus_zero ∷ [] in (collinear_of s ≡ false) × (degenerate s ≡ true)
unfolding collinear_of degenerate mean_distance centroid_of fold_points root add sub mul div of_int of_bits le
two_points = (refl, refl)

-- (0, 0), (0.0015, 0), (0, 0.0015)
pub three_points :
    let a = of_bits binary64 0x3f58_9374_bc6a_7efa in
    let s = plus_zero ∷ plus_zero ∷ a ∷ plus_zero ∷ plus_zero ∷ a ∷ [] in
    (collinear_of s ≡ false) × (le (mean_distance (centroid_of s) s) (of_bits binary64 0x3f60_0000_0000_0000) ≡ true)
unfolding collinear_of along off_line find_point mean_distance centroid_of fold_points root add sub mul div of_int of_bits lt le eq abs_of
three_points = (refl, refl)
