-- A plate with a known answer (docs/SPECIFICATION.md, 3.16): each camera whose four numbers are whole multiples of one
-- unit gets six numbers from which the closed form gives the four back; every other one is refused. The six are
-- computed exactly, and zhang's `recovered` does the rest. Assumes nothing.
use Rattle.std.proofs.Common.{◌≡◌, ℕ, ◌+◌, ◌*◌, ◌^◌, ◌≤◌, Bool, false, not, pos, sym, refl, add-zero, mul-le-mul, zero-add, mul-one, arith, Float, Ok, Err}
use Rattle.std.specs.Float.{binary64}
use Rattle.std.specs.Float.Ieee.{unlike, of_bits, of_int, neg}
use mathlib.Core.Option.{Option, none, some}
use Rattle.float.specs.Binary64.{◌+₆₄◌, ◌*₆₄◌, ◌/₆₄◌}
use Rattle.float.specs.Literals.{plus_zero}
use Rattle.float.specs.Sign.{unlike_false, unlike_itself}
use Rattle.float.specs.Whole.{Num, held_below_two_pow_53, whole_round, whole_neg, num_mul, num_div, num_add}
use Rattle.camera.specs.declared.intrinsics.FxFyCxCy.{FxFyCxCy}
use Rattle.zhang.specs.Theorem.{Conic-of, Recovered}
use Rattle.zhang.proofs.Exact.{unlike_false_first, num_with_equal_sign, recovered}
use Rattle.zhang.specs.Zhang.{from_homographies}
use Rattle.common.specs.declared.Refusal.TheVariants.{NoSharedPower}
use Rattle.zhang.specs.Plate.{unit_from, conic_with, plate_of}
use Rattle.zhang.specs.Theorem.{Units, PlateRight}
use Rattle.zhang.proofs.Units.{units, units_are_shared}
use Rattle.zhang.proofs.Lowest.{found_unit_is_shared, shared_unit_is_not_missed}

-- ---- the six numbers of a camera of p 2 ^ k, q 2 ^ k, ±x 2 ^ k and ±y 2 ^ k
power_is_exact : (k : ℕ) → k ≤ 8 → Num (of_int binary64 (pos (2 ^ k))) false 1 k
unfolding of_int
power_is_exact k h = whole_round false (1 * 2 ^ k) (2 ^ k) 1 (held_below_two_pow_53 1 k (omega arith) (omega arith)) (omega arith) (omega arith)

module _ (k : ℕ) (f : FxFyCxCy) (few : k ≤ 8) (a : Units k f) where
  unit : Float
  unit = of_int binary64 (pos (2 ^ k))

  -- a focal length in units, and its square
  focal_length_in_units : (x : Float) (n : ℕ) → n ≤ 256 → Num x false n k → Num (x /₆₄ unit) false n 0
  unfolding unit
  focal_length_in_units x n h v = num_div x unit false false n 1 k k n 0 v (power_is_exact k few) (omega arith) (sym (mul-one n)) (sym (zero-add k)) (omega arith) (omega arith)

  square : (x : Float) (n : ℕ) → n ≤ 256 → Num x false n 0 → Num (x *₆₄ x) false (n * n) 0
  square x n h v =
      let l : n * n ≤ 256 * 256 = mul-le-mul h h in
      num_mul x x false false n n 0 0 (n * n) 0 v v refl refl (omega arith) (omega arith)

  -- a number of the four, squared, times such a square
  square_times_square : (x y : Float) (s : Bool) (n m : ℕ) → n ≤ 256 → m ≤ 256 → Num x s n k → Num y false (m * m) 0 → Num (x *₆₄ x *₆₄ y) false (n * n * (m * m)) (k + k)
  square_times_square x y s n m h g v w =
      let l : n * n ≤ 256 * 256 = mul-le-mul h h in
      let l2 : n * n * (m * m) ≤ 256 * 256 * (256 * 256) = mul-le-mul l (mul-le-mul g g) in
      let xx = num_with_equal_sign (x *₆₄ x) (unlike s s) false (n * n) (k + k) (unlike_itself s) (num_mul x x s s n n k k (n * n) (k + k) v v refl refl (omega arith) (omega arith)) in
      num_mul (x *₆₄ x) y false false (n * n) (m * m) (k + k) 0 (n * n * (m * m)) (k + k) xx w refl (sym (add-zero (k + k))) (omega arith) (omega arith)

  -- a number of the centre times such a square, negated, with the sign that it has in a conic of positive scale
  negated_centre_times_square : (x y : Float) (s : Bool) (n m : ℕ) → n ≤ 256 → m ≤ 256 → Num x s n k → Num y false (m * m) 0 → Num (neg (x *₆₄ y)) (unlike false (not s)) (n * (m * m)) k
  negated_centre_times_square x y s n m h g v w =
      let l : n * (m * m) ≤ 256 * (256 * 256) = mul-le-mul h (mul-le-mul g g) in
      num_with_equal_sign (neg (x *₆₄ y)) (not s) (unlike false (not s)) (n * (m * m)) k (sym (unlike_false_first (not s)))
      (whole_neg (x *₆₄ y) s (n * (m * m) * 2 ^ k)
      (num_with_equal_sign (x *₆₄ y) (unlike s false) s (n * (m * m)) k (unlike_false s) (num_mul x y s false n (m * m) k 0 (n * (m * m)) k v w refl (sym (add-zero k)) (omega arith) (omega arith))))

  zero_is_exact : Num plus_zero false 0 0
  unfolding of_bits
  zero_is_exact = (λ p. refl, refl)

  conic_is_exact : Conic-of a.p a.q a.x a.y k a.x_minus a.y_minus false (conic_with (of_int binary64 (pos (2 ^ k))) f)
  unfolding conic_with unit
  conic_is_exact =
      let p = a.p in
      let q = a.q in
      let x = a.x in
      let y = a.y in
      let pl = a.p_range.1 in
      let ql = a.q_range.1 in
      let xl = a.x_range in
      let yl = a.y_range in
      let P = f.fx /₆₄ unit in
      let Q = f.fy /₆₄ unit in
      let pp = square P p pl (focal_length_in_units f.fx p pl a.fx_is) in
      let qq = square Q q ql (focal_length_in_units f.fy q ql a.fy_is) in
      let A = f.cx *₆₄ f.cx *₆₄ (Q *₆₄ Q) in
      let B = f.cy *₆₄ f.cy *₆₄ (P *₆₄ P) in
      let C = f.fx *₆₄ f.fx *₆₄ (Q *₆₄ Q) in
      let a3 = square_times_square f.cx (Q *₆₄ Q) a.x_minus x q xl ql a.cx_is qq in
      let b3 = square_times_square f.cy (P *₆₄ P) a.y_minus y p yl pl a.cy_is pp in
      let c3 = square_times_square f.fx (Q *₆₄ Q) false p q pl ql a.fx_is qq in
      let l1 : x * x * (q * q) ≤ 256 * 256 * (256 * 256) = mul-le-mul (mul-le-mul xl xl) (mul-le-mul ql ql) in
      let l2 : y * y * (p * p) ≤ 256 * 256 * (256 * 256) = mul-le-mul (mul-le-mul yl yl) (mul-le-mul pl pl) in
      let l3 : p * p * (q * q) ≤ 256 * 256 * (256 * 256) = mul-le-mul (mul-le-mul pl pl) (mul-le-mul ql ql) in
      let ab = num_add A B false (x * x * (q * q)) (y * y * (p * p)) (x * x * (q * q) + y * y * (p * p)) (k + k) a3 b3 refl (omega arith) (omega arith) in
      record {
        b11 = qq;
        b12 = zero_is_exact;
        b22 = pp;
        b13 = negated_centre_times_square f.cx (Q *₆₄ Q) a.x_minus x q xl ql a.cx_is qq;
        b23 = negated_centre_times_square f.cy (P *₆₄ P) a.y_minus y p yl pl a.cy_is pp;
        b33 = num_add (A +₆₄ B) C false (x * x * (q * q) + y * y * (p * p)) (p * p * (q * q)) (x * x * (q * q) + y * y * (p * p) + p * p * (q * q)) (k + k) ab c3 refl (omega arith) (omega arith);
      }

  conic_gives_camera_back : Recovered f (from_homographies (conic_with (of_int binary64 (pos (2 ^ k))) f))
  conic_gives_camera_back =
      recovered a.p a.q a.x a.y k a.x_minus a.y_minus false (conic_with (of_int binary64 (pos (2 ^ k))) f) conic_is_exact
      a.p_range.0 a.q_range.0 a.p_range.1 a.q_range.1 a.x_range a.y_range (omega arith)
      f a.fx_is a.fy_is a.cx_is a.cy_is

-- ---- the theorem
pub plate_of_lowest_unit : (f : FxFyCxCy) (u : ℕ) → unit_from 9 1 f ≡ some u → plate_of f ≡ Ok (conic_with (of_int binary64 (pos u)) f)
unfolding plate_of
plate_of_lowest_unit f u h = simp (plate_of, h)

pub no_plate_without_unit : (f : FxFyCxCy) → unit_from 9 1 f ≡ none → plate_of f ≡ Err NoSharedPower
unfolding plate_of
no_plate_without_unit f h = simp (plate_of, h)

by_unit_or_none : {P : Type 0} (o : Option ℕ) → (o ≡ none → P) → ((u : ℕ) → o ≡ some u → P) → P
by_unit_or_none none g h = g refl
by_unit_or_none (some u) g h = h u refl

pub plate_right : PlateRight
plate_right =
    record {
      gives = λ f s.
          by_unit_or_none (unit_from 9 1 f)
          (λ h. absurd (shared_unit_is_not_missed 9 0 s.k f h (omega arith) (omega (arith, s.power)) (units_are_shared s.k f s.units)))
          (λ u h. let l = found_unit_is_shared 9 0 u f h in
          (conic_with (of_int binary64 (pos (2 ^ l.j))) f, rw l.is at (plate_of_lowest_unit f u h), conic_gives_camera_back l.j f (omega (arith, l.below)) (units l.j f l.test)));
      refuses = λ f n.
          by_unit_or_none (unit_from 9 1 f)
          (no_plate_without_unit f)
          (λ u h. let l = found_unit_is_shared 9 0 u f h in absurd (n (record { k = l.j; power = omega (arith, l.below); units = units l.j f l.test })));
    }
