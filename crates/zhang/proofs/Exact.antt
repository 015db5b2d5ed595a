-- Exact cases of the closed form: a camera of whole numbers up to 256, times a power of two, comes back from its conic,
-- and from the negated one. Assumes nothing.
use Rattle.std.specs.Prelude.{◌≡◌, Bool, not, ℕ, ◌+◌, ◌*◌, ◌^◌, ◌≤◌, ◌<◌, T, Float, Ok}
use Rattle.std.proofs.Math.Path.{refl, ap}
use Rattle.std.proofs.Common.{sym, ◌∙◌, subst, true≢false, add-zero, zero-add, zero-mul, mul-one, mul_assoc, mul_comm, add-mul, arith, pow-add, pow_pos}
use Rattle.std.proofs.Math.Bool.{true, false}
use Rattle.std.proofs.Math.Nat.{mul-pos, mul_left_comm, mul-mul-mul_comm, mul-le-mul, mul-le-mul_left}
use Rattle.std.specs.Float.Ieee.{binary64, of_bits, unlike, round, neg, lt, le, fits}
use Rattle.std.specs.Float.Ieee.Fits.{round-fits, div-fits}
use Rattle.std.specs.Float.Ieee.Positive.{num, den, value→cross, positive_of_value}
use Rattle.float.specs.Whole.{Is, Num, Few, held_below_two_pow_53, whole_has_value, whole_round, whole_neg, num_zero, num_mul, num_div, num_add, num_sub, num_sub_like_signs, wholes_compare_equal, whole_above_zero, div_at_least, whole_at_least_one, whole_is_own_size}
use Rattle.float.specs.Float.{abs_of}
use Rattle.float.specs.Sign.{abs_neg, unlike_false, unlike_itself}
use Rattle.float.specs.Order.{lt_le_trans, le_not_lt}
use Rattle.float.specs.Binary64.{◌+₆₄◌, ◌-₆₄◌, ◌*₆₄◌, ◌/₆₄◌}
use Rattle.root.specs.Root.{root}
use Rattle.root.proofs.Nearest.{root_exact}
use Rattle.camera.specs.declared.intrinsics.FxFyCxCy.{FxFyCxCy}
use Rattle.zhang.specs.declared.Conic.{Conic}
use Rattle.zhang.specs.Zhang.{least_definite, least_b11, denom, norm, v0, lambda, alpha, beta, gamma, u0, definite, from_homographies}
use Rattle.zhang.specs.Theorem.{Conic-of, Recovered, CameraRecovered}

-- ---- the root of a square
num_root : (x : Float) (a i n z : ℕ) → T (fits binary64 x) → Num x false a i → 0 < n → a ≡ n * n → i ≡ z + z → n < 2 ^ 53 → Few z → Num (root binary64 x) false n z
num_root x a i n z fit v p e f h k =
    let r = n * 2 ^ z in
    let q : 0 < r = mul-pos p (pow_pos z) in
    let g : a * 2 ^ i ≡ r * r = rw (e, f) (sym (mul-mul-mul_comm n (2 ^ z) n (2 ^ z) ∙ ap (λ (m : ℕ). n * n * m) (sym (pow-add 2 z z)))) in
    let y = round binary64 false r 1 in
    let w : Is y false r = whole_round false r r 1 (held_below_two_pow_53 n z h k) (omega arith) (sym (mul-one r)) in
    let vx = whole_has_value x false (r * r) (subst (Is x false) g v) (mul-pos q q) in
    let vy = whole_has_value y false r w q in
    let cx : num x ≡ r * r * den x = sym (mul-one (num x)) ∙ value→cross x (r * r) 1 vx in
    let cy : num y ≡ r * den y = sym (mul-one (num y)) ∙ value→cross y r 1 vy in
    subst (λ (u : Float). Is u false r)
    (sym
    (root_exact binary64 x y (positive_of_value x (r * r) 1 vx (mul-pos q q)) fit (positive_of_value y r 1 vy q) (round-fits binary64 false r 1)
    (rw (cx, cy) (simp (mul_assoc, mul_left_comm, mul_comm)))))
    w

-- ---- 0 times and over a number
num_zero_times : (x y : Float) (s t : Bool) (b j : ℕ) → Num x s 0 0 → Num y t b j → Few j → Num (x *₆₄ y) s 0 0
num_zero_times x y s t b j v w k = num_zero (x *₆₄ y) (unlike s t) s j 0 (num_mul x y s t 0 b 0 j 0 j v w (sym (zero-mul b)) (sym (zero-add j)) (omega arith) k)

num_zero_over : (x y : Float) (s t : Bool) (b j : ℕ) → Num x s 0 0 → Num y t b j → 0 < b → Few j → Num (x /₆₄ y) s 0 0
num_zero_over x y s t b j v w p k =
    num_zero (x /₆₄ y) (unlike s t) s 0 0 (num_div x y s t 0 b j j 0 0 (num_zero x s s 0 j v) w p (sym (zero-mul b)) (sym (zero-add j)) (omega arith) (omega arith))

-- ---- signs
pub unlike_false_first : (t : Bool) → unlike false t ≡ t
unlike_false_first true = refl
unlike_false_first false = refl

-- a sign that is applied twice has no effect
unlike_twice : (s t : Bool) → unlike s (unlike s t) ≡ t
unlike_twice true true = refl
unlike_twice true false = refl
unlike_twice false true = refl
unlike_twice false false = refl

unlike_again : (s t : Bool) → unlike (unlike s t) s ≡ t
unlike_again true true = refl
unlike_again true false = refl
unlike_again false true = refl
unlike_again false false = refl

pub num_with_equal_sign : (x : Float) (s t : Bool) (n z : ℕ) → s ≡ t → Num x s n z → Num x t n z
num_with_equal_sign x s t n z e v = rw (sym e) v

-- ---- 1e-6 is below 2^-19, and 1e-12 below 1
least_definite_is_small : lt least_definite (round binary64 false 1 524288) ≡ true
unfolding lt of_bits round
least_definite_is_small = refl

least_b11_below_one : lt least_b11 (round binary64 false 1 1) ≡ true
unfolding lt of_bits round
least_b11_below_one = refl

-- ---- a whole number other than 0 is above 1e-12 in size
whole_above_least_b11 : (x : Float) (n : ℕ) → 0 < n → Is x false n → lt least_b11 (abs_of x) ≡ true
whole_above_least_b11 x n p v = rw (whole_is_own_size x n p v) (lt_le_trans least_b11 (round binary64 false 1 1) x least_b11_below_one (whole_at_least_one x n p v))

whole_size_above_least_b11 : (x : Float) (s : Bool) (n : ℕ) → 0 < n → Is x s n → lt least_b11 (abs_of x) ≡ true
whole_size_above_least_b11 x false n p v = whole_above_least_b11 x n p v
whole_size_above_least_b11 x true n p v = rw (sym (abs_neg x)) (whole_above_least_b11 (neg x) n p (whole_neg x true n v))

module _ (p q x y k : ℕ) (sx sy s : Bool) (b : Conic) (c : Conic-of p q x y k sx sy s b) (p-pos : 0 < p) (q-pos : 0 < q) (p-le : p ≤ 256) (q-le : q ≤ 256) (x-le : x ≤ 256) (y-le : y ≤ 256) (few : k ≤ 300) where
  square_of_p_at_most : p * p ≤ 256 * 256
  square_of_p_at_most = mul-le-mul p-le p-le

  square_of_q_at_most : q * q ≤ 256 * 256
  square_of_q_at_most = mul-le-mul q-le q-le

  D : ℕ
  D = q * q * (p * p)

  D-pos : 0 < D
  unfolding D
  D-pos = mul-pos (mul-pos q-pos q-pos) (mul-pos p-pos p-pos)

  denom_is_product_of_squares : Num (denom b) false D 0
  unfolding D
  denom_is_product_of_squares =
      let n : q * q * (p * p) ≤ 65536 * 65536 = mul-le-mul square_of_q_at_most square_of_p_at_most in
      let m = num_with_equal_sign (b.b11 *₆₄ b.b22) (unlike s s) false D 0 (unlike_itself s) (num_mul b.b11 b.b22 s s (q * q) (p * p) 0 0 D 0 c.b11 c.b22 refl refl (omega arith) (omega arith)) in
      let o = num_zero_times b.b12 b.b12 s s 0 0 c.b12 c.b12 (omega arith) in
      num_sub (b.b11 *₆₄ b.b22) (b.b12 *₆₄ b.b12) false D 0 D 0 m (num_zero (b.b12 *₆₄ b.b12) s true 0 0 o) (sym (add-zero D)) (omega arith) (omega arith)

  -- b12 b13 - b11 b23
  cross_is_scaled_y : Num (b.b12 *₆₄ b.b13 -₆₄ b.b11 *₆₄ b.b23) sy (q * q * (y * (p * p))) k
  cross_is_scaled_y =
      let n : q * q * (y * (p * p)) ≤ 65536 * (256 * 65536) = mul-le-mul square_of_q_at_most (mul-le-mul y-le square_of_p_at_most) in
      let w = q * q * (y * (p * p)) in
      let o = num_zero_times b.b12 b.b13 s (unlike s (not sx)) (x * (q * q)) k c.b12 c.b13 (omega arith) in
      let m = num_mul b.b11 b.b23 s (unlike s (not sy)) (q * q) (y * (p * p)) 0 k w k c.b11 c.b23 refl (sym (zero-add k)) (omega arith) (omega arith) in
      num_sub (b.b12 *₆₄ b.b13) (b.b11 *₆₄ b.b23) sy 0 w w k (num_zero (b.b12 *₆₄ b.b13) s sy 0 k o)
      (num_with_equal_sign (b.b11 *₆₄ b.b23) (unlike s (unlike s (not sy))) (not sy) w k (unlike_twice s (not sy)) m)
      (sym (zero-add w)) (omega arith) (omega arith)

  v0_is_y : Num (v0 b) sy y k
  unfolding D
  v0_is_y =
      let w = q * q * (y * (p * p)) in
      num_with_equal_sign (v0 b) (unlike sy false) sy y k (unlike_false sy)
      (num_div (b.b12 *₆₄ b.b13 -₆₄ b.b11 *₆₄ b.b23) (denom b) sy false w D k 0 y k cross_is_scaled_y denom_is_product_of_squares D-pos (simp (mul_assoc, mul_left_comm, mul_comm)) (sym (add-zero k)) (omega arith) (omega arith))

  -- (b13² + v0 (b12 b13 - b11 b23)) / b11
  offset_is_centre_squared : Num ((b.b13 *₆₄ b.b13 +₆₄ v0 b *₆₄ (b.b12 *₆₄ b.b13 -₆₄ b.b11 *₆₄ b.b23)) /₆₄ b.b11) s (x * x * (q * q) + y * y * (p * p)) (k + k)
  offset_is_centre_squared =
      let w = b.b12 *₆₄ b.b13 -₆₄ b.b11 *₆₄ b.b23 in
      let n1 = x * (q * q) * (x * (q * q)) in
      let n2 = y * (q * q * (y * (p * p))) in
      let n = x * x * (q * q) + y * y * (p * p) in
      let l1 : n1 ≤ 256 * 65536 * (256 * 65536) = mul-le-mul (mul-le-mul x-le square_of_q_at_most) (mul-le-mul x-le square_of_q_at_most) in
      let l2 : n2 ≤ 256 * (65536 * (256 * 65536)) = mul-le-mul y-le (mul-le-mul square_of_q_at_most (mul-le-mul y-le square_of_p_at_most)) in
      let l3 : x * x * (q * q) ≤ 256 * 256 * 65536 = mul-le-mul (mul-le-mul x-le x-le) square_of_q_at_most in
      let l4 : y * y * (p * p) ≤ 256 * 256 * 65536 = mul-le-mul (mul-le-mul y-le y-le) square_of_p_at_most in
      let s1 =
      num_with_equal_sign (b.b13 *₆₄ b.b13) (unlike (unlike s (not sx)) (unlike s (not sx))) false n1 (k + k) (unlike_itself (unlike s (not sx)))
      (num_mul b.b13 b.b13 (unlike s (not sx)) (unlike s (not sx)) (x * (q * q)) (x * (q * q)) k k n1 (k + k) c.b13 c.b13 refl refl (omega arith) (omega arith)) in
      let s2 =
      num_with_equal_sign (v0 b *₆₄ w) (unlike sy sy) false n2 (k + k) (unlike_itself sy)
      (num_mul (v0 b) w sy sy y (q * q * (y * (p * p))) k k n2 (k + k) v0_is_y cross_is_scaled_y refl refl (omega arith) (omega arith)) in
      let s3 = num_add (b.b13 *₆₄ b.b13) (v0 b *₆₄ w) false n1 n2 (n1 + n2) (k + k) s1 s2 refl (omega arith) (omega arith) in
      let e : n1 + n2 ≡ n * (q * q) = simp (add-mul, mul_assoc, mul_left_comm, mul_comm) in
      num_with_equal_sign ((b.b13 *₆₄ b.b13 +₆₄ v0 b *₆₄ w) /₆₄ b.b11) (unlike false s) s n (k + k) (unlike_false_first s)
      (num_div (b.b13 *₆₄ b.b13 +₆₄ v0 b *₆₄ w) b.b11 false s (n1 + n2) (q * q) (k + k) 0 n (k + k) s3 c.b11 (mul-pos q-pos q-pos) e (sym (add-zero (k + k))) (omega arith) (omega arith))

  lambda_is_product_of_squares : Num (lambda b) s (p * p * (q * q)) (k + k)
  lambda_is_product_of_squares =
      let n : p * p * (q * q) ≤ 65536 * 65536 = mul-le-mul square_of_p_at_most square_of_q_at_most in
      num_sub_like_signs b.b33 ((b.b13 *₆₄ b.b13 +₆₄ v0 b *₆₄ (b.b12 *₆₄ b.b13 -₆₄ b.b11 *₆₄ b.b23)) /₆₄ b.b11) s
      (x * x * (q * q) + y * y * (p * p) + p * p * (q * q)) (x * x * (q * q) + y * y * (p * p)) (p * p * (q * q)) (k + k) c.b33 offset_is_centre_squared refl (omega arith) (omega arith)

  ratio_is_square_of_p : Num (lambda b /₆₄ b.b11) false (p * p) (k + k)
  ratio_is_square_of_p =
      num_with_equal_sign (lambda b /₆₄ b.b11) (unlike s s) false (p * p) (k + k) (unlike_itself s)
      (num_div (lambda b) b.b11 s s (p * p * (q * q)) (q * q) (k + k) 0 (p * p) (k + k) lambda_is_product_of_squares c.b11 (mul-pos q-pos q-pos) refl (sym (add-zero (k + k))) (omega (arith, square_of_p_at_most)) (omega arith))

  alpha_is_p : Num (alpha b) false p k
  alpha_is_p = num_root (lambda b /₆₄ b.b11) (p * p) (k + k) p k (div-fits binary64 (lambda b) b.b11) ratio_is_square_of_p p-pos refl refl (omega arith) (omega arith)

  beta_is_q : Num (beta b) false q k
  unfolding D
  beta_is_q =
      let t = p * p * (q * q) * (q * q) in
      let n : t ≤ 65536 * 65536 * 65536 = mul-le-mul (mul-le-mul square_of_p_at_most square_of_q_at_most) square_of_q_at_most in
      let m =
      num_with_equal_sign (lambda b *₆₄ b.b11) (unlike s s) false t (k + k) (unlike_itself s)
      (num_mul (lambda b) b.b11 s s (p * p * (q * q)) (q * q) (k + k) 0 t (k + k) lambda_is_product_of_squares c.b11 refl (sym (add-zero (k + k))) (omega arith) (omega arith)) in
      let r = num_div (lambda b *₆₄ b.b11) (denom b) false false t D (k + k) 0 (q * q) (k + k) m denom_is_product_of_squares D-pos (simp (mul_assoc, mul_left_comm, mul_comm)) (sym (add-zero (k + k))) (omega (arith, square_of_q_at_most)) (omega arith) in
      num_root (lambda b *₆₄ b.b11 /₆₄ denom b) (q * q) (k + k) q k (div-fits binary64 (lambda b *₆₄ b.b11) (denom b)) r q-pos refl refl (omega arith) (omega arith)

  gamma_is_zero : Num (gamma b) true 0 0
  gamma_is_zero =
      let o = num_zero (neg b.b12) (not s) true 0 0 (whole_neg b.b12 s (0 * 1) c.b12) in
      let o1 = num_zero_times (neg b.b12) (alpha b) true false p k o alpha_is_p (omega arith) in
      let o2 = num_zero_times (neg b.b12 *₆₄ alpha b) (alpha b) true false p k o1 alpha_is_p (omega arith) in
      let o3 = num_zero_times (neg b.b12 *₆₄ alpha b *₆₄ alpha b) (beta b) true false q k o2 beta_is_q (omega arith) in
      num_zero_over (neg b.b12 *₆₄ alpha b *₆₄ alpha b *₆₄ beta b) (lambda b) true s (p * p * (q * q)) (k + k) o3 lambda_is_product_of_squares (mul-pos (mul-pos p-pos p-pos) (mul-pos q-pos q-pos)) (omega arith)

  u0_is_x : Num (u0 b) sx x k
  u0_is_x =
      let n1 = x * (q * q) * p in
      let l1 : n1 ≤ 256 * 65536 * 256 = mul-le-mul (mul-le-mul x-le square_of_q_at_most) p-le in
      let l2 : n1 * p ≤ 256 * 65536 * 256 * 256 = mul-le-mul l1 p-le in
      let o = num_zero_over (gamma b *₆₄ v0 b) (beta b) true false q k (num_zero_times (gamma b) (v0 b) true sy y k gamma_is_zero v0_is_y (omega arith)) beta_is_q q-pos (omega arith) in
      let t = unlike s (not sx) in
      let h1 = num_with_equal_sign (b.b13 *₆₄ alpha b) (unlike t false) t n1 (k + k) (unlike_false t)
      (num_mul b.b13 (alpha b) t false (x * (q * q)) p k k n1 (k + k) c.b13 alpha_is_p refl refl (omega arith) (omega arith)) in
      let h2 = num_with_equal_sign (b.b13 *₆₄ alpha b *₆₄ alpha b) (unlike t false) t (n1 * p) (k + k + k) (unlike_false t)
      (num_mul (b.b13 *₆₄ alpha b) (alpha b) t false n1 p (k + k) k (n1 * p) (k + k + k) h1 alpha_is_p refl refl (omega arith) (omega arith)) in
      let h3 = num_with_equal_sign (b.b13 *₆₄ alpha b *₆₄ alpha b /₆₄ lambda b) (unlike t s) (not sx) x k (unlike_again s (not sx))
      (num_div (b.b13 *₆₄ alpha b *₆₄ alpha b) (lambda b) t s (n1 * p) (p * p * (q * q)) (k + k + k) (k + k) x k h2 lambda_is_product_of_squares (mul-pos (mul-pos p-pos p-pos) (mul-pos q-pos q-pos))
      (simp (mul_assoc, mul_left_comm, mul_comm)) (omega arith) (omega arith) (omega arith)) in
      num_sub (gamma b *₆₄ v0 b /₆₄ beta b) (b.b13 *₆₄ alpha b *₆₄ alpha b /₆₄ lambda b) sx 0 x x k (num_zero (gamma b *₆₄ v0 b /₆₄ beta b) true sx 0 k o) h3 (sym (zero-add x)) (omega arith) (omega arith)

  norm_is_sum_of_squares : Num (norm b) false (q * q * (q * q) + p * p * (p * p)) 0
  norm_is_sum_of_squares =
      let l1 : q * q * (q * q) ≤ 65536 * 65536 = mul-le-mul square_of_q_at_most square_of_q_at_most in
      let l2 : p * p * (p * p) ≤ 65536 * 65536 = mul-le-mul square_of_p_at_most square_of_p_at_most in
      let m1 = num_with_equal_sign (b.b11 *₆₄ b.b11) (unlike s s) false (q * q * (q * q)) 0 (unlike_itself s)
      (num_mul b.b11 b.b11 s s (q * q) (q * q) 0 0 (q * q * (q * q)) 0 c.b11 c.b11 refl refl (omega arith) (omega arith)) in
      let m2 = num_with_equal_sign (b.b22 *₆₄ b.b22) (unlike s s) false (p * p * (p * p)) 0 (unlike_itself s)
      (num_mul b.b22 b.b22 s s (p * p) (p * p) 0 0 (p * p * (p * p)) 0 c.b22 c.b22 refl refl (omega arith) (omega arith)) in
      num_add (b.b11 *₆₄ b.b11) (b.b22 *₆₄ b.b22) false (q * q * (q * q)) (p * p * (p * p)) (q * q * (q * q) + p * p * (p * p)) 0 m1 m2 refl (omega arith) (omega arith)

  -- ---- the tests pass
  conic_is_definite : lt least_definite (denom b /₆₄ norm b) ≡ true
  unfolding D
  conic_is_definite =
      let P : 0 < p * p = mul-pos p-pos p-pos in
      let Q : 0 < q * q = mul-pos q-pos q-pos in
      let l1 : q * q * (q * q) ≤ q * q * (65536 * (p * p)) = mul-le-mul_left (q * q) (omega (arith, square_of_q_at_most)) in
      let l2 : p * p * (p * p) ≤ p * p * (65536 * (q * q)) = mul-le-mul_left (p * p) (omega (arith, square_of_p_at_most)) in
      let e1 : q * q * (65536 * (p * p)) ≡ 65536 * (q * q * (p * p)) = mul_left_comm (q * q) 65536 (p * p) in
      let e2 : p * p * (65536 * (q * q)) ≡ 65536 * (q * q * (p * p)) = mul_left_comm (p * p) 65536 (q * q) ∙ ap (λ (n : ℕ). 65536 * n) (mul_comm (p * p) (q * q)) in
      let N : 0 < q * q * (q * q) = mul-pos Q Q in
      lt_le_trans least_definite (round binary64 false 1 524288) (denom b /₆₄ norm b) least_definite_is_small
      (div_at_least (denom b) (norm b) (D * 1) ((q * q * (q * q) + p * p * (p * p)) * 1) 1 524288 (omega (arith, D-pos)) (omega arith) (omega arith) denom_is_product_of_squares norm_is_sum_of_squares (omega arith))

  b11_is_not_small : le (abs_of b.b11) least_b11 ≡ false
  b11_is_not_small = go (le (abs_of b.b11) least_b11) refl
    where
      n : 0 < q * q * 1
      n = let Q : 0 < q * q = mul-pos q-pos q-pos in omega arith

      go : (r : Bool) → le (abs_of b.b11) least_b11 ≡ r → r ≡ false
      go true h = absurd (true≢false (sym (whole_size_above_least_b11 b.b11 s (q * q * 1) n c.b11) ∙ le_not_lt (abs_of b.b11) least_b11 h))
      go false h = refl

  scaled_positive : (n z : ℕ) → 0 < n → 0 < n * 2 ^ z
  scaled_positive n z h = mul-pos h (pow_pos z)

  conic_gives_its_camera : from_homographies b ≡ Ok (record { fx = alpha b; fy = beta b; cx = u0 b; cy = v0 b })
  unfolding definite from_homographies
  conic_gives_its_camera =
      let P : 0 < p * p = mul-pos p-pos p-pos in
      let Q : 0 < q * q = mul-pos q-pos q-pos in
      let N : 0 < q * q * (q * q) = mul-pos Q Q in
      simp (
        whole_above_zero (norm b) ((q * q * (q * q) + p * p * (p * p)) * 1) (omega arith) norm_is_sum_of_squares,
        conic_is_definite,
        b11_is_not_small,
        whole_above_zero (lambda b /₆₄ b.b11) (p * p * 2 ^ (k + k)) (scaled_positive (p * p) (k + k) P) ratio_is_square_of_p,
      )

  pub recovered : (f : FxFyCxCy) → Num f.fx false p k → Num f.fy false q k → Num f.cx sx x k → Num f.cy sy y k → Recovered f (from_homographies b)
  recovered f fx fy cx cy =
      record {
        camera = record { fx = alpha b; fy = beta b; cx = u0 b; cy = v0 b };
        reply = conic_gives_its_camera;
        fx = wholes_compare_equal (alpha b) f.fx false (p * 2 ^ k) alpha_is_p fx;
        fy = wholes_compare_equal (beta b) f.fy false (q * 2 ^ k) beta_is_q fy;
        cx = wholes_compare_equal (u0 b) f.cx sx (x * 2 ^ k) u0_is_x cx;
        cy = wholes_compare_equal (v0 b) f.cy sy (y * 2 ^ k) v0_is_y cy;
      }

pub camera_recovered : CameraRecovered
camera_recovered = record { recovered = recovered }
