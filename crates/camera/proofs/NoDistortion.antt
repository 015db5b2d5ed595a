-- What the distortion does where all five coefficients are 0: the proof of specs/Theorem.antt. Assumes nothing.
use Rattle.std.specs.Prelude.{◌≡◌, refl, Bool, true, false, not, cond, ◌&&◌, zero, suc, ◌*◌, T, pos, Float}
use Rattle.std.proofs.Common.{sym, ap, ◌∙◌, arith}
use Rattle.std.specs.Bool.{beq}
use Rattle.std.proofs.Math.Bool.{not-not, and_comm}
use Rattle.std.proofs.Math.Dec.{eqb-suc-zero}
use Rattle.std.specs.Float.{nan, inf, fin}
use Rattle.std.specs.Float.Ieee.{binary64, of_bits, fits, unlike, up, down, add, mul, eq}
use Rattle.float.specs.Float.{is_finite, sign_bit}
use Rattle.float.specs.Sign.{eq_zero, fitting_zero_has_exponent_zero, unlike_false, sign_round, sign_add, sign_mul, sign_square}
use Rattle.float.specs.Literals.{plus_zero, one₆₄, two₆₄, zero_of}
use Rattle.float.specs.Binary64.{◌+₆₄◌, ◌*₆₄◌}
use Rattle.float.specs.Zero.{mul_nan, add_nan, finite_factors, zero_times, times_zero, zero_times_not_finite_is_nan, zeros_add, plus_zero_unless, value_plus_zero_of, mul_one₆₄}
use Rattle.float_laws.specs.Reaches.{Reaches, zero_reached, below_of_result_below, finite_below, mul_reaches, squares_reach}
use Rattle.float_laws.specs.Limited.{Limited, below_limited, mul_limited, add_limited}
use Rattle.camera.specs.Distortion.{squared_norm, radial_factor, tangential_x, tangential_y, distorted}
use Rattle.camera.specs.declared.math.Pt2.{Pt2}
use Rattle.camera.specs.declared.distortion.BrownConrady5.{BrownConrady5}
use Rattle.camera.specs.NoDistortion.{AllZero, sixth_power, keeps_minus, without_distortion, large, product_sign}

-- ---- the radial factor
one_plus_zero : (s : Bool) → one₆₄ +₆₄ zero_of s ≡ one₆₄
unfolding of_bits add
one_plus_zero true = refl
one_plus_zero false = refl

radial_one : (b : BrownConrady5) (p : Pt2) → AllZero b → is_finite (sixth_power p) ≡ true → radial_factor b p ≡ one₆₄
unfolding radial_factor
radial_one b p z f =
    let g = finite_factors binary64 (squared_norm p *₆₄ squared_norm p) (squared_norm p) f in
    rw (
      zero_times b.k1 (squared_norm p) z.0 g.1,
      one_plus_zero _,
      zero_times b.k2 (squared_norm p *₆₄ squared_norm p) z.1.0 g.0,
      one_plus_zero _,
      zero_times b.k3 (sixth_power p) z.1.1.0 f,
      one_plus_zero _,
    )

radial_nan : (b : BrownConrady5) (p : Pt2) → AllZero b → is_finite (sixth_power p) ≡ false → radial_factor b p ≡ nan
unfolding radial_factor
radial_nan b p z f = rw (zero_times_not_finite_is_nan b.k3 (sixth_power p) z.1.1.0 f) (add_nan binary64 _)

-- ---- the tangential parts multiply p1 and p2, which are 0, by numbers that are not negative
squared_norm_has_no_minus : (p : Pt2) → sign_bit (squared_norm p) ≡ false
squared_norm_has_no_minus p = sign_add binary64 (p.x *₆₄ p.x) (p.y *₆₄ p.y) (sign_square binary64 p.x) (sign_square binary64 p.y)

sign_of_double : (x : Float) → sign_bit (two₆₄ *₆₄ x) ≡ sign_bit x
unfolding sign_bit mul of_bits
sign_of_double nan = refl
sign_of_double (inf true) = refl
sign_of_double (inf false) = refl
sign_of_double (fin true m e) = sign_round binary64 true (2 * (m * up e)) (1 * down e)
sign_of_double (fin false m e) = sign_round binary64 false (2 * (m * up e)) (1 * down e)

bracket_has_no_minus : (p : Pt2) (x : Float) → sign_bit (squared_norm p +₆₄ two₆₄ *₆₄ x *₆₄ x) ≡ false
bracket_has_no_minus p x = sign_add binary64 (squared_norm p) (two₆₄ *₆₄ x *₆₄ x) (squared_norm_has_no_minus p) (sign_mul binary64 (two₆₄ *₆₄ x) x (sign_of_double x))

large_coordinate_overflows : (let n = large *₆₄ large +₆₄ plus_zero *₆₄ plus_zero in n *₆₄ n ≡ inf false) × (let n = plus_zero *₆₄ plus_zero +₆₄ large *₆₄ large in n *₆₄ n ≡ inf false)
unfolding of_bits mul add
large_coordinate_overflows = (refl, refl)

r4_reaches : (p : Pt2) (a b : Float) → Reaches p.x a → Reaches p.y b → let n = a *₆₄ a +₆₄ b *₆₄ b in Reaches (squared_norm p *₆₄ squared_norm p) (n *₆₄ n)
r4_reaches p a b h k = let r = squares_reach binary64 p.x p.y a b h k in mul_reaches binary64 (squared_norm p) (squared_norm p) _ _ r r

-- for coordinates of at most 2 ^ 256 the terms of the tangential parts don't overflow
large_terms_are_finite :
    let n = large *₆₄ large +₆₄ large *₆₄ large in
    (is_finite (large *₆₄ large) ≡ true) × ((is_finite n ≡ true) × ((is_finite (two₆₄ *₆₄ large) ≡ true) × ((is_finite (two₆₄ *₆₄ large *₆₄ large) ≡ true) × (is_finite (n +₆₄ two₆₄ *₆₄ large *₆₄ large) ≡ true))))
unfolding of_bits mul add is_finite
large_terms_are_finite = (refl, (refl, (refl, (refl, refl))))

two_limited : Limited two₆₄ two₆₄
unfolding of_bits is_finite
two_limited = record { finite = refl; reached = omega arith }

module _ (p : Pt2) (f : is_finite (squared_norm p *₆₄ squared_norm p) ≡ true) where
  small_x : Limited large p.x
  small_x = below_limited p.x large (below_of_result_below p.x large (squared_norm p *₆₄ squared_norm p) (inf false) (λ r. rw large_coordinate_overflows.0 at (r4_reaches p large plus_zero r (zero_reached p.y))) (finite_below _ f))

  small_y : Limited large p.y
  small_y = below_limited p.y large (below_of_result_below p.y large (squared_norm p *₆₄ squared_norm p) (inf false) (λ r. rw large_coordinate_overflows.1 at (r4_reaches p plus_zero large (zero_reached p.x) r)) (finite_below _ f))

  bracket_finite : (x : Float) → Limited large x → is_finite (squared_norm p +₆₄ two₆₄ *₆₄ x *₆₄ x) ≡ true
  bracket_finite x h =
      let norm = add_limited (sign_square binary64 large) (sign_square binary64 large) (mul_limited small_x small_x large_terms_are_finite.0) (mul_limited small_y small_y large_terms_are_finite.0) large_terms_are_finite.1.0 in
      let twice = mul_limited (mul_limited two_limited h large_terms_are_finite.1.1.0) h large_terms_are_finite.1.1.1.0 in
      (add_limited (squared_norm_has_no_minus (record { x = large; y = large })) (sign_mul binary64 (two₆₄ *₆₄ large) large (sign_of_double large)) norm twice large_terms_are_finite.1.1.1.1).finite

-- ---- both tangential parts are zeros
zero_by_positive : (k x : Float) → eq k plus_zero ≡ true → is_finite x ≡ true → sign_bit x ≡ false → k *₆₄ x ≡ zero_of (sign_bit k)
zero_by_positive k x z f h = rw (zero_times k x z f, h, unlike_false (sign_bit k))

twice_zero : (k : Float) → eq k plus_zero ≡ true → two₆₄ *₆₄ k ≡ zero_of (sign_bit k)
unfolding of_bits is_finite sign_bit
twice_zero k z = times_zero two₆₄ k refl z ∙ ap zero_of (not-not (sign_bit k))

zero_times_number : (s : Bool) (x : Float) → is_finite x ≡ true → zero_of s *₆₄ x ≡ zero_of (unlike s (sign_bit x))
unfolding sign_bit
zero_times_number s x f = zero_times (zero_of s) x (eq_zero s 0 (pos 0)) f

module _ (b : BrownConrady5) (p : Pt2) (z : AllZero b) (f : is_finite (squared_norm p *₆₄ squared_norm p) ≡ true) where
  zero_product : (k : Float) → eq k plus_zero ≡ true → two₆₄ *₆₄ k *₆₄ p.x *₆₄ p.y ≡ zero_of (product_sign k p)
  zero_product k h =
      rw (twice_zero k h, zero_times_number (sign_bit k) p.x (small_x p f).finite)
      (zero_times_number (unlike (sign_bit k) (sign_bit p.x)) p.y (small_y p f).finite)

  tangential_x_is_zero : tangential_x b p ≡ zero_of (product_sign b.p1 p && sign_bit b.p2)
  unfolding tangential_x
  tangential_x_is_zero =
      rw (
        zero_product b.p1 z.1.1.1.0,
        zero_by_positive b.p2 (squared_norm p +₆₄ two₆₄ *₆₄ p.x *₆₄ p.x) z.1.1.1.1 (bracket_finite p f p.x (small_x p f)) (bracket_has_no_minus p p.x),
      )
      (zeros_add _ _)

  tangential_y_is_zero : tangential_y b p ≡ zero_of (sign_bit b.p1 && product_sign b.p2 p)
  unfolding tangential_y
  tangential_y_is_zero =
      rw (
        zero_product b.p2 z.1.1.1.1,
        zero_by_positive b.p1 (squared_norm p +₆₄ two₆₄ *₆₄ p.y *₆₄ p.y) z.1.1.1.0 (bracket_finite p f p.y (small_y p f)) (bracket_has_no_minus p p.y),
      )
      (zeros_add _ _)

-- ---- the theorem
either_zero_is_plus_zero : (c : Bool) → cond c plus_zero (zero_of false) ≡ zero_of false
unfolding of_bits
either_zero_is_plus_zero true = refl
either_zero_is_plus_zero false = refl

-- the sign of an added zero matters only where x is −0
added_zero_matters_to_minus_zero : (x : Float) → T (fits binary64 x) → (c d : Bool) → (sign_bit x ≡ true → c ≡ d) → plus_zero_unless c x ≡ plus_zero_unless d x
unfolding sign_bit eq of_bits
added_zero_matters_to_minus_zero nan h c d e = refl
added_zero_matters_to_minus_zero (inf s) h c d e = refl
added_zero_matters_to_minus_zero (fin true m e) h c d q = rw (q refl)
added_zero_matters_to_minus_zero (fin false zero e) h c d q = rw (fitting_zero_has_exponent_zero false e h) (either_zero_is_plus_zero (not c) ∙ sym (either_zero_is_plus_zero (not d)))
added_zero_matters_to_minus_zero (fin false (suc m) e) h c d q = simp (eq_zero false (suc m) e, eqb-suc-zero m)

coordinate_kept : (x : Float) → T (fits binary64 x) → (c d : Bool) → (sign_bit x ≡ true → c ≡ d) → x *₆₄ one₆₄ +₆₄ zero_of c ≡ plus_zero_unless d x
coordinate_kept x h c d q = rw (mul_one₆₄ x h, value_plus_zero_of x c h) (added_zero_matters_to_minus_zero x h c d q)

unlike_minus_first : (s t : Bool) → unlike (unlike s true) t ≡ beq s t
unlike_minus_first true true = refl
unlike_minus_first true false = refl
unlike_minus_first false true = refl
unlike_minus_first false false = refl

unlike_minus_last : (s t : Bool) → unlike (unlike s t) true ≡ beq s t
unlike_minus_last true true = refl
unlike_minus_last true false = refl
unlike_minus_last false true = refl
unlike_minus_last false false = refl

module _ (b : BrownConrady5) (p : Pt2) (z : AllZero b) (h : T (fits binary64 p.x)) (k : T (fits binary64 p.y)) where
  x_kept_but_for_zero_sign : p.x *₆₄ one₆₄ +₆₄ zero_of (product_sign b.p1 p && sign_bit b.p2) ≡ plus_zero_unless (keeps_minus b.p2 b.p1 p.y) p.x
  x_kept_but_for_zero_sign = coordinate_kept p.x h (product_sign b.p1 p && sign_bit b.p2) (keeps_minus b.p2 b.p1 p.y) (λ m. rw (m, unlike_minus_first (sign_bit b.p1) (sign_bit p.y)) (and_comm _ (sign_bit b.p2)))

  y_kept_but_for_zero_sign : p.y *₆₄ one₆₄ +₆₄ zero_of (sign_bit b.p1 && product_sign b.p2 p) ≡ plus_zero_unless (keeps_minus b.p1 b.p2 p.x) p.y
  y_kept_but_for_zero_sign = coordinate_kept p.y k (sign_bit b.p1 && product_sign b.p2 p) (keeps_minus b.p1 b.p2 p.x) (λ m. rw (m, unlike_minus_last (sign_bit b.p2) (sign_bit p.x)))

  point_kept_where_r6_finite : is_finite (sixth_power p) ≡ true → distorted b p ≡ record { x = plus_zero_unless (keeps_minus b.p2 b.p1 p.y) p.x; y = plus_zero_unless (keeps_minus b.p1 b.p2 p.x) p.y }
  unfolding distorted
  point_kept_where_r6_finite f =
      let g = (finite_factors binary64 (squared_norm p *₆₄ squared_norm p) (squared_norm p) f).0 in
      rw (radial_one b p z f, tangential_x_is_zero b p z g, tangential_y_is_zero b p z g, x_kept_but_for_zero_sign, y_kept_but_for_zero_sign)

  point_lost_where_r6_not_finite : is_finite (sixth_power p) ≡ false → distorted b p ≡ record { x = nan; y = nan }
  unfolding distorted
  point_lost_where_r6_not_finite f = rw (radial_nan b p z f, mul_nan binary64 p.x, mul_nan binary64 p.y) (unfold add in refl)

  pub distorted_without_distortion : distorted b p ≡ without_distortion b p
  distorted_without_distortion =
      elim (is_finite (sixth_power p)) as (λ (v : Bool). is_finite (sixth_power p) ≡ v → distorted b p ≡ without_distortion b p) [
        | true ↦ λ f. rw f (point_kept_where_r6_finite f)
        | false ↦ λ f. rw f (point_lost_where_r6_not_finite f)
      ] refl
