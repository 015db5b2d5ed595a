-- No scored finding has a score below its seed's tilt penalty, rounding included: the mean is not below 0, nor is the distortion's penalty, and the centre's is 0 or
-- NaN. Assumes nothing.
use Rattle.std.specs.Prelude.{◌≡◌, refl, T, Float}
use Rattle.std.proofs.Math.Path.{ap}
use Rattle.std.proofs.Common.{◌∙◌}
use Rattle.std.proofs.Math.Bool.{false}
use Rattle.std.specs.Float.Ieee.{binary64, of_bits, lt, is_nan, fits}
use Rattle.std.specs.Float.Ieee.Fits.{add-fits, mul-fits}
use Rattle.common.specs.Tests.{case}
use Rattle.float.specs.Binary64.{◌+₆₄◌, ◌*₆₄◌}
use Rattle.float.specs.Float.{sign_bit}
use Rattle.float.specs.Literals.{plus_zero}
use Rattle.float.specs.Sign.{unsigned_not_below, sign_add, sign_mul, sign_square}
use Rattle.float_laws.specs.NotBelow.{not_below_trans, nan_not_below}
use Rattle.float_laws.specs.Squares.{product_by_number_twice_has_no_minus}
use Rattle.float_laws.specs.Sums.{terms_of_sum_not_nan, add_commutes, sum_not_below_second, sum_not_below_zero}
use Rattle.camera.specs.declared.math.Pt2.{Pt2}
use Rattle.camera.specs.declared.intrinsics.FxFyCxCy.{FxFyCxCy}
use Rattle.camera.specs.declared.distortion.BrownConrady5.{BrownConrady5}
use Rattle.camera.specs.declared.sensor.ScheimpflugParams.{ScheimpflugParams}
use Rattle.score.specs.declared.pinhole.PinholeCamera.{PinholeCamera}
use Rattle.score.specs.Penalties.{quarter, distortion_penalty, tilt_penalty, centre_penalty, score_of}

-- ---- the penalties have no minus sign, for every camera and every centre
quarter_unsigned : sign_bit quarter ≡ false
unfolding sign_bit of_bits
quarter_unsigned = refl

plus_zero_unsigned : sign_bit plus_zero ≡ false
unfolding sign_bit of_bits
plus_zero_unsigned = refl

abbrev Unsigned : Float → Type 0
Unsigned x = sign_bit x ≡ false

product_unsigned : (x y : Float) → Unsigned x → Unsigned y → Unsigned (x *₆₄ y)
product_unsigned x y h k = sign_mul binary64 x y (rw (h, k) refl)

distortion_penalty_unsigned : (d : BrownConrady5) → Unsigned (distortion_penalty d)
unfolding distortion_penalty
distortion_penalty_unsigned d =
    product_unsigned quarter _ quarter_unsigned
    (sign_add binary64 _ _
    (sign_add binary64 _ _ (sign_add binary64 _ _ (sign_square binary64 d.k1) (sign_square binary64 d.k2)) (product_by_number_twice_has_no_minus binary64 quarter d.k3 quarter_unsigned))
    (sign_add binary64 _ _ (sign_square binary64 d.p1) (sign_square binary64 d.p2)))

centre_penalty_unsigned : (k : FxFyCxCy) (center : Pt2) → Unsigned (centre_penalty k center)
unfolding centre_penalty
centre_penalty_unsigned k center = product_unsigned plus_zero _ plus_zero_unsigned (sign_add binary64 _ _ (sign_square binary64 _) (sign_square binary64 _))

distortion_fits : (d : BrownConrady5) → T (fits binary64 (distortion_penalty d))
unfolding distortion_penalty
distortion_fits d = mul-fits binary64 quarter _

tilt_fits : (s : ScheimpflugParams) → T (fits binary64 (tilt_penalty s))
unfolding tilt_penalty
tilt_fits s = mul-fits binary64 quarter _

-- ---- the score of a mean that isn't below 0
module _ (mean : Float) (c : PinholeCamera) (sensor : ScheimpflugParams) (center : Pt2) where
  pub score_not_below_tilt_penalty : lt mean plus_zero ≡ false → lt (score_of mean c sensor center) (tilt_penalty sensor) ≡ false
  unfolding score_of
  score_not_below_tilt_penalty h =
      let d = distortion_penalty c.dist in
      let t = tilt_penalty sensor in
      let z = centre_penalty c.k center in
      let a = mean +₆₄ d +₆₄ t in
      let first : lt a t ≡ false = sum_not_below_second (mean +₆₄ d) t (tilt_fits sensor) (sum_not_below_zero mean d (distortion_fits c.dist) h (unsigned_not_below d (distortion_penalty_unsigned c.dist))) in
      let then : lt (a +₆₄ z) a ≡ false = ap (λ (x : Float). lt x a) (add_commutes binary64 a z) ∙ sum_not_below_second z a (add-fits binary64 (mean +₆₄ d) t) (unsigned_not_below z (centre_penalty_unsigned c.k center)) in
      case (is_nan (a +₆₄ z))
      (λ n. nan_not_below (a +₆₄ z) t n)
      (λ n. not_below_trans (a +₆₄ z) a t (terms_of_sum_not_nan binary64 a z n).0 then first)

  pub tilt_penalty_is_number : is_nan (score_of mean c sensor center) ≡ false → is_nan (tilt_penalty sensor) ≡ false
  unfolding score_of
  tilt_penalty_is_number n = (terms_of_sum_not_nan binary64 (mean +₆₄ distortion_penalty c.dist) (tilt_penalty sensor) (terms_of_sum_not_nan binary64 (mean +₆₄ distortion_penalty c.dist +₆₄ tilt_penalty sensor) (centre_penalty c.k center) n).0).1
