-- Signs of products: a product that is no NaN has a minus sign exactly where its factors have unlike signs, and a value
-- without one that is multiplied twice by the same number has none. Assumes nothing.
use Rattle.std.specs.Prelude.{◌≡◌, refl, Bool, true, false, ◌*◌, eqb, Float}
use Rattle.std.proofs.Common.{ap, ◌∙◌, true≢false}
use Rattle.std.specs.Float.{nan, inf, fin, Format}
use Rattle.std.specs.Float.Ieee.{mul, up, down, unlike, is_nan}
use Rattle.common.specs.Tests.{case}
use Rattle.float.specs.Float.{sign_bit}
use Rattle.float.specs.Nan.{is_nan_gives_nan}
use Rattle.float.specs.Sign.{sign_round, sign_mul}

pub product_sign_of_factors : (f : Format) (x y : Float) → is_nan (mul f x y) ≡ false → sign_bit (mul f x y) ≡ unlike (sign_bit x) (sign_bit y)
unfolding sign_bit mul is_nan
product_sign_of_factors f nan y h = absurd (true≢false h)
product_sign_of_factors f (inf s) nan h = absurd (true≢false h)
product_sign_of_factors f (inf s) (inf t) h = refl
product_sign_of_factors f (inf s) (fin t n d) h = case (eqb n 0) (λ e. absurd (true≢false (rw e at h))) (λ e. rw e)
product_sign_of_factors f (fin s m e) nan h = absurd (true≢false h)
product_sign_of_factors f (fin s m e) (inf t) h = case (eqb m 0) (λ z. absurd (true≢false (rw z at h))) (λ z. rw z)
product_sign_of_factors f (fin s m e) (fin t n d) h = sign_round f (unlike s t) (m * up e * (n * up d)) (down e * down d)

nan_product_has_no_minus : (f : Format) (x : Float) → sign_bit (mul f nan x) ≡ false
unfolding mul sign_bit
nan_product_has_no_minus f x = refl

unlike_of_plus : (s t : Bool) → s ≡ false → unlike s t ≡ t
unlike_of_plus false true h = refl
unlike_of_plus false false h = refl
unlike_of_plus true t h = absurd (true≢false h)

pub product_by_number_twice_has_no_minus : (f : Format) (q x : Float) → sign_bit q ≡ false → sign_bit (mul f (mul f q x) x) ≡ false
product_by_number_twice_has_no_minus f q x h =
    case (is_nan (mul f q x))
    (λ n. ap (λ (z : Float). sign_bit (mul f z x)) (is_nan_gives_nan (mul f q x) n) ∙ nan_product_has_no_minus f x)
    (λ n. sign_mul f (mul f q x) x (product_sign_of_factors f q x n ∙ unlike_of_plus (sign_bit q) (sign_bit x) h))
