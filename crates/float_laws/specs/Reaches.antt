-- Rounded operations keep the order of magnitudes, in either format, with overflow and NaN: `Reaches x b` says that x
-- is of no smaller magnitude than b, unless one is NaN, and holds of two results where it holds of their operands. So a
-- bound on a formula is the formula at bounds of its operands, which computes where they are literals. Assumes nothing.
use Rattle.std.specs.Prelude.{◌≡◌, refl, Bool, true, false, cond, ℕ, zero, suc, ◌+◌, ◌-◌, ◌*◌, ◌≤◌, ◌<◌, ltb, eqb, ℤ, pos, Float}
use Rattle.std.proofs.Common.{sym, ◌∙◌, true≢false, mul-le-mul, mul-le-mul_right, mul-pos, zero-mul, zero-lt-suc, arith, ltb-false, le-ltb}
use Rattle.std.proofs.Math.Nat.{mul-mul-mul_comm}
use Rattle.std.proofs.Math.Dec.{eqb-suc-zero}
use Rattle.std.specs.Float.{nan, inf, fin, Format}
use Rattle.std.specs.Float.Ieee.{of_bits, up, down, unlike, round, sum, neg, add, sub, mul, div, lt, eq, le, is_nan}
use Rattle.std.specs.Float.Ieee.Bits.{is_true}
use Rattle.std.specs.Float.Ieee.Fits.{up_pos, down_pos}
use Rattle.std.specs.Float.Ieee.Order.{round_mono}
use Rattle.common.specs.Tests.{case}
use Rattle.float.specs.Float.{abs_of, is_finite, sign_bit}
use Rattle.float.specs.Order.{lt_asym, le_not_lt, lt_cotrans}
use Rattle.float.specs.Sign.{sign_square, abs_neg, abs_round, abs_unsigned}
use Rattle.float.specs.Literals.{plus_zero}

-- x is of no smaller magnitude than b, or one is NaN
abbrev pub Reaches : Float → Float → Type 0
Reaches nan b = Unit {0}
Reaches (inf s) b = Unit {0}
Reaches (fin s m e) nan = Unit {0}
Reaches (fin s m e) (inf t) = ⊥
Reaches (fin s m e) (fin t n d) = n * up d * down e ≤ m * up e * down d

-- that is, |x| < |b| is false
pub reaches_of_not_below : (x b : Float) → lt (abs_of x) (abs_of b) ≡ false → Reaches x b
unfolding lt abs_of
reaches_of_not_below nan b h = tt
reaches_of_not_below (inf s) b h = tt
reaches_of_not_below (fin s m e) nan h = tt
reaches_of_not_below (fin s m e) (inf t) h = absurd (true≢false h)
reaches_of_not_below (fin s m e) (fin t n d) h = ltb-false (m * up e * down d) (n * up d * down e) h

pub not_below_of_reaches : (x b : Float) → Reaches x b → lt (abs_of x) (abs_of b) ≡ false
unfolding lt abs_of
not_below_of_reaches nan b h = refl
not_below_of_reaches (inf s) nan h = refl
not_below_of_reaches (inf s) (inf t) h = refl
not_below_of_reaches (inf s) (fin t n d) h = refl
not_below_of_reaches (fin s m e) nan h = refl
not_below_of_reaches (fin s m e) (inf t) h = absurd h
not_below_of_reaches (fin s m e) (fin t n d) h = le-ltb (m * up e * down d) (n * up d * down e) h

-- x is of smaller magnitude than b, and neither is NaN
abbrev pub Below : Float → Float → Type 0
Below x b = lt (abs_of x) (abs_of b) ≡ true

-- as the laws are used: y is below c, which it would reach if x reached b, so x is below b
pub below_of_result_below : (x b y c : Float) → (Reaches x b → Reaches y c) → Below y c → Below x b
below_of_result_below x b y c f h = case (lt (abs_of x) (abs_of b)) (λ e. e) (λ e. absurd (true≢false (sym h ∙ not_below_of_reaches y c (f (reaches_of_not_below x b e)))))

-- then x is finite
pub below_finite : (x b : Float) → Below x b → is_finite x ≡ true
unfolding lt abs_of is_finite
below_finite nan b h = absurd (true≢false (sym h))
below_finite (inf s) nan h = absurd (true≢false (sym h))
below_finite (inf s) (inf t) h = absurd (true≢false (sym h))
below_finite (inf s) (fin t n d) h = absurd (true≢false (sym h))
below_finite (fin s m e) b h = refl

pub below_reached : (x b : Float) → Below x b → Reaches b x
below_reached x b h = reaches_of_not_below b x (lt_asym (abs_of x) (abs_of b) h)

pub finite_below : (x : Float) → is_finite x ≡ true → Below x (inf false)
unfolding lt abs_of is_finite
finite_below nan h = absurd (true≢false (sym h))
finite_below (inf s) h = absurd (true≢false (sym h))
finite_below (fin s m e) h = refl

-- where x has no minus sign and is at most e, and e is below b, x is below b
pub below_of_le : (x e b : Float) → sign_bit x ≡ false → le x e ≡ true → lt e (abs_of b) ≡ true → Below x b
unfolding abs_of sign_bit le lt eq is_nan
below_of_le x e b g h k =
    case (lt (abs_of x) (abs_of b)) (λ l. l)
    (λ l. absurd (true≢false (sym (lt_cotrans e (abs_of b) x (le_number x e h) k (rw (abs_unsigned x g) at l)) ∙ le_not_lt x e h)))
  where
    le_number : (x y : Float) → le x y ≡ true → is_nan x ≡ false
    le_number nan y h = absurd (true≢false (sym h))
    le_number (inf s) y h = refl
    le_number (fin s m e) y h = refl

-- ---- NaN, the infinities, zeros and signs
pub reaches_nan : (x : Float) → Reaches x nan
reaches_nan nan = tt
reaches_nan (inf s) = tt
reaches_nan (fin s m e) = tt

pub reaches_zero : (x : Float) (t : Bool) (d : ℤ) → Reaches x (fin t 0 d)
reaches_zero nan t d = tt
reaches_zero (inf s) t d = tt
reaches_zero (fin s m e) t d = let z = zero-mul (up d) in let w = zero-mul (down e) in omega arith

pub zero_reached : (x : Float) → Reaches x plus_zero
unfolding of_bits
zero_reached x = reaches_zero x false (pos 0)

nan_or_inf_reaches_any : (c s : Bool) (b : Float) → Reaches (cond c nan (inf s)) b
nan_or_inf_reaches_any true s b = tt
nan_or_inf_reaches_any false s b = tt

pub reaches_neg : (x b : Float) → Reaches x b → Reaches x (neg b)
reaches_neg x b h = reaches_of_not_below x (neg b) (rw (abs_neg b) (not_below_of_reaches x b h))

-- ---- a rounded fraction
pub rounds_in_order : (f : Format) (a c b d : ℕ) → 0 < c → 0 < d → b * c ≤ a * d → lt (round f false a c) (round f false b d) ≡ false
rounds_in_order f a c b d p q h = le_not_lt (round f false b d) (round f false a c) (is_true (le (round f false b d) (round f false a c)) (round_mono f b d a c q p h))

pub round_reaches : (f : Format) (s t : Bool) (a c b d : ℕ) → 0 < c → 0 < d → b * c ≤ a * d → Reaches (round f s a c) (round f t b d)
round_reaches f s t a c b d p q h = reaches_of_not_below (round f s a c) (round f t b d) (rw (abs_round f s a c, abs_round f t b d) (rounds_in_order f a c b d p q h))

-- ---- products
pub mul_reaches : (f : Format) (x y b c : Float) → Reaches x b → Reaches y c → Reaches (mul f x y) (mul f b c)
unfolding mul
mul_reaches f nan y b c h k = tt
mul_reaches f (inf s) nan b c h k = tt
mul_reaches f (inf s) (inf t) b c h k = tt
mul_reaches f (inf s) (fin t n d) b c h k = nan_or_inf_reaches_any (eqb n 0) (unlike s t) (mul f b c)
mul_reaches f (fin s m e) nan b c h k = tt
mul_reaches f (fin s m e) (inf t) b c h k = nan_or_inf_reaches_any (eqb m 0) (unlike s t) (mul f b c)
mul_reaches f (fin s m e) (fin t n d) nan c h k = reaches_nan (mul f (fin s m e) (fin t n d))
mul_reaches f (fin s m e) (fin t n d) (inf u) c h k = absurd h
mul_reaches f (fin s m e) (fin t n d) (fin u i g) nan h k = reaches_nan (mul f (fin s m e) (fin t n d))
mul_reaches f (fin s m e) (fin t n d) (fin u i g) (inf v) h k = absurd k
mul_reaches f (fin s m e) (fin t n d) (fin u i g) (fin v j l) h k =
    round_reaches f (unlike s t) (unlike u v) (m * up e * (n * up d)) (down e * down d) (i * up g * (j * up l)) (down g * down l)
    (mul-pos (down_pos e) (down_pos d)) (mul-pos (down_pos g) (down_pos l))
    (rw (mul-mul-mul_comm (i * up g) (j * up l) (down e) (down d), mul-mul-mul_comm (m * up e) (n * up d) (down g) (down l)) (mul-le-mul h k))

-- ---- quotients
pub positive_not_at_most_zero : (n d e k l : ℕ) → 0 < d → 0 < e → suc n * d * e ≤ 0 * k * l → ⊥
positive_not_at_most_zero n d e k l p q h = let r : 0 < suc n * d * e = mul-pos (mul-pos (zero-lt-suc n) p) q in omega arith

quotients_in_order : (m n i j e d g l : ℕ) → i * e ≤ m * g → n * l ≤ j * d → i * l * (n * e) ≤ m * d * (j * g)
quotients_in_order m n i j e d g l h k = let p = mul-le-mul h k in omega arith

pub div_reaches : (f : Format) (x y b c : Float) → Reaches x b → Reaches c y → Reaches (div f x y) (div f b c)
unfolding div
div_reaches f nan y b c h k = tt
div_reaches f (inf s) nan b c h k = tt
div_reaches f (inf s) (inf t) b c h k = tt
div_reaches f (inf s) (fin t n d) b c h k = tt
div_reaches f (fin s m e) nan b c h k = tt
div_reaches f (fin s m e) (inf t) nan c h k = tt
div_reaches f (fin s m e) (inf t) (inf u) c h k = absurd h
div_reaches f (fin s m e) (inf t) (fin u i g) nan h k = tt
div_reaches f (fin s m e) (inf t) (fin u i g) (inf v) h k = omega arith
div_reaches f (fin s m e) (inf t) (fin u i g) (fin v j l) h k = absurd k
div_reaches f (fin s m e) (fin t zero d) b c h k = nan_or_inf_reaches_any (eqb m 0) (unlike s t) (div f b c)
div_reaches f (fin s m e) (fin t (suc n) d) nan c h k = reaches_nan (div f (fin s m e) (fin t (suc n) d))
div_reaches f (fin s m e) (fin t (suc n) d) (inf u) c h k = absurd h
div_reaches f (fin s m e) (fin t (suc n) d) (fin u i g) nan h k = reaches_nan (div f (fin s m e) (fin t (suc n) d))
div_reaches f (fin s m e) (fin t (suc n) d) (fin u i g) (inf v) h k = reaches_zero (div f (fin s m e) (fin t (suc n) d)) (unlike u v) (pos 0)
div_reaches f (fin s m e) (fin t (suc n) d) (fin u i g) (fin v zero l) h k = absurd (positive_not_at_most_zero n (up d) (down l) (up l) (down d) (up_pos d) (down_pos l) k)
div_reaches f (fin s m e) (fin t (suc n) d) (fin u i g) (fin v (suc j) l) h k =
    simp (eqb-suc-zero n, eqb-suc-zero j)
    (round_reaches f (unlike s t) (unlike u v) (m * up e * down d) (suc n * up d * down e) (i * up g * down l) (suc j * up l * down g)
    (mul-pos (mul-pos (zero-lt-suc n) (up_pos d)) (down_pos e)) (mul-pos (mul-pos (zero-lt-suc j) (up_pos l)) (down_pos g))
    (quotients_in_order (m * up e) (suc n * up d) (i * up g) (suc j * up l) (down e) (down d) (down g) (down l) h k))

-- ---- sums: a sum of terms without minus signs reaches each sum of terms of no greater magnitude
property_of_either : (c : Bool) (P : Float → Type 0) (x y : Float) → P x → P y → P (cond c x y)
property_of_either true P x y h k = h
property_of_either false P x y h k = k

-- a sum is at most the magnitudes' sum, rounded
sum_of_magnitudes_bounds : (f : Format) (P : Float → Type 0) (s : Bool) (a : ℕ) (t : Bool) (b c : ℕ) → ((u : Bool) (n : ℕ) → n ≤ a + b → P (round f u n c)) → P (sum f s a t b c)
unfolding sum
sum_of_magnitudes_bounds f P true a true b c h = h true (a + b) (omega arith)
sum_of_magnitudes_bounds f P false a false b c h = h false (a + b) (omega arith)
sum_of_magnitudes_bounds f P true a false b c h = property_of_either (ltb a b) P (round f false (b - a) c) (round f (ltb b a) (a - b) c) (h false (b - a) (omega arith)) (h (ltb b a) (a - b) (omega arith))
sum_of_magnitudes_bounds f P false a true b c h = property_of_either (ltb a b) P (round f true (b - a) c) (round f false (a - b) c) (h true (b - a) (omega arith)) (h false (a - b) (omega arith))

sums_in_order : (m n i j e d g l o : ℕ) → i * e ≤ m * g → j * d ≤ n * l → o ≤ i * l + j * g → o * (e * d) ≤ (m * d + n * e) * (g * l)
sums_in_order m n i j e d g l o h k r =
    let p = mul-le-mul_right (e * d) r in
    let q = mul-le-mul_right (l * d) h in
    let t = mul-le-mul_right (g * e) k in
    omega arith

pub add_reaches : (f : Format) (x y b c : Float) → sign_bit x ≡ false → sign_bit y ≡ false → Reaches x b → Reaches y c → Reaches (add f x y) (add f b c)
unfolding add sign_bit
add_reaches f nan y b c p q h k = tt
add_reaches f (inf s) nan b c p q h k = tt
add_reaches f (inf true) (inf t) b c p q h k = absurd (true≢false p)
add_reaches f (inf false) (inf true) b c p q h k = absurd (true≢false q)
add_reaches f (inf false) (inf false) b c p q h k = tt
add_reaches f (inf s) (fin t n d) b c p q h k = tt
add_reaches f (fin s m e) nan b c p q h k = tt
add_reaches f (fin s m e) (inf t) b c p q h k = tt
add_reaches f (fin s m e) (fin t n d) nan c p q h k = reaches_nan (add f (fin s m e) (fin t n d))
add_reaches f (fin s m e) (fin t n d) (inf u) c p q h k = absurd h
add_reaches f (fin s m e) (fin t n d) (fin u i g) nan p q h k = reaches_nan (add f (fin s m e) (fin t n d))
add_reaches f (fin s m e) (fin t n d) (fin u i g) (inf v) p q h k = absurd k
add_reaches f (fin true m e) (fin t n d) (fin u i g) (fin v j l) p q h k = absurd (true≢false p)
add_reaches f (fin false m e) (fin true n d) (fin u i g) (fin v j l) p q h k = absurd (true≢false q)
add_reaches f (fin false m e) (fin false n d) (fin u i g) (fin v j l) p q h k =
    sum_of_magnitudes_bounds f (Reaches (add f (fin false m e) (fin false n d))) u (i * up g * down l) v (j * up l * down g) (down g * down l)
    (λ w o r. round_reaches f false w (m * up e * down d + n * up d * down e) (down e * down d) o (down g * down l)
    (mul-pos (down_pos e) (down_pos d)) (mul-pos (down_pos g) (down_pos l))
    (sums_in_order (m * up e) (n * up d) (i * up g) (j * up l) (down e) (down d) (down g) (down l) o h k r))

-- so a difference is at most the sum of what its terms are at most
pub sub_reaches : (f : Format) (x y b c : Float) → sign_bit x ≡ false → sign_bit y ≡ false → Reaches x b → Reaches y c → Reaches (add f x y) (sub f b c)
unfolding sub
sub_reaches f x y b c p q h k = add_reaches f x y b (neg c) p q h (reaches_neg y c k)

-- a sum of two squares
pub squares_reach : (f : Format) (x y b c : Float) → Reaches x b → Reaches y c → Reaches (add f (mul f x x) (mul f y y)) (add f (mul f b b) (mul f c c))
squares_reach f x y b c h k = add_reaches f (mul f x x) (mul f y y) (mul f b b) (mul f c c) (sign_square f x) (sign_square f y) (mul_reaches f x x b b h h) (mul_reaches f y y c c k k)
