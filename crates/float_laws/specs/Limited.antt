-- Numbers of at most a known size: their sums, differences and products don't overflow where those of the limits don't.
-- Assumes nothing.
use Rattle.std.specs.Prelude.{◌≡◌, refl, Bool, true, false, cond, ℕ, zero, suc, ◌+◌, ◌*◌, ◌^◌, ltb, Float}
use Rattle.std.proofs.Common.{true≢false}
use Rattle.std.specs.Float.{nan, inf, fin, Format, binary64}
use Rattle.std.specs.Float.Ieee.{prec, emax, low, odd, units, round, add, mul, is_nan}
use Rattle.float.specs.Float.{is_finite, sign_bit}
use Rattle.float_laws.specs.Rounded.{Number, number, number_of_finite, mul_rounds, add_rounds}
use Rattle.float_laws.specs.Reaches.{Reaches, Below, below_finite, below_reached, mul_reaches, add_reaches}

-- x is a number of at most b in size
pub record Limited (b x : Float) : Type 0 where
  pub finite : is_finite x ≡ true
  pub reached : Reaches b x

pub below_limited : (x b : Float) → Below x b → Limited b x
below_limited x b h = record { finite = below_finite x b h; reached = below_reached x b h }

-- ---- a rounded fraction is a number or an infinity
odd_is_not_nan : (d : ℕ) (s : Bool) (q k l : ℕ) → is_nan (odd d s q k l) ≡ false
unfolding is_nan odd
odd_is_not_nan d s zero k l = refl
odd_is_not_nan d s (suc q) k l = refl

cond_is_not_nan : (c : Bool) (x y : Float) → is_nan x ≡ false → is_nan y ≡ false → is_nan (cond c x y) ≡ false
cond_is_not_nan true x y h k = h
cond_is_not_nan false x y h k = k

units_is_not_nan : (f : Format) (s : Bool) (q k : ℕ) → is_nan (units f s q k) ≡ false
unfolding units
units_is_not_nan f s q k = cond_is_not_nan (ltb (q * 2 ^ k) (2 ^ (low f + suc (emax f)))) (odd (suc (prec f)) s q k (low f)) (inf s) (odd_is_not_nan (suc (prec f)) s q k (low f)) (unfold is_nan in refl)

round_is_not_nan : (f : Format) (s : Bool) (a c : ℕ) → is_nan (round f s a c) ≡ false
unfolding round
round_is_not_nan f s a c = units_is_not_nan f s _ _

limited_of_reached : {b x : Float} → Number b → is_nan x ≡ false → Reaches b x → Limited b x
unfolding is_finite is_nan
limited_of_reached {x = x} o n h = record { finite = go o x n h; reached = h }
  where
    go : {b : Float} → Number b → (x : Float) → is_nan x ≡ false → Reaches b x → is_finite x ≡ true
    go number nan n h = absurd (true≢false n)
    go number (inf s) n h = absurd h
    go number (fin s m e) n h = refl

-- ---- products, sums and differences
mul_is_not_nan : {x y : Float} → Number x → Number y → is_nan (mul binary64 x y) ≡ false
mul_is_not_nan (number {s = s} {m = m} {e = e}) (number {s = t} {m = n} {e = d}) = let r = mul_rounds s t m n e d in rw r.is (round_is_not_nan binary64 r.sign r.num _)

pub mul_limited : {b c x y : Float} → Limited b x → Limited c y → is_finite (mul binary64 b c) ≡ true → Limited (mul binary64 b c) (mul binary64 x y)
mul_limited {b} {c} {x} {y} g h f = limited_of_reached (number_of_finite _ f) (mul_is_not_nan (number_of_finite x g.finite) (number_of_finite y h.finite)) (mul_reaches binary64 b c x y g.reached h.reached)

add_is_not_nan : {x y : Float} → Number x → Number y → is_nan (add binary64 x y) ≡ false
add_is_not_nan (number {s = s} {m = m} {e = e}) (number {s = t} {m = n} {e = d}) = let r = add_rounds s t m n e d in rw r.is (round_is_not_nan binary64 r.sign r.num _)

pub add_limited : {b c x y : Float} → sign_bit b ≡ false → sign_bit c ≡ false → Limited b x → Limited c y → is_finite (add binary64 b c) ≡ true → Limited (add binary64 b c) (add binary64 x y)
add_limited {b} {c} {x} {y} p q g h f = limited_of_reached (number_of_finite _ f) (add_is_not_nan (number_of_finite x g.finite) (number_of_finite y h.finite)) (add_reaches binary64 b c x y p q g.reached h.reached)
