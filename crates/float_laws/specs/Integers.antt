-- How far two fractions are apart, in integers: what `Near` says, as one inequality. Assumes nothing.
use Rattle.std.specs.Prelude.{◌≡◌, ℕ, zero, suc, ◌+◌, ◌*◌, ◌≤◌, ltb, ℤ, pos, negsuc, neg_ℤ, nat_abs, ◌+ℤ◌, ◌-ℤ◌, ◌*ℤ◌}
use Rattle.std.proofs.Common.{add_comm, add-mul, mul-add, mul_comm, arith, ltb-true, ltb-false}
use Rattle.std.proofs.Math.IntN.{sub_ℕ}
use Rattle.common.specs.Tests.{case}
use Rattle.float_laws.specs.Fraction.{Fraction, Near}

abbrev pub numerator : Fraction → ℤ
numerator x = sub_ℕ x.plus x.minus

-- |x - y| times both denominators
abbrev pub apart : Fraction → Fraction → ℕ
apart x y = nat_abs (numerator x *ℤ pos y.den -ℤ numerator y *ℤ pos x.den)

-- ---- z is a - b
abbrev Differ : ℤ → ℕ → ℕ → Type 0
Differ (pos n) a b = a ≡ b + n
Differ (negsuc n) a b = b ≡ a + suc n

sub_differ : (n k a b : ℕ) → a + k ≡ b + n → Differ (sub_ℕ n k) a b
sub_differ n k a b h = case (ltb n k) (λ t. rw t (omega (arith, ltb-true n k t))) (λ f. rw f (omega (arith, ltb-false n k f)))

neg_differ : (z : ℤ) (a b : ℕ) → Differ z a b → Differ (neg_ℤ z) b a
neg_differ (pos zero) a b h = omega arith
neg_differ (pos (suc n)) a b h = h
neg_differ (negsuc n) a b h = h

add_differ : (z w : ℤ) (a b c d : ℕ) → Differ z a b → Differ w c d → Differ (z +ℤ w) (a + c) (b + d)
add_differ (pos n) (pos m) a b c d g h = omega arith
add_differ (pos n) (negsuc m) a b c d g h = sub_differ n (suc m) (a + c) (b + d) (omega arith)
add_differ (negsuc n) (pos m) a b c d g h = sub_differ m (suc n) (a + c) (b + d) (omega arith)
add_differ (negsuc n) (negsuc m) a b c d g h = omega arith

mul_differ : (z : ℤ) (a b d : ℕ) → Differ z a b → Differ (z *ℤ pos d) (a * d) (b * d)
mul_differ (pos n) a b d h = rw h (add-mul b n d)
mul_differ (negsuc n) a b d h = neg_differ (pos (suc n * d)) (b * d) (a * d) (rw h (add-mul a (suc n) d))

abs_differ : (t k : ℕ) (z : ℤ) (a b : ℕ) → Differ z a b → t * a ≤ t * b + k → t * b ≤ t * a + k → t * nat_abs z ≤ k
abs_differ t k (pos n) a b h g l = omega (arith, rw (h, mul-add t b n) at g)
abs_differ t k (negsuc n) a b h g l = omega (arith, rw (h, mul-add t a (suc n)) at l)

pub near_apart : {t k : ℕ} {x y : Fraction} → Near t k x y → t * apart x y ≤ k * (x.den * y.den)
near_apart {t} {k} {x} {y} h =
    abs_differ t (k * (x.den * y.den)) (numerator x *ℤ pos y.den -ℤ numerator y *ℤ pos x.den) (x.plus * y.den + y.minus * x.den) (x.minus * y.den + y.plus * x.den)
    (add_differ (numerator x *ℤ pos y.den) (neg_ℤ (numerator y *ℤ pos x.den)) (x.plus * y.den) (x.minus * y.den) (y.minus * x.den) (y.plus * x.den)
    (mul_differ (numerator x) x.plus x.minus y.den (sub_differ x.plus x.minus x.plus x.minus (omega arith)))
    (neg_differ (numerator y *ℤ pos x.den) (y.plus * x.den) (y.minus * x.den) (mul_differ (numerator y) y.plus y.minus x.den (sub_differ y.plus y.minus y.plus y.minus (omega arith)))))
    (rw (add_comm (x.minus * y.den) (y.plus * x.den)) h.high) (rw (add_comm (x.minus * y.den) (y.plus * x.den), mul_comm x.den y.den) h.low)
