-- Two values whose rounded differences from a third are below a / c have a rounded difference of at most 2 a / c: the
-- triangle inequality holds before rounding, and rounding keeps the order. Assumes nothing.
use Rattle.std.specs.Prelude.{◌≡◌, refl, Bool, true, false, cond, ℕ, ◌+◌, ◌*◌, ◌≤◌, ◌<◌, Float}
use Rattle.std.proofs.Common.{sym, ap, ◌∙◌, true≢false, lt_of_not-le, add_comm, mul-pos, mul-add, mul_comm, mul-le-mul_left, le_of_lt, arith}
use Rattle.std.specs.Float.{nan, inf, fin, binary64}
use Rattle.std.specs.Float.Ieee.{round, neg, sub, lt}
use Rattle.std.specs.Float.Ieee.Fits.{down_pos}
use Rattle.float.specs.Float.{abs_of, is_finite}
use Rattle.float.specs.Sign.{abs_round}
use Rattle.float.specs.Zero.{finite_terms}
use Rattle.float_laws.specs.Fraction.{Fraction, ◌⊕◌, opposite, Near, near_sym, near_trans}
use Rattle.float_laws.specs.Rounded.{Number, number, number_of_finite, value, Rounds, sub_rounds}
use Rattle.float_laws.specs.Reaches.{Reaches, reaches_of_not_below, Below, below_finite, rounds_in_order}

-- ---- where a difference is a number, so are both values
finite_neg : (x : Float) → is_finite (neg x) ≡ is_finite x
unfolding is_finite neg
finite_neg nan = refl
finite_neg (inf s) = refl
finite_neg (fin s m e) = refl

terms_of_small_difference : (x z b : Float) → Below (sub binary64 x z) b → Number x × Number z
unfolding sub
terms_of_small_difference x z b h = let f = finite_terms binary64 x (neg z) (below_finite (sub binary64 x z) b h) in (number_of_finite x f.0, number_of_finite z (sym (finite_neg z) ∙ f.1))

-- ---- a rounded difference and the distance that it stands for
pub size_of_rounded : {x : Float} {y : Fraction} (r : Rounds x y) → abs_of x ≡ round binary64 false r.num y.den
size_of_rounded {y = y} r = ap abs_of r.is ∙ abs_round binary64 r.sign r.num y.den

-- n is the distance of p and m
pub distance_of_parts : (n p m : ℕ) (s : Bool) → cond s 0 n + m ≡ p + cond s n 0 → (p ≤ m + n) × (m ≤ p + n)
distance_of_parts n p m true e = (omega arith, omega arith)
distance_of_parts n p m false e = (omega arith, omega arith)

-- c times n is at most k exactly where p and m, times c, are within k of each other
module _ (n p m k c : ℕ) where
  distance_at_most : (s : Bool) → cond s 0 n + m ≡ p + cond s n 0 → n * c ≤ k → (c * p ≤ c * m + k) × (c * m ≤ c * p + k)
  distance_at_most s e h =
      let f = distance_of_parts n p m s e in (
        omega (arith, rw (mul-add c m n, mul_comm c n) at (mul-le-mul_left c f.0)),
        omega (arith, rw (mul-add c p n, mul_comm c n) at (mul-le-mul_left c f.1)),
      )

  at_most_distance : (s : Bool) → cond s 0 n + m ≡ p + cond s n 0 → c * p ≤ c * m + k → c * m ≤ c * p + k → n * c ≤ k
  at_most_distance true e g h = let f : m ≡ p + n = omega arith in omega (arith, rw (f, mul-add c p n, mul_comm c n) at h)
  at_most_distance false e g h = let f : p ≡ m + n = omega arith in omega (arith, rw (f, mul-add c m n, mul_comm c n) at g)

module _ (a c : ℕ) (o : 0 < c) (x y : Fraction) (p : 0 < x.den) (q : 0 < y.den) {d : Float} (r : Rounds d (x ⊕ opposite y)) where
  near_of_small_difference : Below d (round binary64 false a c) → Near c a x y
  near_of_small_difference h =
      let w = x.den * y.den in
      let l : lt (round binary64 false r.num w) (round binary64 false a c) ≡ true = rw (size_of_rounded r, abs_round binary64 false a c) at h in
      let b : r.num * c < a * w = lt_of_not-le (λ (k : a * w ≤ r.num * c). true≢false (sym l ∙ rounds_in_order binary64 r.num w a c (mul-pos p q) o k)) in
      let f = distance_at_most r.num (x ⊕ opposite y).plus (x ⊕ opposite y).minus (a * w) c r.sign r.exact (le_of_lt b) in
      record { high = rw (add_comm (y.plus * x.den) (x.minus * y.den)) f.0; low = rw (add_comm (y.plus * x.den) (x.minus * y.den), mul_comm y.den x.den) f.1 }

  difference_reached_of_near : Near c a x y → Reaches (round binary64 false a c) d
  difference_reached_of_near n =
      let w = x.den * y.den in
      let g = rw (add_comm (y.plus * x.den) (x.minus * y.den)) at n.high in
      let h = rw (add_comm (y.plus * x.den) (x.minus * y.den), mul_comm y.den x.den) at n.low in
      reaches_of_not_below (round binary64 false a c) d
      (rw (abs_round binary64 false a c, size_of_rounded r)
      (rounds_in_order binary64 a c r.num w o (mul-pos p q) (at_most_distance r.num (x ⊕ opposite y).plus (x ⊕ opposite y).minus (a * w) c r.sign r.exact g h)))

-- ---- the law for three values
pub difference_at_most_twice : (a c : ℕ) → 0 < c → (x y z : Float) → Below (sub binary64 x z) (round binary64 false a c) → Below (sub binary64 y z) (round binary64 false a c)
    → Reaches (round binary64 false (a + a) c) (sub binary64 x y)
difference_at_most_twice a c o x y z h k =
    let b = round binary64 false a c in
    let f = terms_of_small_difference x z b h in
    go f.0 (terms_of_small_difference y z b k).0 f.1 h k
  where
    go : {x y z : Float} → Number x → Number y → Number z → Below (sub binary64 x z) (round binary64 false a c) → Below (sub binary64 y z) (round binary64 false a c) → Reaches (round binary64 false (a + a) c) (sub binary64 x y)
    go (number {s = s} {m = m} {e = e}) (number {s = t} {m = n} {e = d}) (number {s = u} {m = l} {e = g}) h k =
        let X = value s m e in
        let Y = value t n d in
        let Z = value u l g in
        difference_reached_of_near (a + a) c o X Y (down_pos e) (down_pos d) (sub_rounds s t m n e d)
        (near_trans (down_pos g) (near_of_small_difference a c o X Z (down_pos e) (down_pos g) (sub_rounds s u m l e g) h) (near_sym (near_of_small_difference a c o Y Z (down_pos d) (down_pos g) (sub_rounds t u n l d g) k)))
