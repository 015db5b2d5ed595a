-- The rounded root keeps the order of magnitudes. Assumes nothing.
use Rattle.std.specs.Prelude.{◌≡◌, true, false, not, T, ltb, eqb, ℤ, Float}
use Rattle.std.proofs.Common.{sym, subst, inl, inr, le_refl, le_trans, le_of_eq, lt_of_le_of_lt, eq-or-lt_of_le, mul_right_comm, mul-le-mul_right, le-div_iff_mul-le, arith, ltb-true, lt-ltb, leb→le, eqb→eq, pow-add, pow_pos, pow_mono}
use Prim.Native.Nat.{ℕ, zero, suc, ◌+◌, ◌-◌, ◌*◌, ◌/◌, ◌%◌, ◌^◌, ◌≤◌, ◌<◌, compare, Ordering}
use Rattle.std.proofs.Math.Dec.{is_le, compare_is_eq, nleb→lt, eqb_refl}
use Rattle.std.proofs.Math.Pow.{shr_mono}
use Rattle.std.specs.Float.{nan, inf, fin, Format}
use Rattle.std.specs.Float.Ieee.{prec, emax, low, up, down, size, nearest, odd, units}
use Rattle.std.specs.Float.Ieee.Digits.{size-lt, size-le, size_reaches}
use Rattle.std.specs.Float.Ieee.Exact.{HasValue, odd_sign}
use Rattle.std.specs.Float.Ieee.Fits.{up_pos, down_pos, nearest-le, kept-lt, two}
use Rattle.std.specs.Float.Ieee.Nearest.{nearest-ge, div_mono}
use Rattle.std.specs.Float.Ieee.Order.{transfer}
use Rattle.common.specs.Tests.{case}
use Rattle.root.specs.IntegerRoot.{isqrt_is_root, isqrt_ge}
use Rattle.root.specs.Root.{isqrt, dropped, kept, rounded, radicand, root_of, root}
use Rattle.float_laws.specs.Reaches.{Reaches, reaches_nan, reaches_zero, positive_not_at_most_zero}

-- ---- the nearer of two neighbours, by the side of the middle on which a number lies
nearest_mono : (w a b m : ℕ) → a ≤ b → nearest w (compare a m) ≤ nearest w (compare b m)
nearest_mono w a b m h = go (compare a m) (compare b m) (nleb→lt a m) (eqb→eq a m) (leb→le b m) (λ e. subst (λ (x : ℕ). T (eqb b x)) e (eqb_refl b))
  where
    go : (o p : Ordering) → (T (not (is_le o)) → m < a) → (T (compare_is_eq o) → a ≡ m) → (T (is_le p) → b ≤ m) → (b ≡ m → T (compare_is_eq p)) → nearest w o ≤ nearest w p
    go Ordering.lt p f g i j = nearest-ge w p
    go Ordering.eq Ordering.lt f g i j = absurd (j (let e = g tt in let l = i tt in omega arith))
    go Ordering.eq Ordering.eq f g i j = le_refl (w + w % 2)
    go Ordering.eq Ordering.gt f g i j = nearest-le w Ordering.eq
    go Ordering.gt Ordering.lt f g i j = absurd (let k = f tt in let l = i tt in omega arith)
    go Ordering.gt Ordering.eq f g i j = absurd (let k = f tt in let l = i tt in omega arith)
    go Ordering.gt Ordering.gt f g i j = le_refl (suc w)

-- ---- √n rounded to a multiple of 2 ^ k: `rounded f n` is `at (dropped f n) n`
abbrev part : ℕ → ℕ → ℕ
part k n = isqrt n / 2 ^ k

abbrev mid : ℕ → ℕ → ℕ
mid k n = (2 * part k n + 1) * 2 ^ k

abbrev side : ℕ → ℕ → Ordering
side k n = compare (4 * n) (mid k n * mid k n)

abbrev at : ℕ → ℕ → ℕ
at k n = nearest (part k n) (side k n)

module _ (f : Format) (a b : ℕ) (h : a ≤ b) where
  isqrt_in_order : isqrt a ≤ isqrt b
  isqrt_in_order = isqrt_ge b (isqrt a) (le_trans (isqrt_is_root a).0 h)

  dropped_in_order : dropped f a ≤ dropped f b
  dropped_in_order = let s : size (isqrt a) ≤ size (isqrt b) = size-le (isqrt a) (size (isqrt b)) (lt_of_le_of_lt isqrt_in_order (size-lt (isqrt b))) in omega arith

  in_order_at_same_drop : (k : ℕ) → at k a ≤ at k b
  in_order_at_same_drop k =
      elim (eq-or-lt_of_le (shr_mono k isqrt_in_order)) [
        | inl e ↦ rw e (nearest_mono (part k b) (4 * a) (4 * b) (mid k b * mid k b) (omega arith))
        | inr l ↦ le_trans (nearest-le (part k a) (side k a)) (le_trans l (nearest-ge (part k b) (side k b)))
      ]

  -- where digits are dropped, as many are kept as the format has
  kept_has_all_digits : 0 < dropped f b → 2 ^ (prec f - 1) ≤ kept f b
  kept_has_all_digits p =
      let k = dropped f b in
      let n : prec f - 1 + k < size (isqrt b) = let q = two f in omega arith in
      (le-div_iff_mul-le (pow_pos k)).1 (le_trans (le_of_eq (sym (pow-add 2 (prec f - 1) k))) (size_reaches (isqrt b) (prec f - 1 + k) n))

  -- either as many digits are dropped, or a power of two lies between the two results
  rounded_roots_in_order : rounded f a * 2 ^ dropped f a ≤ rounded f b * 2 ^ dropped f b
  rounded_roots_in_order =
      let p = prec f in
      let j = dropped f a in
      let k = dropped f b in
      elim (eq-or-lt_of_le dropped_in_order) [
        | inl e ↦ subst (λ (x : ℕ). at x a * 2 ^ x ≤ rounded f b * 2 ^ k) (sym e) (mul-le-mul_right (2 ^ k) (in_order_at_same_drop k))
        | inr l ↦
            le_trans (mul-le-mul_right (2 ^ j) (le_trans (nearest-le (kept f a) (side j a)) (kept-lt p (isqrt a))))
            (le_trans (le_of_eq (sym (pow-add 2 p j)))
            (le_trans (pow_mono {i = p + j} {j = p - 1 + k} (let q = two f in omega arith))
            (le_trans (le_of_eq (pow-add 2 (p - 1) k)) (mul-le-mul_right (2 ^ k) (le_trans (kept_has_all_digits (omega arith)) (nearest-ge (kept f b) (side k b)))))))
      ]

-- ---- as values of the format
value_reaches : (x y : Float) (a c b d : ℕ) → 0 < c → 0 < d → HasValue x false a c → HasValue y false b d → b * c ≤ a * d → Reaches x y
value_reaches nan y a c b d p q v w h = absurd v
value_reaches (inf s) y a c b d p q v w h = absurd v
value_reaches (fin s m e) nan a c b d p q v w h = absurd w
value_reaches (fin s m e) (inf t) a c b d p q v w h = absurd w
value_reaches (fin s m e) (fin t n g) a c b d p q v w h = transfer (n * up g) (m * up e) (down g) (down e) b a d c q p w.1 v.1 h

units_reaches : (f : Format) (q j r k : ℕ) → r * 2 ^ k ≤ q * 2 ^ j → Reaches (units f false q j) (units f false r k)
unfolding units
units_reaches f q j r k h =
    let d = suc (prec f) in
    let l = low f in
    let o = 2 ^ (l + suc (emax f)) in
    case (ltb (q * 2 ^ j) o)
    (λ g.
    let i = ltb-true (q * 2 ^ j) o g in
    rw (g, lt-ltb (r * 2 ^ k) o (omega arith))
    (value_reaches (odd d false q j l) (odd d false r k l) (q * 2 ^ j) (2 ^ l) (r * 2 ^ k) (2 ^ l) (pow_pos l) (pow_pos l) (odd_sign d false q j l) (odd_sign d false r k l) (mul-le-mul_right (2 ^ l) h)))
    (λ g. rw g tt)

root_of_reaches : (f : Format) (a b : ℕ) → a ≤ b → Reaches (root_of f b) (root_of f a)
unfolding root_of
root_of_reaches f a b h = units_reaches f (rounded f b) (dropped f b) (rounded f a) (dropped f a) (rounded_roots_in_order f a b h)

radicands_in_order : (f : Format) (m n : ℕ) (e d : ℤ) → n * up d * down e ≤ m * up e * down d → radicand f n d ≤ radicand f m e
radicands_in_order f m n e d h =
    let l = 2 ^ low f in
    mul-le-mul_right l (div_mono (n * up d * l) (down d) (m * up e * l) (down e) (down_pos d) (down_pos e) (rw (mul_right_comm (n * up d) l (down e), mul_right_comm (m * up e) l (down d)) (mul-le-mul_right l h)))

pub root_reaches : (f : Format) (x b : Float) → Reaches x b → Reaches (root f x) (root f b)
unfolding root
root_reaches f nan b h = tt
root_reaches f (inf true) b h = tt
root_reaches f (inf false) b h = tt
root_reaches f (fin s zero e) nan h = tt
root_reaches f (fin s zero e) (inf t) h = absurd h
root_reaches f (fin s zero e) (fin t zero d) h = h
root_reaches f (fin s zero e) (fin true (suc n) d) h = tt
root_reaches f (fin s zero e) (fin false (suc n) d) h = absurd (positive_not_at_most_zero n (up d) (down e) (up e) (down d) (up_pos d) (down_pos e) h)
root_reaches f (fin true (suc m) e) b h = tt
root_reaches f (fin false (suc m) e) nan h = reaches_nan (root_of f (radicand f (suc m) e))
root_reaches f (fin false (suc m) e) (inf t) h = absurd h
root_reaches f (fin false (suc m) e) (fin t zero d) h = reaches_zero (root_of f (radicand f (suc m) e)) t d
root_reaches f (fin false (suc m) e) (fin true (suc n) d) h = reaches_nan (root_of f (radicand f (suc m) e))
root_reaches f (fin false (suc m) e) (fin false (suc n) d) h = root_of_reaches f (radicand f (suc n) d) (radicand f (suc m) e) (radicands_in_order f (suc m) (suc n) e d h)
