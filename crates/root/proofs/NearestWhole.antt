-- The root of a whole number n: the number that `root_of f n` stands for is nearer to √n than any other number of as
-- many digits is, and √n is never in the middle between two. Assumes nothing.
use Rattle.std.specs.Prelude.{◌≡◌, refl, not, T, eqb}
use Rattle.std.proofs.Common.{sym, ap, ◌∙◌, subst, ⊎_elim, le_trans, le_of_eq, le_of_lt, lt_of_lt_of_le, lt_of_le_of_lt, lt_of_not-le, lt_irrefl, le_of_suc-le-suc, mul_assoc, mul_comm, mul-le-mul_right, mul-lt-mul_of_pos_right, lt_of_mul-lt-mul_right, mul-pos, div-mul-le_self, div-lt_iff_lt-mul, lt-suc_self, eq-zero-or-pos, arith, pow-add, pow_pos, pow_mono, leb→le, eqb→eq}
use Prim.Native.Nat.{ℕ, suc, ◌+◌, ◌-◌, ◌*◌, ◌^◌, ◌≤◌, ◌<◌, compare, Ordering}
use Rattle.std.proofs.Math.Nat.{sub-add_cancel, mul-mul-mul_comm, eq_of_mul-eq-mul_right}
use Rattle.std.proofs.Math.Decide.{dec_le}
use Rattle.std.specs.Float.{Format}
use Rattle.std.specs.Float.Ieee.{prec, nearest}
use Rattle.std.specs.Float.Ieee.Digits.{size_reaches}
use Rattle.std.proofs.Math.Dec.{is_le, compare_is_eq, nleb→lt, eqb_refl}
use Rattle.std.proofs.Math.Arith.{lt_of_le-ne}
use Rattle.root.specs.Root.{isqrt, dropped, kept, middle, rounded}
use Rattle.root.specs.IntegerRoot.{isqrt_is_root, square_mono, square_lt}

-- what `compare` says
abbrev pub Compared : Ordering → ℕ → ℕ → Type 0
Compared Ordering.lt a b = a < b
Compared Ordering.eq a b = a ≡ b
Compared Ordering.gt a b = b < a

pub compare_is_right : (a b : ℕ) → Compared (compare a b) a b
compare_is_right a b = go (compare a b) (leb→le a b) (nleb→lt a b) (eqb→eq a b) (λ (e : a ≡ b). subst (λ (x : ℕ). T (eqb a x)) e (eqb_refl a))
  where
    go : (o : Ordering) → (T (is_le o) → a ≤ b) → (T (not (is_le o)) → b < a) → (T (compare_is_eq o) → a ≡ b) → (a ≡ b → T (compare_is_eq o)) → Compared o a b
    go Ordering.lt h k e n = lt_of_le-ne (h tt) n
    go Ordering.eq h k e n = e tt
    go Ordering.gt h k e n = k tt

-- ---- between r * 2 ^ k and (r + 1) * 2 ^ k, for an r with all p digits, there is no c * 2 ^ j with p digits
no_digits_between : (p k r c j : ℕ) → 0 < p → (0 < k → 2 ^ (p - 1) ≤ r) → c < 2 ^ p → r * 2 ^ k < c * 2 ^ j → suc r * 2 ^ k ≤ c * 2 ^ j
no_digits_between p k r c j P full C h = go (dec_le k j)
  where
    root_below_next_kept : (a b : ℕ) → a + b ≡ j → k ≡ b → suc r * 2 ^ k ≤ c * 2 ^ j
    root_below_next_kept a b e f =
        let s : c * 2 ^ j ≡ c * 2 ^ a * 2 ^ k = ap (λ (x : ℕ). c * 2 ^ x) (sym e) ∙ ap (λ (x : ℕ). c * x) (pow-add 2 a b) ∙ sym (mul_assoc c (2 ^ a) (2 ^ b)) ∙ ap (λ (x : ℕ). c * 2 ^ a * 2 ^ x) (sym f) in
        le_trans (mul-le-mul_right (2 ^ k) (lt_of_mul-lt-mul_right (2 ^ k) (subst (λ (x : ℕ). r * 2 ^ k < x) s h))) (le_of_eq (sym s))

    small : j < k → c * 2 ^ j ≤ r * 2 ^ k
    small l =
        le_trans (mul-le-mul_right (2 ^ j) (le_of_lt C))
        (le_trans (le_of_eq (sym (pow-add 2 p j)))
        (le_trans (pow_mono {i = p + j} {j = p - 1 + k} (omega arith))
        (le_trans (le_of_eq (pow-add 2 (p - 1) k)) (mul-le-mul_right (2 ^ k) (full (omega arith))))))

    go : Dec (k ≤ j) → suc r * 2 ^ k ≤ c * 2 ^ j
    go (yes l) = root_below_next_kept (j - k) k (omega arith) refl
    go (no f) = absurd (lt_irrefl (r * 2 ^ k) (lt_of_lt_of_le h (small (lt_of_not-le f))))

-- n is z * 2 ^ i with a z of p digits
module _ (f : Format) (P : 2 ≤ prec f) (z i : ℕ) (Z : z < 2 ^ prec f) (I : 0 < i) where
  abbrev n : ℕ
  n = z * 2 ^ i

  abbrev w : ℕ
  w = isqrt n

  abbrev k : ℕ
  k = dropped f n

  abbrev u : ℕ
  u = 2 ^ k

  abbrev r : ℕ
  r = kept f n

  kept_at_most_root : r * u ≤ w
  kept_at_most_root = div-mul-le_self w u

  root_below_next_kept : w < suc r * u
  root_below_next_kept = (div-lt_iff_lt-mul (pow_pos k)).0 (lt-suc_self r)

  -- the squares
  kept_square_at_most : r * u * (r * u) ≤ n
  kept_square_at_most = le_trans (square_mono (r * u) w kept_at_most_root) (isqrt_is_root n).0

  next_kept_square_above : n < suc r * u * (suc r * u)
  next_kept_square_above = lt_of_lt_of_le (isqrt_is_root n).1 (square_mono (suc w) (suc r * u) root_below_next_kept)

  full : 0 < k → 2 ^ (prec f - 1) ≤ r
  full h = le_of_suc-le-suc (lt_of_mul-lt-mul_right u (lt_of_le_of_lt (le_trans (le_of_eq (sym (pow-add 2 (prec f - 1) k))) (size_reaches w (prec f - 1 + k) (omega arith))) root_below_next_kept))

  -- n is a multiple of u * u
  unit_square_divides : k + k ≤ i
  unit_square_divides = ⊎_elim (λ (e : k ≡ 0). omega arith) (λ (h : 0 < k). some h) (eq-zero-or-pos k)
    where
      pow_lt_back : (a b : ℕ) → 2 ^ a < 2 ^ b → a < b
      pow_lt_back a b h = lt_of_not-le (λ (g : b ≤ a). lt_irrefl (2 ^ a) (lt_of_lt_of_le h (pow_mono g)))

      some : 0 < k → k + k ≤ i
      some h =
          let l : 2 ^ (prec f - 1 + k) ≤ w = size_reaches w (prec f - 1 + k) (omega arith) in
          let g : 2 ^ (prec f - 1 + k + (prec f - 1 + k)) < 2 ^ (prec f + i) =
          lt_of_le_of_lt (le_trans (le_of_eq (pow-add 2 (prec f - 1 + k) (prec f - 1 + k))) (le_trans (square_mono (2 ^ (prec f - 1 + k)) w l) (isqrt_is_root n).0))
          (lt_of_lt_of_le (mul-lt-mul_of_pos_right Z (pow_pos i)) (le_of_eq (sym (pow-add 2 (prec f) i)))) in
          let s = pow_lt_back (prec f - 1 + k + (prec f - 1 + k)) (prec f + i) g in
          omega (arith, s)

  -- so that there is no tie
  pub no_tie : 4 * n ≡ middle f n * middle f n → ⊥
  no_tie e =
      let v = z * 2 ^ (i - (k + k)) in
      let s : n ≡ v * (u * u) = ap (λ (x : ℕ). z * 2 ^ x) (sym (sub-add_cancel unit_square_divides)) ∙ ap (λ (x : ℕ). z * x) (pow-add 2 (i - (k + k)) (k + k)) ∙ sym (mul_assoc z (2 ^ (i - (k + k))) (2 ^ (k + k))) ∙ ap (λ (x : ℕ). v * x) (pow-add 2 k k) in
      let g : 4 * v ≡ (2 * r + 1) * (2 * r + 1) = eq_of_mul-eq-mul_right (u * u) (mul-pos (pow_pos k) (pow_pos k)) (4 * v) ((2 * r + 1) * (2 * r + 1))
      (mul_assoc 4 v (u * u) ∙ ap (λ (x : ℕ). 4 * x) (sym s) ∙ e ∙ mul-mul-mul_comm (2 * r + 1) u (2 * r + 1) u) in
      odd_square v r g
    where
      odd_square : (v r : ℕ) → 4 * v ≡ (2 * r + 1) * (2 * r + 1) → ⊥
      odd_square v r e = omega arith

  -- Y is another value of the format, in units of its smallest value
  module _ (c j : ℕ) (C : c < 2 ^ prec f) where
    abbrev Y : ℕ
    Y = c * 2 ^ j

    above_kept_from_next : r * u < Y → suc r * u ≤ Y
    above_kept_from_next = no_digits_between (prec f) k r c j (omega arith) full C

    below_next_at_most_kept : Y < suc r * u → Y ≤ r * u
    below_next_at_most_kept h = le_of_suc-le-suc (lt_of_not-le (λ (g : suc (r * u) ≤ Y). lt_irrefl Y (lt_of_lt_of_le h (above_kept_from_next g))))

    abbrev Strict : ℕ → Type 0
    Strict q = (q * u < Y → 4 * n < (q * u + Y) * (q * u + Y)) × (Y < q * u → (q * u + Y) * (q * u + Y) < 4 * n)

    square_of_sum_with_itself : (a : ℕ) → (a + a) * (a + a) ≡ 4 * (a * a)
    square_of_sum_with_itself a = omega arith

    middle_is_sum_of_neighbours : middle f n ≡ r * u + suc r * u
    middle_is_sum_of_neighbours = omega (arith, mul_comm u r)

    kept_strictly_nearest : 4 * n < middle f n * middle f n → Strict r
    kept_strictly_nearest h = (
      λ g. lt_of_lt_of_le h (square_mono (middle f n) (r * u + Y) (omega (arith, middle_is_sum_of_neighbours, above_kept_from_next g))),
      λ g. lt_of_lt_of_le (square_lt (r * u + Y) (r * u + r * u) (omega arith)) (le_trans (le_of_eq (square_of_sum_with_itself (r * u))) (omega (arith, kept_square_at_most))),
    )

    next_strictly_nearest : middle f n * middle f n < 4 * n → Strict (suc r)
    next_strictly_nearest h = (
      λ g. lt_of_lt_of_le (omega (arith, next_kept_square_above, square_of_sum_with_itself (suc r * u))) (square_mono (suc r * u + suc r * u) (suc r * u + Y) (omega arith)),
      λ g. lt_of_le_of_lt (square_mono (suc r * u + Y) (middle f n) (omega (arith, middle_is_sum_of_neighbours, below_next_at_most_kept g))) h,
    )

    pub rounded_strictly_nearest : Strict (rounded f n)
    rounded_strictly_nearest = go (compare (4 * n) (middle f n * middle f n)) (compare_is_right (4 * n) (middle f n * middle f n))
      where
        go : (o : Ordering) → Compared o (4 * n) (middle f n * middle f n) → Strict (nearest r o)
        go Ordering.lt h = kept_strictly_nearest h
        go Ordering.eq h = absurd (no_tie h)
        go Ordering.gt h = next_strictly_nearest h
