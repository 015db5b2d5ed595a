-- `isqrt n` is the largest r with r * r ≤ n. Assumes nothing.
use Rattle.std.specs.Prelude.{◌≡◌, refl, ℕ, zero, suc, ◌*◌, ◌/◌, ◌^◌, ◌≤◌, ◌<◌, Bool, true, false, not, cond, T, ltb}
use Rattle.std.proofs.Common.{sym, ap, ◌∙◌, lt_of_lt_of_le, lt_of_le_of_lt, lt_of_not-le, lt_irrefl, le_of_suc-le-suc, mul_assoc, mul_left_comm, mul-le-mul, mul-le-mul_left, mul-lt-mul_of_pos_right, pow-suc, arith, ltb→lt, nltb→le}
use Rattle.std.proofs.Math.Nat.{pow-le-pow_left}
use Rattle.std.specs.Float.Ieee.{size}
use Rattle.std.specs.Float.Ieee.Digits.{size-lt}
use Rattle.root.specs.Root.{root_in, isqrt}

-- r is the whole part of √n
abbrev pub IsRoot : ℕ → ℕ → Type 0
IsRoot n r = (r * r ≤ n) × (n < suc r * suc r)

square_of_double : (s : ℕ) → 2 * s * (2 * s) ≡ 4 * (s * s)
square_of_double s = mul_assoc 2 s (2 * s) ∙ ap (λ (x : ℕ). 2 * x) (mul_left_comm s 2 s) ∙ sym (mul_assoc 2 2 (s * s))

double_of_next : (s : ℕ) → suc (suc (2 * s)) ≡ 2 * suc s
double_of_next s = omega arith

is_root_step : (n s : ℕ) → IsRoot (n / 4) s → IsRoot n (cond (ltb n (suc (2 * s) * suc (2 * s))) (2 * s) (suc (2 * s)))
is_root_step n s h = go (ltb n (suc (2 * s) * suc (2 * s))) (ltb→lt n (suc (2 * s) * suc (2 * s))) (nltb→le n (suc (2 * s) * suc (2 * s)))
  where
    lo : 2 * s * (2 * s) ≤ n
    lo = omega (arith, square_of_double s)

    hi : n < suc (suc (2 * s)) * suc (suc (2 * s))
    hi = rw (double_of_next s) (omega (arith, square_of_double (suc s)))

    go : (b : Bool) → (T b → n < suc (2 * s) * suc (2 * s)) → (T (not b) → suc (2 * s) * suc (2 * s) ≤ n) → IsRoot n (cond b (2 * s) (suc (2 * s)))
    go true l g = (lo, l tt)
    go false l g = (g tt, hi)

root_in_is_root : (d n : ℕ) → n < 4 ^ d → IsRoot n (root_in d n)
unfolding root_in
root_in_is_root zero n h = omega arith
root_in_is_root (suc d) n h = is_root_step n (root_in d (n / 4)) (root_in_is_root d (n / 4) (omega (arith, pow-suc 4 d)))

pub isqrt_is_root : (n : ℕ) → IsRoot n (isqrt n)
unfolding isqrt
isqrt_is_root n = root_in_is_root (size n) n (lt_of_lt_of_le (size-lt n) (pow-le-pow_left {n = 2} {m = 4} (omega arith) (size n)))

-- squares are in the order of their roots
pub square_mono : (a b : ℕ) → a ≤ b → a * a ≤ b * b
square_mono a b h = mul-le-mul h h

pub square_lt : (a b : ℕ) → a < b → a * a < b * b
square_lt a b h = lt_of_le_of_lt (mul-le-mul_left a (omega arith)) (mul-lt-mul_of_pos_right h (omega arith))

pub square_lt_back : (a b : ℕ) → a * a < b * b → a < b
square_lt_back a b h = lt_of_not-le (λ (g : b ≤ a). lt_irrefl (a * a) (lt_of_lt_of_le h (square_mono b a g)))

pub isqrt_ge : (n a : ℕ) → a * a ≤ n → a ≤ isqrt n
isqrt_ge n a h = le_of_suc-le-suc (square_lt_back a (suc (isqrt n)) (lt_of_le_of_lt h (isqrt_is_root n).1))

pub isqrt_lt : (n b : ℕ) → n < b * b → isqrt n < b
isqrt_lt n b h = square_lt_back (isqrt n) b (lt_of_le_of_lt (isqrt_is_root n).0 h)

-- a power of four is the square of one of two
pub four_pow : (k : ℕ) → 4 ^ k ≡ 2 ^ k * 2 ^ k
four_pow zero = refl
four_pow (suc k) = rw (pow-suc 4 k, pow-suc 2 k, four_pow k) (omega arith)
