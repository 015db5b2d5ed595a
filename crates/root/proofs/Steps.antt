-- The numbers of the digit-by-digit loops and of the root from a guess. Assumes nothing.
use Rattle.std.proofs.Common.{◌≡◌, ℕ, zero, suc, ◌+◌, ◌-◌, ◌*◌, ◌/◌, ◌%◌, ◌^◌, ◌<◌, ◌≤◌, Bool, true, false, cond, not, T, ltb, sym, ap, ◌∙◌, le_trans, le_of_eq, lt_of_le_of_lt, le_of_lt, mul_assoc, mul-le-mul_left, pow-suc, add-one, arith, ltb→lt, nltb→le, shl_lt, shr-shr}
use native.Mathlib.Nat.{pow-le-pow_right}
use Rattle.root.specs.NearestRoot.{NearestRoot}
use Rattle.root.specs.IntegerRoot.{square_lt_back, square_mono}

-- the loop that extends a root: the root of m * 4 ^ i, before the last step, has 52 digits at most
pub extended_root_below_two_pow_52 : (r t m i : ℕ) → r * r + t ≡ m * 4 ^ i → m < 2 ^ 54 → i < 26 → r < 2 ^ 52
extended_root_below_two_pow_52 r t m i e h l =
    square_lt_back r (2 ^ 52)
    (lt_of_le_of_lt (le_trans (omega arith) (le_trans (le_of_eq e) (mul-le-mul_left m (pow-le-pow_right {n = 4} (omega arith) {i = i} {j = 25} (omega arith))))) (omega arith))

pub next_base_4_digit : (m place : ℕ) → 0 < place → m / 2 ^ (2 * (place - 1)) ≡ 4 * (m / 2 ^ (2 * place)) + m / 2 ^ (2 * (place - 1)) % 4
next_base_4_digit m place h = omega (arith, shr-shr m (2 * (place - 1)) 2 ∙ ap (λ (x : ℕ). m / 2 ^ x) (back place h))
  where
    back : (place : ℕ) → 0 < place → 2 * (place - 1) + 2 ≡ 2 * place
    back place h = omega arith

pub four_times : (m i : ℕ) → m * 4 ^ (i + 1) ≡ 4 * (m * 4 ^ i)
four_times m i = ap (λ (x : ℕ). m * x) (ap (λ (x : ℕ). 4 ^ x) (add-one i) ∙ pow-suc 4 i) ∙ sym (mul_assoc m (4 ^ i) 4) ∙ swap (m * 4 ^ i)
  where
    swap : (x : ℕ) → x * 4 ≡ 4 * x
    swap x = omega arith

-- how many digits a product has
pub product_below_power : (i j a b : ℕ) → a < 2 ^ i → b < 2 ^ j → a * b < 2 ^ (i + j)
product_below_power i j a b h k = lt_of_le_of_lt (mul-le-mul_left a (le_of_lt k)) (shl_lt i j h)

pub square_of_27_digits : (r : ℕ) → r < 2 ^ 27 → r * r ≤ (2 ^ 27 - 1) * (2 ^ 27 - 1)
square_of_27_digits r h = square_mono r (2 ^ 27 - 1) (omega arith)

-- ---- the root from a guess

-- a difference that wraps, as the code's `wrapping_sub` gives it; adding y to it gives x back
abbrev pub wrapped_difference : ℕ → ℕ → ℕ
wrapped_difference x y = (x + (2 ^ 64 - y)) % 2 ^ 64

pub wrapped_difference_plus_back : (x y : ℕ) → x < 2 ^ 64 → y < 2 ^ 64 → (wrapped_difference x y + y) % 2 ^ 64 ≡ x
wrapped_difference_plus_back x y h k = omega arith

-- Three differences, none of which has wrapped: of m and h's square, of that and twice h times l, of that and l's
-- square.
pub remainder_of_joined_root : (m h l a d t : ℕ) → h < 2 ^ 28 → l < 2 ^ 31 → a < 2 ^ 37 → d < 2 ^ 37 → t ≤ 3 * (h * 2 ^ 26 + l) + 2 → (a + h * h) % 2 ^ 64 ≡ m → (d + 2 * h * l) % 2 ^ 64 ≡ a * 2 ^ 26 → (t + l * l) % 2 ^ 64 ≡ d * 2 ^ 26 → (h * 2 ^ 26 + l) * (h * 2 ^ 26 + l) + t ≡ m * 4 ^ 26
remainder_of_joined_root m h l a d t H L A D T e f g =
    let e = unwrapped (a + h * h) m (omega (arith, product_below_power 28 28 h h H H)) e in
    let f = unwrapped (d + 2 * h * l) (a * 2 ^ 26) (omega (arith, product_below_power 28 31 h l H L)) f in
    let g = unwrapped (t + l * l) (d * 2 ^ 26) (omega (arith, product_below_power 31 31 l l L L)) g in
    omega (arith, e, f, g)
  where
    unwrapped : (x y : ℕ) → x < 2 ^ 64 → x % 2 ^ 64 ≡ y → x ≡ y
    unwrapped x y h e = omega arith

-- the whole number nearest to √n, from a root that is right or one too low
pub nearest_of_root_or_next : (n r t : ℕ) → 0 < n → r * r + t ≡ n → t ≤ 3 * r + 2 → NearestRoot n (cond (ltb r t) (r + 1) r)
nearest_of_root_or_next n r t p e T≤ = go (ltb r t) (ltb→lt r t) (nltb→le r t)
  where
    up : r < t → NearestRoot n (r + 1)
    up k = omega (arith, k)

    down : (r : ℕ) → r * r + t ≡ n → t ≤ r → NearestRoot n r
    down zero e k = absurd (omega (arith, e, k, p))
    down (suc r) e k = omega (arith, e, k)

    go : (b : Bool) → (T b → r < t) → (T (not b) → t ≤ r) → NearestRoot n (cond b (r + 1) r)
    go true g l = up (g tt)
    go false g l = down r e (l tt)
