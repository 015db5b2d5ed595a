-- The signed exponent, the natural number that it is from -2148 on, and its half. Assumes nothing.
use Rattle.std.proofs.Common.{◌≡◌, ℕ, suc, ◌+◌, ◌-◌, ◌*◌, ◌/◌, ◌%◌, ◌^◌, ◌<◌, ◌≤◌, Bool, true, false, cond, not, T, ltb, ℤ, pos, negsuc, ◌+ℤ◌, sym, refl, ap, ◌∙◌, le_trans, le_of_eq, lt_irrefl, mul_assoc, mul-le-mul_left, mul-one, arith, ltb→lt, nltb→le, pow_pos, pow_mono, pow-add, shl_exact, to_z-of_z, w64, to_z, of_z, le-ltb}
use lib.IntN.{sub_ℕ}
use lib.Signed.{mag}
use borrow.Author.Rules.{sfits_of}
use Rattle.root.specs.Exponent.{natural, shifted}
use Rattle.root.specs.IntegerRoot.{four_pow}

-- a signed result, read back from its bits
pub shifted_of_read_back : (e : ℤ) (g : ℕ) → mag e < 2 ^ 63 → shifted e ≡ g → shifted (to_z w64 (of_z w64 e)) ≡ g
shifted_of_read_back e g ok h = ap shifted (to_z-of_z {w = w64} (sfits_of {w = w64} ok)) ∙ h

pub sum_is_shifted : (e : ℤ) → 0 < shifted e → e +ℤ pos 2148 ≡ pos (shifted e)
unfolding shifted
sum_is_shifted e h = go (e +ℤ pos 2148) h
  where
    go : (z : ℤ) → 0 < natural z → z ≡ pos (natural z)
    go (pos n) h = refl
    go (negsuc n) h = absurd (lt_irrefl 0 h)

-- a - b, for natural numbers, taken from -2148 on
pub shifted_difference : (a b : ℕ) → b ≤ a + 2148 → shifted (sub_ℕ a b) ≡ a + 2148 - b
unfolding shifted
shifted_difference a b h = go (ltb a b) (ltb→lt a b) (nltb→le a b)
  where
    go : (t : Bool) → (T t → a < b) → (T (not t) → b ≤ a) → natural (cond t (negsuc (b - suc a)) (pos (a - b)) +ℤ pos 2148) ≡ a + 2148 - b
    go true l g =
        let r : a < b = l tt in
        let k : ltb 2148 (suc (b - suc a)) ≡ false = le-ltb 2148 (suc (b - suc a)) (omega arith) in
        rw k (omega arith)
    go false l g =
        let r : b ≤ a = g tt in
        omega arith

pub mag_difference : (a b n : ℕ) → a < n → b ≤ n → mag (sub_ℕ a b) < n
mag_difference a b n h k = go (ltb a b) (ltb→lt a b) (nltb→le a b)
  where
    go : (t : Bool) → (T t → a < b) → (T (not t) → b ≤ a) → mag (cond t (negsuc (b - suc a)) (pos (a - b))) < n
    go true l g =
        let r : a < b = l tt in
        omega arith
    go false l g =
        let r : b ≤ a = g tt in
        omega arith

-- ---- sizes

pub mag_sum : (e : ℤ) (k : ℕ) → mag (e +ℤ pos k) ≤ mag e + k
mag_sum (pos n) k = omega arith
mag_sum (negsuc a) k = go (ltb k (suc a)) (ltb→lt k (suc a)) (nltb→le k (suc a))
  where
    go : (t : Bool) → (T t → k < suc a) → (T (not t) → suc a ≤ k) → mag (cond t (negsuc (suc a - suc k)) (pos (k - suc a))) ≤ a + k
    go true l g = omega arith
    go false l g = omega arith

pub mag_shifted : (e : ℤ) → 0 < shifted e → shifted e < 3120 → mag e < 3120
unfolding shifted
mag_shifted (pos n) p h = omega arith
mag_shifted (negsuc a) p h = go (ltb 2148 (suc a)) (nltb→le 2148 (suc a)) p
  where
    go : (t : Bool) → (T (not t) → suc a ≤ 2148) → 0 < natural (cond t (negsuc (suc a - 2149)) (pos (2148 - suc a))) → a < 3120
    go true l g = absurd (lt_irrefl 0 g)
    go false l g = let r = l tt in omega arith

-- an exponent g is halved, and m is doubled where g is odd
module _ (m g : ℕ) (m-lo : 2 ^ 52 ≤ m) (m-hi : m < 2 ^ 53) where
  pub shift_exact : m * 2 ^ (g % 2) % 2 ^ 64 ≡ m * 2 ^ (g % 2)
  shift_exact = shl_exact 53 (g % 2) 64 m-hi (omega arith)

  pub shift_lo : 2 ^ 52 ≤ m * 2 ^ (g % 2)
  shift_lo = le_trans m-lo (le_trans (le_of_eq (sym (mul-one m))) (mul-le-mul_left m (pow_pos (g % 2))))

  pub shift_hi : m * 2 ^ (g % 2) ≤ 2 ^ 54 - 2
  shift_hi = le_trans (mul-le-mul_left m (pow_mono {i = g % 2} {j = 1} (omega arith))) (omega arith)

  pub halved_exponent_keeps_value : m * 2 ^ (g % 2) * 4 ^ (g / 2) ≡ m * 2 ^ g
  halved_exponent_keeps_value =
      ap (λ (x : ℕ). m * 2 ^ (g % 2) * x) (four_pow (g / 2) ∙ sym (pow-add 2 (g / 2) (g / 2)))
      ∙ mul_assoc m (2 ^ (g % 2)) (2 ^ (g / 2 + g / 2))
      ∙ ap (λ (x : ℕ). m * x) (sym (pow-add 2 (g % 2) (g / 2 + g / 2)))
      ∙ ap (λ (x : ℕ). m * 2 ^ x) (parts g)
    where
      parts : (g : ℕ) → g % 2 + (g / 2 + g / 2) ≡ g
      parts g = omega arith
