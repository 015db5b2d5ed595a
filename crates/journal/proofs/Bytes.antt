-- What the parser's loops read. Assumes nothing.
use Rattle.std.proofs.Common.{ℕ, zero, suc, ◌+◌, ◌*◌, ◌^◌, ◌-◌, ◌<◌, ◌≤◌, ◌≡◌, refl, sym, ap, ◌∙◌, cond, ◌&&◌, List, [], ◌∷◌, ◌++◌, append-nil, add-one, mul-le-mul_right, arith, eq-eqb, ne_eqb, eqb, length, get_or, take, drop, set, drop_of_length-le, drop-cons, take-suc-set, take_all, Float}
use native.Mathlib.Nat.{pow-le-pow_right}
use lib.Seq.{append_snoc}
use Rattle.std.proofs.lemmas.List.{get_or-take}
use Rattle.std.specs.List.{starts_with}
use Rattle.journal.specs.Reading.{digit_of, number_at, real_at, reals, begins, newlines}
use Rattle.journal.proofs.DigitLaws.{number_at_lt_pow_16}

-- ---- numbers
-- what is read so far leaves room for a digit more
pub number_and_digit_below_2_64 : (base i w : ℕ) (s : List ℕ) (n d : ℕ) → base ≤ 16 → i < w → w ≤ 16 → n ≡ number_at base i s → d < 16 → base * n + d < 2 ^ 64
number_and_digit_below_2_64 base i w s n d h k l e f =
    let p : i ≤ 15 = omega arith in
    let q : 16 ^ i ≤ 16 ^ 15 = pow-le-pow_right (omega arith) p in
    let r : n < 16 ^ i = rw e (number_at_lt_pow_16 base i s h) in
    omega (arith, mul-le-mul_right n h)

pub number_at_one_more : (base i : ℕ) (s : List ℕ) (n d b : ℕ) → n ≡ number_at base i s → b ≡ get_or s i 0 → d ≡ digit_of b → base * n + d ≡ number_at base (i + 1) s
unfolding number_at
number_at_one_more base i s n d b e f g = rw (add-one, e, g, f)

-- the bytes behind the digits are not looked at
pub number_at_of_front : (base w k : ℕ) (s : List ℕ) → k ≤ w → number_at base k (take w s) ≡ number_at base k s
unfolding number_at
number_at_of_front base w zero s h = refl
number_at_of_front base w (suc k) s h = rw (number_at_of_front base w k s (omega arith), get_or-take w s k 0 (omega arith))

pub real_at_of_front : (s : List ℕ) → real_at (take 16 s) ≡ real_at s
unfolding real_at
real_at_of_front s = rw (number_at_of_front 16 16 16 s (omega arith))

-- ---- comparing
-- the library's test is the definition's
pub starts_with_is_begins : (w s : List ℕ) → starts_with eqb s w ≡ begins w s
unfolding begins
starts_with_is_begins [] s = refl
starts_with_is_begins (c ∷ w) [] = refl
starts_with_is_begins (c ∷ w) (d ∷ s) = ap (λ b. eqb c d && b) (starts_with_is_begins w s)

-- ---- newlines
newlines_from : (s : List ℕ) (i : ℕ) → i < length s → newlines (drop i s) ≡ cond (eqb (get_or s i 0) 10) 1 0 + newlines (drop (i + 1) s)
unfolding newlines
newlines_from s i h = rw (add-one, drop-cons s i 0 h)

pub newlines_from_newline : (s : List ℕ) (i : ℕ) → i < length s → get_or s i 0 ≡ 10 → newlines (drop i s) ≡ 1 + newlines (drop (i + 1) s)
newlines_from_newline s i h e = newlines_from s i h ∙ simp (eq-eqb (get_or s i 0) 10 e)

pub newlines_from_other : (s : List ℕ) (i : ℕ) → i < length s → (get_or s i 0 ≡ 10 → ⊥) → newlines (drop i s) ≡ newlines (drop (i + 1) s)
newlines_from_other s i h e =
    let g : newlines (drop i s) ≡ 0 + newlines (drop (i + 1) s) = newlines_from s i h ∙ simp (ne_eqb (get_or s i 0) 10 e) in
    omega (arith, g)

pub no_newlines_behind_end : (s : List ℕ) (i : ℕ) → length s ≤ i → newlines (drop i s) ≡ 0
unfolding newlines
no_newlines_behind_end s i h = rw (drop_of_length-le s h)

-- ---- reals
-- the first i stand in the list, and the rest is still to be read
pub reals_one_more_read : (l whole : List Float) (s : List ℕ) (i n : ℕ) (x : Float) → i < length l → length l ≡ n → x ≡ real_at (drop 1 s)
    → take i l ++ reals (n - i) s ≡ whole
    → take (i + 1) (set l i x) ++ reals (n - (i + 1)) (drop 17 s) ≡ whole
unfolding reals
reals_one_more_read l whole s i n x h k e f =
    let a : n - i ≡ suc (n - (i + 1)) = omega arith in
    let m : take i l ++ (real_at (drop 1 s) ∷ reals (n - (i + 1)) (drop 17 s)) ≡ whole = rw a at f in
    let t : take (i + 1) (set l i x) ≡ take i l ++ (x ∷ []) = rw add-one (take-suc-set l i x h) in
    rw (t, append_snoc (take i l) x (reals (n - (i + 1)) (drop 17 s)), e) m

pub reals_all_read : (l whole : List Float) (s : List ℕ) (p i n : ℕ) → length l ≤ i → length l ≡ n → take i l ++ reals (n - i) s ≡ whole → l ≡ whole
unfolding reals
reals_all_read l whole s p i n h k f =
    let a : n - i ≡ 0 = omega arith in
    let b : l ++ [] ≡ whole = rw (a, take_all i l h) at f in
    sym (append-nil l) ∙ b
