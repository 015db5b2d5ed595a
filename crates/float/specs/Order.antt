-- How comparisons treat NaN, and `<` as a strict order on numbers. Assumes nothing.
use Rattle.std.specs.Prelude.{◌≡◌, refl, Bool, true, false, not, ◌&&◌, ◌||◌, ℕ, zero, suc, ◌+◌, ◌*◌, ◌≤◌, ◌<◌, ltb, eqb, Float}
use Rattle.std.proofs.Common.{sym, ap, ◌∙◌, true≢false, mul-le-mul_right, mul-lt-mul_of_pos_right, arith, ltb-true, ltb-false, eqb-true, lt-ltb, le-ltb, eq-eqb, ne_eqb}
use Rattle.std.proofs.Math.Bool.{and-false}
use Rattle.std.specs.Bool.{beq}
use Rattle.std.proofs.Math.Dec.{eqb-zero-suc, eqb-suc-zero}
use Rattle.std.specs.Float.{nan, inf, fin}
use Rattle.std.specs.Float.Ieee.{up, down, below, level, lt, le, eq, ne, neg, is_nan}
use Rattle.std.specs.Float.Ieee.Fits.{down_pos}
use Rattle.common.specs.Tests.{both_true}

-- only NaN differs from itself
pub ne_self : (x : Float) → ne x x ≡ is_nan x
unfolding ne is_nan
ne_self nan = refl
ne_self (inf true) = refl
ne_self (inf false) = refl
ne_self (fin true m e) = simp (eq-eqb (m * up e * down e) (m * up e * down e) refl)
ne_self (fin false m e) = simp (eq-eqb (m * up e * down e) (m * up e * down e) refl)

-- ---- where one value is below another, the other isn't below it
below_asym : (s : Bool) (a : ℕ) (t : Bool) (b : ℕ) → below s a t b ≡ true → below t b s a ≡ false
below_asym false a false b h = le-ltb b a (let l = ltb-true a b h in omega arith)
below_asym false a true b h = absurd (true≢false (sym h))
below_asym true a false b h = refl
below_asym true a true b h = le-ltb a b (let l = ltb-true b a h in omega arith)

pub lt_asym : (x y : Float) → lt x y ≡ true → lt y x ≡ false
unfolding lt
lt_asym nan y h = absurd (true≢false (sym h))
lt_asym (inf s) nan h = refl
lt_asym (inf true) (inf true) h = refl
lt_asym (inf true) (inf false) h = refl
lt_asym (inf false) (inf t) h = absurd (true≢false (sym h))
lt_asym (inf true) (fin t n d) h = refl
lt_asym (inf false) (fin t n d) h = absurd (true≢false (sym h))
lt_asym (fin s m e) nan h = refl
lt_asym (fin s m e) (inf true) h = absurd (true≢false (sym h))
lt_asym (fin s m e) (inf false) h = refl
lt_asym (fin s m e) (fin t n d) h = below_asym s (m * up e * down d) t (n * up d * down e) h

-- ---- where x < y and not z < y, and z is no NaN, x < z
-- without signs: x is X / dx, y is Y / dy, and z is Z / dz
lt_through_larger_fraction : (X Y Z dx dy dz : ℕ) → 0 < dx → 0 < dy → 0 < dz → X * dy < Y * dx → Y * dz ≤ Z * dy → X * dz < Z * dx
lt_through_larger_fraction X Y Z dx dy dz a b c h k =
    elim (ltb (X * dz) (Z * dx)) as (λ (v : Bool). ltb (X * dz) (Z * dx) ≡ v → X * dz < Z * dx) [
      | true ↦ λ e. ltb-true (X * dz) (Z * dx) e
      | false ↦ λ e.
          let g : Z * dx ≤ X * dz = ltb-false (X * dz) (Z * dx) e in
          let p : X * dy * dz < Y * dx * dz = mul-lt-mul_of_pos_right h c in
          let q : Y * dz * dx ≤ Z * dy * dx = mul-le-mul_right dx k in
          let r : Z * dx * dy ≤ X * dz * dy = mul-le-mul_right dy g in
          omega arith
    ] refl

lt_through_smaller_fraction : (X Y Z dx dy dz : ℕ) → 0 < dx → 0 < dy → 0 < dz → Y * dx < X * dy → Z * dy ≤ Y * dz → Z * dx < X * dz
lt_through_smaller_fraction X Y Z dx dy dz a b c h k =
    elim (ltb (Z * dx) (X * dz)) as (λ (v : Bool). ltb (Z * dx) (X * dz) ≡ v → Z * dx < X * dz) [
      | true ↦ λ e. ltb-true (Z * dx) (X * dz) e
      | false ↦ λ e.
          let g : X * dz ≤ Z * dx = ltb-false (Z * dx) (X * dz) e in
          let p : Y * dx * dz < X * dy * dz = mul-lt-mul_of_pos_right h c in
          let q : Z * dy * dx ≤ Y * dz * dx = mul-le-mul_right dx k in
          let r : X * dz * dy ≤ Z * dx * dy = mul-le-mul_right dy g in
          omega arith
    ] refl

-- a product with a positive factor is positive exactly where the other factor is
product_positive_by_factor : (x d d' : ℕ) → 0 < d' → 0 < x * d → 0 < x * d'
product_positive_by_factor zero d d' a h = omega arith
product_positive_by_factor (suc x) d d' a h = omega arith

zero_of_product_zero : (x d : ℕ) → 0 < d → x * d ≤ 0 → x ≡ 0
zero_of_product_zero zero d a h = refl
zero_of_product_zero (suc x) d a h = absurd (omega arith)

below_cotrans : (s t u : Bool) (X Y Z dx dy dz : ℕ) → 0 < dx → 0 < dy → 0 < dz
    → below s (X * dy) t (Y * dx) ≡ true → below u (Z * dy) t (Y * dz) ≡ false → below s (X * dz) u (Z * dx) ≡ true
below_cotrans false false false X Y Z dx dy dz a b c h k =
    lt-ltb (X * dz) (Z * dx) (lt_through_larger_fraction X Y Z dx dy dz a b c (ltb-true (X * dy) (Y * dx) h) (ltb-false (Z * dy) (Y * dz) k))
below_cotrans false false true X Y Z dx dy dz a b c h k =
    let p : X * dy < Y * dx = ltb-true (X * dy) (Y * dx) h in
    let q : Z * dy + Y * dz ≤ 0 = ltb-false 0 (Z * dy + Y * dz) k in
    let r : 0 < Y * dz = product_positive_by_factor Y dx dz c (omega arith) in
    absurd (omega arith)
below_cotrans false true u X Y Z dx dy dz a b c h k = absurd (true≢false (sym h))
below_cotrans true false false zero Y Z dx dy dz a b c h k =
    let p : 0 < zero * dy + Y * dx = ltb-true 0 (zero * dy + Y * dx) h in
    let q : Y * dz ≤ Z * dy = ltb-false (Z * dy) (Y * dz) k in
    let r : 0 < Y * dz = product_positive_by_factor Y dx dz c (omega arith) in
    let o : 0 < Z * dx = product_positive_by_factor Z dy dx a (omega arith) in
    lt-ltb 0 (zero * dz + Z * dx) (omega arith)
below_cotrans true false false (suc X) Y Z dx dy dz a b c h k = lt-ltb 0 (suc X * dz + Z * dx) (omega arith)
below_cotrans true false true X Y Z dx dy dz a b c h k =
    let p : 0 < X * dy + Y * dx = ltb-true 0 (X * dy + Y * dx) h in
    let q : Z * dy + Y * dz ≤ 0 = ltb-false 0 (Z * dy + Y * dz) k in
    let y : Y ≡ 0 = zero_of_product_zero Y dz c (omega arith) in
    let z : Z ≡ 0 = zero_of_product_zero Z dy b (omega arith) in
    let r : 0 < X * dz = product_positive_by_factor X dy dz c (let o : 0 < X * dy + 0 * dx = rw y at p in omega arith) in
    lt-ltb (Z * dx) (X * dz) (rw z (omega arith))
below_cotrans true true false X Y Z dx dy dz a b c h k =
    lt-ltb 0 (X * dz + Z * dx) (let p : 0 < X * dz = product_positive_by_factor X dy dz c (let q = ltb-true (Y * dx) (X * dy) h in omega arith) in omega arith)
below_cotrans true true true X Y Z dx dy dz a b c h k =
    lt-ltb (Z * dx) (X * dz) (lt_through_smaller_fraction X Y Z dx dy dz a b c (ltb-true (Y * dx) (X * dy) h) (ltb-false (Y * dz) (Z * dy) k))

pub lt_cotrans : (x y z : Float) → is_nan z ≡ false → lt x y ≡ true → lt z y ≡ false → lt x z ≡ true
unfolding lt is_nan
lt_cotrans nan y z n h k = absurd (true≢false (sym h))
lt_cotrans (inf s) nan z n h k = absurd (true≢false (sym h))
lt_cotrans (fin s m e) nan z n h k = absurd (true≢false (sym h))
lt_cotrans (inf false) (inf t) z n h k = absurd (true≢false (sym h))
lt_cotrans (inf true) (inf true) z n h k = absurd (true≢false (sym h))
lt_cotrans (inf true) (inf false) nan n h k = absurd (true≢false n)
lt_cotrans (inf true) (inf false) (inf true) n h k = absurd (true≢false k)
lt_cotrans (inf true) (inf false) (inf false) n h k = refl
lt_cotrans (inf true) (inf false) (fin u o g) n h k = refl
lt_cotrans (inf false) (fin t j d) z n h k = absurd (true≢false (sym h))
lt_cotrans (inf true) (fin t j d) nan n h k = absurd (true≢false n)
lt_cotrans (inf true) (fin t j d) (inf true) n h k = absurd (true≢false k)
lt_cotrans (inf true) (fin t j d) (inf false) n h k = refl
lt_cotrans (inf true) (fin t j d) (fin u o g) n h k = refl
lt_cotrans (fin s m e) (inf true) z n h k = absurd (true≢false (sym h))
lt_cotrans (fin s m e) (inf false) nan n h k = absurd (true≢false n)
lt_cotrans (fin s m e) (inf false) (inf true) n h k = absurd (true≢false k)
lt_cotrans (fin s m e) (inf false) (inf false) n h k = refl
lt_cotrans (fin s m e) (inf false) (fin u o g) n h k = absurd (true≢false k)
lt_cotrans (fin s m e) (fin t j d) nan n h k = absurd (true≢false n)
lt_cotrans (fin s m e) (fin t j d) (inf true) n h k = absurd (true≢false k)
lt_cotrans (fin s m e) (fin t j d) (inf false) n h k = refl
lt_cotrans (fin s m e) (fin t j d) (fin u o g) n h k =
    below_cotrans s t u (m * up e) (j * up d) (o * up g) (down e) (down d) (down g) (down_pos e) (down_pos d) (down_pos g) h k

-- ---- x ≤ y, so not y < x
not_below_of_level : (s : Bool) (a : ℕ) (t : Bool) (b : ℕ) → level s a t b ≡ true → below t b s a ≡ false
not_below_of_level s a t b h = let p = both_true (eqb a b) (beq s t || eqb a 0) h in go s t (eqb-true a b p.0) p.1
  where
    go : (s t : Bool) → a ≡ b → (beq s t || eqb a 0) ≡ true → below t b s a ≡ false
    go false false e z = le-ltb b a (omega arith)
    go false true e z = le-ltb 0 (b + a) (let w = eqb-true a 0 z in omega arith)
    go true false e z = refl
    go true true e z = le-ltb a b (omega arith)

false_in_either_case : (u v w : Bool) → (u ≡ true → w ≡ false) → (v ≡ true → w ≡ false) → (u || v) ≡ true → w ≡ false
false_in_either_case true v w f g h = f refl
false_in_either_case false v w f g h = g h

pub le_not_lt : (x y : Float) → le x y ≡ true → lt y x ≡ false
unfolding le lt eq
le_not_lt nan y h = absurd (true≢false (sym h))
le_not_lt (inf s) nan h = refl
le_not_lt (inf true) (inf t) h = and-false t
le_not_lt (inf false) (inf true) h = absurd (true≢false (sym h))
le_not_lt (inf false) (inf false) h = refl
le_not_lt (inf true) (fin t n d) h = refl
le_not_lt (inf false) (fin t n d) h = absurd (true≢false (sym h))
le_not_lt (fin s m e) nan h = refl
le_not_lt (fin s m e) (inf true) h = absurd (true≢false (sym h))
le_not_lt (fin s m e) (inf false) h = refl
le_not_lt (fin s m e) (fin t n d) h =
    let a = m * up e * down d in
    let b = n * up d * down e in
    false_in_either_case (below s a t b) (level s a t b) (below t b s a) (below_asym s a t b) (not_below_of_level s a t b) h

-- no value is at most NaN
pub le_second_is_not_nan : (x y : Float) → le x y ≡ true → is_nan y ≡ false
unfolding le lt eq is_nan
le_second_is_not_nan nan nan h = absurd (true≢false (sym h))
le_second_is_not_nan (inf s) nan h = absurd (true≢false (sym h))
le_second_is_not_nan (fin s m e) nan h = absurd (true≢false (sym h))
le_second_is_not_nan x (inf t) h = refl
le_second_is_not_nan x (fin t n d) h = refl

-- so where x < y and y ≤ z, x < z
pub lt_le_trans : (x y z : Float) → lt x y ≡ true → le y z ≡ true → lt x z ≡ true
lt_le_trans x y z h k = lt_cotrans x y z (le_second_is_not_nan y z k) h (le_not_lt y z k)

-- ---- of two numbers one is at most the other
lt_or_equal_test : (a b : ℕ) (same : Bool) → a ≤ b → (a ≡ b → same ≡ true) → (ltb a b || same) ≡ true
lt_or_equal_test a b same h k =
    elim (ltb a b) as (λ (v : Bool). ltb a b ≡ v → (v || same) ≡ true) [
      | true ↦ λ e. refl
      | false ↦ λ e. let g = ltb-false a b e in k (omega arith)
    ] refl

at_most_of_not_below : (s : Bool) (a : ℕ) (t : Bool) (b : ℕ) → below t b s a ≡ false → (below s a t b || level s a t b) ≡ true
at_most_of_not_below false a false b h = lt_or_equal_test a b (eqb a b && true) (ltb-false b a h) (λ q. simp (eq-eqb a b q))
at_most_of_not_below false a true b h = let p = ltb-false 0 (b + a) h in simp (eq-eqb a b (omega arith), eq-eqb a 0 (omega arith))
at_most_of_not_below true zero false zero h = refl
at_most_of_not_below true zero false (suc b) h = simp (lt-ltb 0 (zero + suc b) (omega arith))
at_most_of_not_below true (suc a) false b h = simp (lt-ltb 0 (suc a + b) (omega arith))
at_most_of_not_below true a true b h = lt_or_equal_test b a (eqb a b && true) (ltb-false a b h) (λ q. simp (eq-eqb a b (sym q)))

pub le_of_not_lt : (x y : Float) → is_nan x ≡ false → is_nan y ≡ false → lt y x ≡ false → le x y ≡ true
unfolding lt eq le is_nan
le_of_not_lt nan y n o h = absurd (true≢false n)
le_of_not_lt (inf s) nan n o h = absurd (true≢false o)
le_of_not_lt (fin s m e) nan n o h = absurd (true≢false o)
le_of_not_lt (inf true) (inf true) n o h = refl
le_of_not_lt (inf true) (inf false) n o h = refl
le_of_not_lt (inf false) (inf true) n o h = absurd (true≢false h)
le_of_not_lt (inf false) (inf false) n o h = refl
le_of_not_lt (inf true) (fin t k d) n o h = refl
le_of_not_lt (inf false) (fin t k d) n o h = absurd (true≢false h)
le_of_not_lt (fin s m e) (inf true) n o h = absurd (true≢false h)
le_of_not_lt (fin s m e) (inf false) n o h = refl
le_of_not_lt (fin s m e) (fin t k d) n o h = at_most_of_not_below s (m * up e * down d) t (k * up d * down e) h

-- ---- nothing is below itself, and negation turns the order round
pub lt_irrefl : (x : Float) → lt x x ≡ false
lt_irrefl x =
    elim (lt x x) as (λ (v : Bool). lt x x ≡ v → v ≡ false) [
      | true ↦ λ e. sym e ∙ lt_asym x x e
      | false ↦ λ e. refl
    ] refl

below_neg : (s : Bool) (a : ℕ) (t : Bool) (b : ℕ) → below (not s) a (not t) b ≡ below t b s a
below_neg false a false b = refl
below_neg false a true b = let e : a + b ≡ b + a = omega arith in ap (ltb 0) e
below_neg true a false b = refl
below_neg true a true b = refl

pub lt_neg : (x y : Float) → lt (neg x) (neg y) ≡ lt y x
unfolding lt neg
lt_neg nan nan = refl
lt_neg nan (inf t) = refl
lt_neg nan (fin t n d) = refl
lt_neg (inf s) nan = refl
lt_neg (inf true) (inf true) = refl
lt_neg (inf true) (inf false) = refl
lt_neg (inf false) (inf true) = refl
lt_neg (inf false) (inf false) = refl
lt_neg (inf s) (fin t n d) = refl
lt_neg (fin s m e) nan = refl
lt_neg (fin s m e) (inf true) = refl
lt_neg (fin s m e) (inf false) = refl
lt_neg (fin s m e) (fin t n d) = below_neg s (m * up e * down d) t (n * up d * down e)

-- ---- a value below another doesn't equal it
below_is_not_level : (s : Bool) (a : ℕ) (t : Bool) (b : ℕ) → below s a t b ≡ true → level s a t b ≡ false
below_is_not_level false a false b h = simp (ne_eqb a b (λ e. let l = ltb-true a b h in omega arith))
below_is_not_level false a true b h = absurd (true≢false (sym h))
below_is_not_level true a true b h = simp (ne_eqb a b (λ e. let l = ltb-true b a h in omega arith))
below_is_not_level true zero false zero h = absurd (let l = ltb-true 0 (zero + zero) h in omega arith)
below_is_not_level true zero false (suc b) h = simp (eqb-zero-suc b)
below_is_not_level true (suc a) false b h = simp (eqb-suc-zero a, and-false (eqb (suc a) b))

pub lt_not_eq : (x y : Float) → lt x y ≡ true → eq x y ≡ false
unfolding lt eq
lt_not_eq nan y h = absurd (true≢false (sym h))
lt_not_eq (inf s) nan h = refl
lt_not_eq (inf true) (inf true) h = absurd (true≢false (sym h))
lt_not_eq (inf true) (inf false) h = refl
lt_not_eq (inf false) (inf t) h = absurd (true≢false (sym h))
lt_not_eq (inf s) (fin t n d) h = refl
lt_not_eq (fin s m e) nan h = refl
lt_not_eq (fin s m e) (inf t) h = refl
lt_not_eq (fin s m e) (fin t n d) h = below_is_not_level s (m * up e * down d) t (n * up d * down e) h
