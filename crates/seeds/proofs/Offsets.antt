-- Where the centre is at most 0.75 in size and the step is from 1e-11 to 1, the centre moved by -s, 0 and s is apart: the rounded sums lie within 2 ^ -53 of the exact
-- ones, which are 2 ^ -37 apart at least, and 1e-12 is below 2 ^ -38. The bound needn't drop any of them. Assumes nothing.
use Rattle.std.specs.Prelude.{◌≡◌, refl, Bool, true, false, ℕ, ◌+◌, ◌*◌, ◌^◌, ◌≤◌, ℤ, pos, Float}
use Rattle.std.proofs.Common.{sym, ◌∙◌, true≢false, mul-pos, mul-le-mul_right, arith, ltb-false, lit≤, pow_pos}
use Rattle.std.proofs.Math.Nat.{le_of_mul-le-mul_left}
use Rattle.std.specs.Float.{nan, inf, fin, binary64}
use Rattle.std.specs.Float.Ieee.{of_bits, up, down, round, sub, neg, lt, le, eq}
use Rattle.std.specs.Float.Ieee.Fits.{down_pos}
use Rattle.common.specs.Tests.{case}
use Rattle.float.specs.Binary64.{◌+₆₄◌}
use Rattle.float.specs.Float.{abs_of}
use Rattle.float.specs.Order.{le_not_lt, lt_le_trans}
use Rattle.float_laws.specs.Fraction.{◌⊕◌, size_plus, size_signed, ring}
use Rattle.float_laws.specs.Rounded.{value, Within, within_own_value}
use Rattle.float_laws.specs.Within.{add_within}
use Rattle.float_laws.specs.Exceeds.{Exceeds, plus_exceeds}
use Rattle.float_laws.specs.Differences.{difference_not_below}
use Rattle.seeds.specs.Rules.{closer, tilt_limit, offsets, moved}
use Rattle.seeds.specs.Admissible.{least_step, most_step}
use Rattle.seeds.specs.Theorem.{TiltsApart}

-- ---- what the premises say of the numbers
-- at most 0.75 in size
pub data Centre : Float → Type 0 where
  centred : {s : Bool} {m : ℕ} {e : ℤ} → 4 * (m * up e) ≤ 3 * down e → Centre (fin s m e)

-- from 2 ^ -37 to 1
pub data Step : Float → Type 0 where
  step : {n : ℕ} {d : ℤ} → down d ≤ 2 ^ 37 * (n * up d) → n * up d ≤ down d → Step (fin false n d)

le_2_37_from_le_2_89 : (i x y : ℕ) → 2 ^ 52 ≤ i → i * x ≤ y * 2 ^ 89 → x ≤ 2 ^ 37 * y
le_2_37_from_le_2_89 i x y h k = le_of_mul-le-mul_left {k = 2 ^ 52} (let l = mul-le-mul_right x h in omega arith) (pow_pos 52)

pub step_from_bounds : (s : Float) → le least_step s ≡ true → le s most_step ≡ true → Step s
unfolding le lt eq of_bits
step_from_bounds nan h k = absurd (true≢false (sym h))
step_from_bounds (inf true) h k = absurd (true≢false (sym h))
step_from_bounds (inf false) h k = absurd (true≢false (sym k))
step_from_bounds (fin true n d) h k =
    absurd (let l = ltb-false 0 (n * up d * 2 ^ 89 + 6189700196426901 * 1 * down d) (le_not_lt least_step (fin true n d) h) in let p = down_pos d in omega arith)
step_from_bounds (fin false n d) h k =
    step {n = n} {d = d}
    (le_2_37_from_le_2_89 6189700196426901 (down d) (n * up d) (lit≤ tt) (ltb-false (n * up d * 2 ^ 89) (6189700196426901 * 1 * down d) (le_not_lt least_step (fin false n d) h)))
    (let l = ltb-false (1 * 1 * down d) (n * up d * 1) (le_not_lt (fin false n d) most_step k) in omega arith)

-- ---- the centre, moved by an offset of at most 1 in size, is within 2 ^ -53 of the exact sum
sum_size_le_seven_quarters : (a c b d : ℕ) → 4 * a ≤ 3 * c → b ≤ d → 4 * (a * d + b * c) ≤ 7 * (c * d)
sum_size_le_seven_quarters a c b d h k =
    let x = simp ring at (mul-le-mul_right d h) in
    let y = simp ring at (mul-le-mul_right c k) in
    simp ring (omega arith)

moved_within : (s t : Bool) (m n : ℕ) (e d : ℤ) → 4 * (m * up e) ≤ 3 * down e → n * up d ≤ down d
    → Within (2 ^ 53) 1 (fin s m e +₆₄ fin t n d) (value s m e ⊕ value t n d)
moved_within s t m n e d h k =
    add_within (within_own_value s m e) (within_own_value t n d)
    (record {
      some = mul-pos (down_pos e) (down_pos d);
      small =
          rw (size_plus (value s m e) (value t n d), size_signed s (m * up e) (down e), size_signed t (n * up d) (down d))
          (sum_size_le_seven_quarters (m * up e) (down e) (n * up d) (down d) h k);
    })
    (lit≤ tt)

-- ---- 2 ^ -38 is above 1e-12
tilt_limit_le_2_minus_38 : le tilt_limit (round binary64 false 1 (2 ^ 38)) ≡ true
unfolding le lt eq of_bits round
tilt_limit_le_2_minus_38 = refl

not_closer_if_2_minus_38_apart : (x y : Float) → lt (abs_of (sub binary64 x y)) (round binary64 false 1 (2 ^ 38)) ≡ false → closer tilt_limit x y ≡ false
unfolding closer
not_closer_if_2_minus_38_apart x y h =
    case (lt (abs_of (sub binary64 x y)) tilt_limit)
    (λ l. absurd (true≢false (sym (lt_le_trans (abs_of (sub binary64 x y)) tilt_limit (round binary64 false 1 (2 ^ 38)) l tilt_limit_le_2_minus_38) ∙ h)))
    (λ l. l)

-- ---- two offsets of at most 1 in size, the second above the first by 2 ^ -37
moved_apart : (s t u : Bool) (m n k : ℕ) (e d g : ℤ) → 4 * (m * up e) ≤ 3 * down e → n * up d ≤ down d → k * up g ≤ down g
    → Exceeds (2 ^ 53) (2 ^ 16) (value t n d) (value u k g) → closer tilt_limit (fin s m e +₆₄ fin t n d) (fin s m e +₆₄ fin u k g) ≡ false
moved_apart s t u m n k e d g c x y h =
    not_closer_if_2_minus_38_apart (fin s m e +₆₄ fin t n d) (fin s m e +₆₄ fin u k g)
    (difference_not_below 65534 1 (2 ^ 38) (pow_pos 53) (pow_pos 38) (lit≤ tt) (mul-pos (down_pos e) (down_pos d)) (mul-pos (down_pos e) (down_pos g))
    (moved_within s t m n e d c x) (moved_within s u m k e g c y) (plus_exceeds (value s m e) h))

-- ---- the three offsets
module _ (n : ℕ) (d : ℤ) (l : down d ≤ 2 ^ 37 * (n * up d)) where
  zero_exceeds_minus_step : Exceeds (2 ^ 53) (2 ^ 16) (value true n d) (value false 0 (pos 0))
  zero_exceeds_minus_step = record { by = omega arith }

  step_exceeds_zero : Exceeds (2 ^ 53) (2 ^ 16) (value false 0 (pos 0)) (value false n d)
  step_exceeds_zero = record { by = omega arith }

  step_exceeds_minus_step : Exceeds (2 ^ 53) (2 ^ 16) (value true n d) (value false n d)
  step_exceeds_minus_step = record { by = let p = mul-le-mul_right (down d) l in omega arith }

pub moved_offsets_apart : (c s : Float) → Centre c → Step s → TiltsApart (moved c (offsets s))
unfolding offsets neg of_bits
moved_offsets_apart c s (centred {s = r} {m = m} {e = e} h) (step {n = n} {d = d} l k) =
    let z : 0 * up (pos 0) ≤ down (pos 0) = omega arith in (
      (moved_apart r true false m n 0 e d (pos 0) h k z (zero_exceeds_minus_step n d l), (moved_apart r true false m n n e d d h k k (step_exceeds_minus_step n d l), tt)),
      ((moved_apart r false false m 0 n e (pos 0) d h z k (step_exceeds_zero n d l), tt), (tt, tt)),
    )
