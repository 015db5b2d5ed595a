-- With a bound of at most 0.5 and a step from 1e-11 to 1, the tilts that the bound keeps of -s, 0 and s around any
-- centre are apart. Around a centre beyond 0.75 it keeps one at most, since the centre itself and the tilt farther out
-- aren't within the bound. Assumes nothing.
use Rattle.std.specs.Prelude.{◌≡◌, refl, Bool, true, false, [], ◌∷◌, ℕ, ◌+◌, ◌*◌, ◌≤◌, leb, ℤ, pos, Float}
use Rattle.std.proofs.Common.{sym, ◌∙◌, true≢false, mul-pos, mul-one, mul_assoc, mul-le-mul_right, arith, leb-true, leb-false}
use Rattle.std.specs.Float.{nan, inf, fin, binary64}
use Rattle.std.specs.Float.Ieee.{of_bits, up, down, round, add, neg, lt, le, eq}
use Rattle.std.specs.Float.Ieee.Fits.{down_pos}
use Rattle.common.specs.Tests.{case}
use Rattle.float.specs.Binary64.{◌+₆₄◌}
use Rattle.float.specs.Float.{abs_of, within}
use Rattle.float.specs.Literals.{half₆₄}
use Rattle.float.specs.Order.{lt_cotrans, le_not_lt, le_second_is_not_nan}
use Rattle.float_laws.specs.Rounded.{add_rounds}
use Rattle.float_laws.specs.Differences.{plus_not_below, minus_not_below}
use Rattle.float_laws.specs.NotBelow.{not_below_trans, le_first_is_not_nan}
use Rattle.seeds.specs.Merge.{keep}
use Rattle.seeds.specs.Rules.{closer, tilt_limit, offsets}
use Rattle.seeds.proofs.Unmerged.{keep_apart}
use Rattle.seeds.specs.Admissible.{admitted}
use Rattle.seeds.specs.Theorem.{TiltsApart}
use Rattle.seeds.proofs.Offsets.{centred, Step, step, moved_offsets_apart}

-- ---- what isn't below 0.75 in size isn't within the bound
half_lt_three_quarters : lt half₆₄ (round binary64 false 3 4) ≡ true
unfolding lt of_bits round
half_lt_three_quarters = refl

abbrev NotBelowThreeQuarters : Float → Type 0
NotBelowThreeQuarters x = lt (abs_of x) (round binary64 false 3 4) ≡ false

not_below_three_quarters_not_within : (max x : Float) → lt half₆₄ max ≡ false → NotBelowThreeQuarters x → within max x ≡ false
unfolding within
not_below_three_quarters_not_within max x h k =
    case (le (abs_of x) max)
    (λ l.
    let m = not_below_trans max (abs_of x) (round binary64 false 3 4) (le_first_is_not_nan (abs_of x) max l) (le_not_lt (abs_of x) max l) k in
    absurd (true≢false (sym (lt_cotrans half₆₄ (round binary64 false 3 4) max (le_second_is_not_nan (abs_of x) max l) half_lt_three_quarters m) ∙ h)))
    (λ l. l)

-- ---- a centre beyond 0.75, moved away from 0 or not at all
three_quarters_le_after_adding : (a c b d : ℕ) → 3 * c ≤ 4 * a → 3 * (c * d) ≤ 4 * (a * d + b)
three_quarters_le_after_adding a c b d h = let x = simp mul_assoc at (mul-le-mul_right d h) in omega arith

module _ (m n : ℕ) (e d : ℤ) (h : 3 * down e ≤ 4 * (m * up e)) where
  plus_stays_not_below_three_quarters : NotBelowThreeQuarters (fin false m e +₆₄ fin false n d)
  plus_stays_not_below_three_quarters =
      plus_not_below (add_rounds false false m n e d) (mul-pos (down_pos e) (down_pos d)) 3 4 (omega arith)
      (let x = three_quarters_le_after_adding (m * up e) (down e) (n * up d * down e) (down d) h in omega arith)

  minus_stays_not_below_three_quarters : NotBelowThreeQuarters (fin true m e +₆₄ fin true n d)
  minus_stays_not_below_three_quarters =
      minus_not_below (add_rounds true true m n e d) (mul-pos (down_pos e) (down_pos d)) 3 4 (omega arith)
      (let x = three_quarters_le_after_adding (m * up e) (down e) (n * up d * down e) (down d) h in omega arith)

adding_zero_stays_not_below_three_quarters : (s : Bool) (m : ℕ) (e : ℤ) → 3 * down e ≤ 4 * (m * up e) → NotBelowThreeQuarters (fin s m e +₆₄ fin false 0 (pos 0))
adding_zero_stays_not_below_three_quarters false m e h = plus_stays_not_below_three_quarters m 0 e (pos 0) h
adding_zero_stays_not_below_three_quarters true m e h =
    minus_not_below (add_rounds true false m 0 e (pos 0)) (mul-pos (down_pos e) (down_pos (pos 0))) 3 4 (omega arith)
    (let x = mul-one (down e) in let y = mul-one (m * up e) in omega arith)

infinity_not_below_three_quarters : (s : Bool) → NotBelowThreeQuarters (inf s)
unfolding lt abs_of round
infinity_not_below_three_quarters s = refl

-- ---- one of three at most
apart_if_first_at_most : (p : Float → Bool) (x y z : Float) → p y ≡ false → p z ≡ false → TiltsApart (keep p (x ∷ y ∷ z ∷ []))
unfolding keep
apart_if_first_at_most p x y z h k = case (p x) (λ e. simp (e, h, k) (tt, tt)) (λ e. simp (e, h, k) tt)

apart_if_last_at_most : (p : Float → Bool) (x y z : Float) → p x ≡ false → p y ≡ false → TiltsApart (keep p (x ∷ y ∷ z ∷ []))
unfolding keep
apart_if_last_at_most p x y z h k = case (p z) (λ e. simp (h, k, e) (tt, tt)) (λ e. simp (h, k, e) tt)

nan_not_within : (max : Float) → within max nan ≡ false
unfolding within le lt eq abs_of
nan_not_within max = refl

nan_plus_is_nan : (d : Float) → nan +₆₄ d ≡ nan
unfolding add
nan_plus_is_nan d = refl

infinity_plus_finite_is_infinity : (r t : Bool) (n : ℕ) (d : ℤ) → inf r +₆₄ fin t n d ≡ inf r
unfolding add
infinity_plus_finite_is_infinity r t n d = refl

far_centre_admits_apart : (max : Float) (r : Bool) (m n : ℕ) (e d : ℤ) → lt half₆₄ max ≡ false → 3 * down e ≤ 4 * (m * up e)
    → TiltsApart (keep (within max) ((fin r m e +₆₄ fin true n d) ∷ (fin r m e +₆₄ fin false 0 (pos 0)) ∷ (fin r m e +₆₄ fin false n d) ∷ []))
far_centre_admits_apart max true m n e d h k = apart_if_last_at_most (within max) _ _ _ (not_below_three_quarters_not_within max _ h (minus_stays_not_below_three_quarters m n e d k)) (not_below_three_quarters_not_within max _ h (adding_zero_stays_not_below_three_quarters true m e k))
far_centre_admits_apart max false m n e d h k = apart_if_first_at_most (within max) _ _ _ (not_below_three_quarters_not_within max _ h (adding_zero_stays_not_below_three_quarters false m e k)) (not_below_three_quarters_not_within max _ h (plus_stays_not_below_three_quarters m n e d k))

pub admitted_offsets_apart : (max c s : Float) → lt half₆₄ max ≡ false → Step s → TiltsApart (admitted max c (offsets s))
unfolding admitted offsets neg of_bits
admitted_offsets_apart max nan s h k = apart_if_first_at_most (within max) _ _ _ (rw nan_plus_is_nan (nan_not_within max)) (rw nan_plus_is_nan (nan_not_within max))
admitted_offsets_apart max (inf r) s h (step {n = n} {d = d} l u) =
    apart_if_first_at_most (within max) _ _ _ (rw (infinity_plus_finite_is_infinity r false 0 (pos 0)) (not_below_three_quarters_not_within max (inf r) h (infinity_not_below_three_quarters r))) (rw (infinity_plus_finite_is_infinity r false n d) (not_below_three_quarters_not_within max (inf r) h (infinity_not_below_three_quarters r)))
admitted_offsets_apart max (fin r m e) s h (step {n = n} {d = d} l u) =
    case (leb (4 * (m * up e)) (3 * down e))
    (λ t. keep_apart (closer tilt_limit) (within max) _ (moved_offsets_apart (fin r m e) (fin false n d) (centred {s = r} {m = m} {e = e} (leb-true (4 * (m * up e)) (3 * down e) t)) (step {n = n} {d = d} l u)))
    (λ t. far_centre_admits_apart max r m n e d h (let x = leb-false (4 * (m * up e)) (3 * down e) t in omega arith))
