-- The floor as the code finds it: the lowest so far, from the first seed on, and the seeds from chunks of six numbers. Assumes nothing.
use Rattle.std.specs.Prelude.{◌≡◌, ℕ, zero, suc, ◌+◌, ◌*◌, ◌-◌, ◌/◌, ◌≤◌, List, length, [], ◌∷◌, take, drop, refl, Float}
use Rattle.std.proofs.Common.{sym, ap, ◌∙◌, true≢false, arith, drop-drop, get_or-drop, length-drop, add-zero}
use Rattle.std.proofs.lemmas.List.{drop-take, length-take-le}
use Rattle.std.specs.List.{fold}
use Rattle.std.specs.Float.{nan, inf, fin}
use Rattle.std.specs.Float.Ieee.{lt, is_nan, div, of_bits}
use Rattle.std.proofs.Math.Bool.{true, false}
use Rattle.float.specs.Float.{min_of}
use Rattle.float.specs.Literals.{infinity}
use Rattle.float_laws.specs.Lower.{min_is_not_nan, min_assoc}
use Rattle.seeds.specs.declared.CandidateSeed.{CandidateSeed}
use Rattle.seeds.specs.Layout.{read_from, seed_at, seeds_of, all_seeds}
use Rattle.seeds.specs.Chunks.{seed_of_first}
use Rattle.score.specs.Floor.{counted_penalty, floor_of, seeds_from, seeds_between}
use Rattle.score.proofs.FloorLaws.{counted_penalty_is_number, floor_is_number, min_with_infinity}

abbrev pub lower : Float → CandidateSeed → Float
lower p s = min_of p (counted_penalty s.sensor)

fold_lower_is_min_with_floor : (ss : List CandidateSeed) (p : Float) → is_nan p ≡ false → fold lower p ss ≡ min_of p (floor_of ss)
unfolding floor_of
fold_lower_is_min_with_floor [] p n = sym (min_with_infinity p n)
fold_lower_is_min_with_floor (s ∷ ss) p n =
    let q = counted_penalty s.sensor in
    let o = counted_penalty_is_number s.sensor in
    fold_lower_is_min_with_floor ss (min_of p q) (min_is_not_nan p q n o) ∙ min_assoc p q (floor_of ss) n o

min_of_infinity : (p : Float) → is_nan p ≡ false → min_of infinity p ≡ p
unfolding min_of is_nan lt div of_bits
min_of_infinity nan n = absurd (true≢false n)
min_of_infinity (inf false) n = refl
min_of_infinity (inf true) n = refl
min_of_infinity (fin s m e) n = refl

-- Either order gives the same, with zeros of either sign too: the first of the lowest is taken both ways.
fold_lower_is_floor : (ss : List CandidateSeed) → fold lower infinity ss ≡ floor_of ss
unfolding is_nan div of_bits
fold_lower_is_floor ss = fold_lower_is_min_with_floor ss infinity refl ∙ min_of_infinity (floor_of ss) (floor_is_number ss)

-- ---- the numbers of n seeds from place i on are read as these seeds
module _ (l : List Float) (i m : ℕ) where
  seed_at_start_of_part : seed_at (take (6 * suc m) (drop (6 * i) l)) 0 ≡ seed_at l i
  seed_at_start_of_part = seed_of_first (6 * suc m) (drop (6 * i) l) (omega arith) ∙ simp (get_or-drop, add-zero)

  rest_of_part : drop 6 (take (6 * suc m) (drop (6 * i) l)) ≡ take (6 * m) (drop (6 * suc i) l)
  rest_of_part =
      let e : 6 * suc m ≡ 6 + 6 * m = omega arith in
      let f : 6 * i + 6 ≡ 6 * suc i = omega arith in
      rw (e, drop-take 6 (6 * m) (drop (6 * i) l)) (ap (take (6 * m)) (drop-drop 6 (6 * i) l ∙ ap (λ (k : ℕ). drop k l) f))

seeds_of_part : (l : List Float) (i n : ℕ) → seeds_of n (take (6 * n) (drop (6 * i) l)) ≡ seeds_from l i n
unfolding read_from seeds_from
seeds_of_part l i zero = refl
seeds_of_part l i (suc m) = rw (seed_at_start_of_part l i m, rest_of_part l i m, seeds_of_part l (suc i) m) refl

all_seeds_of_part : (l : List Float) (from to : ℕ) → from ≤ to → 6 * to ≤ length l → all_seeds (take (6 * to - 6 * from) (drop (6 * from) l)) ≡ seeds_between l from to
all_seeds_of_part l from to h k =
    let n = to - from in
    let e : 6 * to - 6 * from ≡ 6 * n = omega arith in
    let f : length (take (6 * n) (drop (6 * from) l)) ≡ 6 * n = length-take-le (6 * n) (drop (6 * from) l) (omega (arith, length-drop (6 * from) l)) in
    let g : 6 * n / 6 ≡ n = omega arith in
    rw (e, f, g) (seeds_of_part l from n)

pub floor_by_chunks : (l : List Float) (from to : ℕ) → from ≤ to → 6 * to ≤ length l
    → fold lower infinity (all_seeds (take (6 * to - 6 * from) (drop (6 * from) l))) ≡ floor_of (seeds_between l from to)
floor_by_chunks l from to h k = fold_lower_is_floor _ ∙ ap floor_of (all_seeds_of_part l from to h k)
