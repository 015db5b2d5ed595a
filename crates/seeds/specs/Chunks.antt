-- The seeds of a list as the code reads them, six numbers at a time. Assumes nothing.
use Rattle.std.proofs.Common.{ℕ, zero, suc, ◌+◌, ◌*◌, ◌<◌, ◌≤◌, ◌≡◌, refl, ◌∙◌, List, [], take, drop, map, arith, get_or, get_or-drop, add_assoc, Float}
use Rattle.std.proofs.lemmas.List.{get_or-take}
use Rattle.std.specs.Float.{nan}
use Rattle.std.specs.Simd.{first_chunks}
use Rattle.seeds.specs.Layout.{read_from, seed_at, seeds_of}

-- the first seed is that of the first six numbers or more
pub seed_of_first : (n : ℕ) (l : List Float) → 6 ≤ n → seed_at (take n l) 0 ≡ seed_at l 0
seed_of_first n l h =
    let number = λ (k : ℕ) (m : k < 6). get_or-take n l k nan (omega (arith, m, h)) in
    rw (number 0 (omega arith), number 1 (omega arith), number 2 (omega arith), number 3 (omega arith), number 4 (omega arith), number 5 (omega arith)) refl

-- the first n chunks are the first n seeds
pub seeds_in_chunks : (n : ℕ) (l : List Float) → map (λ six. seed_at six 0) (first_chunks 6 n l) ≡ seeds_of n l
unfolding read_from
seeds_in_chunks zero l = refl
seeds_in_chunks (suc n) l = rw (seed_of_first 6 l (omega arith), seeds_in_chunks n (drop 6 l)) refl

-- the chunk in place i is the seed in place i
pub seed_in_chunks : (n i : ℕ) (l : List Float) → i < n → seed_at (get_or (first_chunks 6 n l) i []) 0 ≡ seed_at l i
seed_in_chunks zero i l h = absurd (omega (arith, h))
seed_in_chunks (suc n) zero l h = seed_of_first 6 l (omega arith)
seed_in_chunks (suc n) (suc i) l h =
    let e : 6 * suc i ≡ 6 + 6 * i = omega arith in
    seed_in_chunks n i (drop 6 l) (omega (arith, h)) ∙ rw e (simp (get_or-drop, add_assoc))
