-- Chunks of two numbers, which are the points of a list, as an iterator gives them. Assumes nothing.
use Rattle.std.specs.Prelude.{◌≡◌, refl, Bool, true, false, ◌||◌, cond, List, [], ◌∷◌, ◌<◌, ℕ, zero, suc, ◌+◌, ◌*◌, ◌/◌, length, map, get_or, drop, Float, Some, None}
use Rattle.std.proofs.Common.{sym, ap, ◌∙◌, arith, add-one, length-drop, drop-cons}
use denote.Ref.{Bor}
use denote.Param.Members.{Mut}
use Rattle.std.specs.declared.slice.Iter.{Iter}
use Rattle.std.specs.Slice.Iter.{iter_rest}
use Rattle.std.specs.Iterator.{Drains}
use Rattle.std.specs.Fn.{Called}
use Rattle.std.specs.Float.{nan}
use Rattle.std.specs.Simd.{first_chunks}
use Rattle.std.specs.List.{FoldsTo}
use Rattle.std.specs.List.{fold, find, list_any}
use Rattle.std.proofs.iter.Yields.{fronts}
use Rattle.std.proofs.lemmas.Iterator.{YieldsList-from_slice}
use Rattle.std.proofs.lemmas.Iterator.Consumers.{fold_from_yields_List}
use Rattle.camera.specs.declared.math.Pt2.{Pt2}
use Rattle.points.specs.Points.{points_of, fold_points, find_point}
use Rattle.camera.specs.Math.{point_at}

-- the point of a chunk
abbrev pub point_of : Bor (List Float) → Pt2
point_of xy = point_at xy.now 0

-- two more numbers are one more pair
half_of_two_more : (n : ℕ) → suc (suc n) / 2 ≡ suc (n / 2)
half_of_two_more n = omega arith

-- a fold over a list's numbers in pairs is that over its points
pub fold_pairs : {A : Type 0} (f : A → Pt2 → A) (a : A) (s : List Float) → fold (λ b v. f b (point_at v 0)) a (first_chunks 2 (length s / 2) s) ≡ fold_points f a s
unfolding fold_points
fold_pairs f a [] = refl
fold_pairs f a (x ∷ []) = refl
fold_pairs f a (x ∷ y ∷ s) = rw (half_of_two_more (length s)) (fold_pairs f (f a (record { x = x; y = y })) s)

-- so is the fold of an iterator over the pairs
pub fold_by_pairs : {A F : Type 0} {s : Iter (List Float)} (g : Mut F (A × (Bor (List Float) × Unit {0})) A) (h : A → Pt2 → A) {f : F} (a r : A) (xy : List Float)
    → iter_rest s ≡ first_chunks 2 (length xy / 2) xy
    → ((xs : List (Bor (List Float))) × (q : F) × Drains fronts s xs × FoldsTo {P = F × A} (λ a x b. Called g a.0 (a.1, (x, tt)) b.1 b.0) (f, a) xs (q, r))
    → ((a : A) (x : Bor (List Float)) (b : A) (q : F) → Called g f (a, (x, tt)) b q → (q ≡ f) × (b ≡ h a (point_of x))) → r ≡ fold_points h a xy
fold_by_pairs g h a r xy e d k = fold_from_yields_List g (λ b v. h b (point_at v 0)) a r d (YieldsList-from_slice (first_chunks 2 (length xy / 2) xy) e) k ∙ fold_pairs h a xy

-- the pair at an index
pub pair_at : (s : List Float) (i : ℕ) → i < length s / 2 → get_or (first_chunks 2 (length s / 2) s) i [] ≡ get_or s (2 * i) nan ∷ get_or s (2 * i + 1) nan ∷ []
pair_at [] i h = absurd (omega (arith, h))
pair_at (x ∷ []) i h = absurd (omega (arith, h))
pair_at (x ∷ y ∷ s) zero h = rw (half_of_two_more (length s)) refl
pair_at (x ∷ y ∷ s) (suc i) h =
    let a : 2 * suc i ≡ suc (suc (2 * i)) = omega arith in
    let b : suc (suc (2 * i)) + 1 ≡ suc (suc (2 * i + 1)) = omega arith in
    rw (half_of_two_more (length s), a, b) (pair_at s i (omega (arith, h)))

-- ---- the pairs: they are the points, and as many as those
abbrev pub pairs_of : List Float → List (List Float)
pairs_of s = first_chunks 2 (length s / 2) s

pub pairs_are_points : (s : List Float) → map (λ v. point_at v 0) (pairs_of s) ≡ points_of s
pairs_are_points [] = refl
pairs_are_points (x ∷ []) = refl
pairs_are_points (x ∷ y ∷ s) = rw (half_of_two_more (length s)) (ap (λ (l : List Pt2). record { x = x; y = y } ∷ l) (pairs_are_points s))

pub pairs_any : (test : Pt2 → Bool) (s : List Float) → list_any (λ v. test (point_at v 0)) (pairs_of s) ≡ list_any test (points_of s)
pairs_any test [] = refl
pairs_any test (x ∷ []) = refl
pairs_any test (x ∷ y ∷ s) = rw (half_of_two_more (length s)) (ap (λ (b : Bool). test (record { x = x; y = y }) || b) (pairs_any test s))

pub pairs_count : (s : List Float) → length (pairs_of s) ≡ length s / 2
pairs_count [] = refl
pairs_count (x ∷ []) = refl
pairs_count (x ∷ y ∷ s) = rw (half_of_two_more (length s)) (ap suc (pairs_count s))

-- the first of the pairs that are left at i, and those after it
pub pair_left : (s : List Float) (i : ℕ) (v : List Float) (t : List (List Float)) → drop i (pairs_of s) ≡ v ∷ t
    → (i < length s / 2) × (v ≡ get_or s (2 * i) nan ∷ get_or s (2 * i + 1) nan ∷ []) × (drop (i + 1) (pairs_of s) ≡ t)
pair_left s i v t e =
    let all = pairs_of s in
    let n : i < length s / 2 = omega (arith, ap length e, length-drop i all, pairs_count s) in
    let f : v ∷ t ≡ get_or all i [] ∷ drop (suc i) all = sym e ∙ drop-cons all i [] (omega (arith, n, pairs_count s)) in
    (n, ap (λ (l : List (List Float)). get_or l 0 []) f ∙ pair_at s i n, rw (add-one i) (sym (ap (drop 1) f)))

-- ---- a search among them is `find_point`
pub find_is_find_point : (test : Pt2 → Bool) (s : List Float) → find test (points_of s) ≡ find_point test Some None s
unfolding find_point
find_is_find_point test [] = refl
find_is_find_point test (x ∷ []) = refl
find_is_find_point test (x ∷ y ∷ s) = ap (cond (test (record { x = x; y = y })) (Some (record { x = x; y = y }))) (find_is_find_point test s)

pub any_is_find_point : (test : Pt2 → Bool) (s : List Float) → list_any test (points_of s) ≡ find_point test (λ p. true) false s
unfolding find_point
any_is_find_point test [] = refl
any_is_find_point test (x ∷ []) = refl
any_is_find_point test (x ∷ y ∷ s) = by_first (test (record { x = x; y = y })) (any_is_find_point test s)
  where
    by_first : (b : Bool) {c d : Bool} → c ≡ d → (b || c) ≡ cond b true d
    by_first true h = refl
    by_first false h = h
