-- Functions over a list of points: one point further, at the end, and how many numbers they give; and numbers that are
-- written one after the other. Assumes nothing.
use Rattle.std.specs.Prelude.{◌≡◌, ℕ, suc, ◌+◌, ◌*◌, ◌/◌, ◌≤◌, ◌<◌, get_or, drop, set, Float}
use Rattle.std.proofs.Math.Path.{refl, sym}
use Rattle.std.proofs.Common.{ap, ◌∙◌, add-zero, zero-add, zero-mul, add_comm, suc-mul, add-one, length-drop, drop-cons}
use mathlib.Core.List.{List, [], ◌∷◌, ◌++◌}
use native.Mathlib.Omega.{arith}
use Rattle.std.proofs.Math.ListN.{length, length-append}
use Rattle.std.proofs.lemmas.List.Edits.{sets, sets-eq}
use Rattle.std.specs.Float.{nan}
use Rattle.camera.specs.declared.math.Pt2.{Pt2}
use Rattle.points.specs.Points.{each_point, mapped_xy, map_points, each_pair}
use Rattle.camera.specs.Math.{point_at}

-- ---- the rest of a list from i on, where a point stands there, and where none does
point_left : (s : List Float) (i : ℕ) → i + 1 < length s → drop i s ≡ get_or s i nan ∷ get_or s (i + 1) nan ∷ drop (i + 2) s
point_left s i h =
    let a : i < length s = omega arith in
    let b : suc (i + 1) ≡ i + 2 = omega arith in
    rw (drop-cons s i nan a, ← add-one i, drop-cons s (i + 1) nan h, b)

none_left : (s : List Float) (i : ℕ) → length s ≤ i + 1 → length (drop i s) ≤ 1
none_left s i h = rw (length-drop i s) (omega arith)

-- a property of lists of no number and of one number holds of every list of at most one
property_of_at_most_one : (P : List Float → Type 0) → P [] → ((x : Float) → P (x ∷ [])) → (s : List Float) → length s ≤ 1 → P s
property_of_at_most_one P none one [] h = none
property_of_at_most_one P none one (x ∷ []) h = one x
property_of_at_most_one P none one (x ∷ y ∷ s) h = absurd (omega arith)

-- ---- each_point
numbers_of_one_more_point : (n k : ℕ) → k + n / 2 * k ≡ suc (suc n) / 2 * k
numbers_of_one_more_point n k = let h : suc (suc n) / 2 ≡ suc (n / 2) = omega arith in rw h (sym (suc-mul (n / 2) k ∙ add_comm (n / 2 * k) k))

module _ (f : Pt2 → List Float) where
  -- one point further
  pub each_next : (s : List Float) (i : ℕ) → i + 1 < length s → each_point f (drop i s) ≡ f (point_at s i) ++ each_point f (drop (i + 2) s)
  unfolding each_point
  each_next s i h = rw (point_left s i h)

  pub each_none : (s : List Float) → length s ≤ 1 → each_point f s ≡ []
  unfolding each_point
  each_none = property_of_at_most_one (λ s. each_point f s ≡ []) refl (λ x. refl)

  pub each_end : (s : List Float) (i : ℕ) → length s ≤ i + 1 → each_point f (drop i s) ≡ []
  each_end s i h = each_none (drop i s) (none_left s i h)

  -- k numbers for each point
  pub each_length : (k : ℕ) → ((p : Pt2) → length (f p) ≡ k) → (s : List Float) → length (each_point f s) ≡ length s / 2 * k
  unfolding each_point
  each_length k e [] = sym (zero-mul k)
  each_length k e (x ∷ []) = sym (zero-mul k)
  each_length k e (x ∷ y ∷ s) =
      let q : Pt2 = record { x = x; y = y } in
      length-append (f q) (each_point f s) ∙ rw (e q, each_length k e s) (numbers_of_one_more_point (length s) k)

-- two numbers for each point
pub mapped_length : (f : Pt2 → Pt2) (s : List Float) → length (map_points f s) ≡ length s / 2 * 2
mapped_length f s = each_length (mapped_xy f) 2 (λ p. refl) s

-- ---- each_pair
module _ (f : Pt2 → Pt2 → List Float) where
  -- one pair further
  pub pair_next : (s d : List Float) (i : ℕ) → i + 1 < length s → i + 1 < length d → each_pair f (drop i s) (drop i d) ≡ f (point_at s i) (point_at d i) ++ each_pair f (drop (i + 2) s) (drop (i + 2) d)
  unfolding each_pair
  pair_next s d i h k = rw (point_left s i h, point_left d i k)

  pub no_pair : (s d : List Float) → length s ≤ 1 → each_pair f s d ≡ []
  unfolding each_pair
  no_pair s d = property_of_at_most_one (λ l. each_pair f l d ≡ []) refl (λ x. refl) s

  -- k numbers for each pair
  pub pair_length : (k : ℕ) → ((p q : Pt2) → length (f p q) ≡ k) → (s d : List Float) → length d ≡ length s → length (each_pair f s d) ≡ length s / 2 * k
  unfolding each_pair
  pair_length k e [] d h = sym (zero-mul k)
  pair_length k e (x ∷ []) d h = sym (zero-mul k)
  pair_length k e (x ∷ y ∷ s) [] h = absurd (omega arith)
  pair_length k e (x ∷ y ∷ s) (u ∷ []) h = absurd (omega arith)
  pair_length k e (x ∷ y ∷ s) (u ∷ v ∷ d) h =
      let p : Pt2 = record { x = x; y = y } in
      let q : Pt2 = record { x = u; y = v } in
      let n : length d ≡ length s = omega arith in
      length-append (f p q) (each_pair f s d) ∙ rw (e p q, pair_length k e s d n) (numbers_of_one_more_point (length s) k)

-- ---- numbers written one after the other
pub sets_two : (d : List Float) (i : ℕ) (a b : Float) (w : List Float) → sets (set (set d i a) (i + 1) b) (i + 2) w ≡ sets d i (a ∷ b ∷ w)
sets_two d i a b w = let e : i + 2 ≡ suc (suc i) = omega arith in rw (add-one i, e)

pub sets_append : (d : List Float) (i : ℕ) (v w : List Float) → sets d i (v ++ w) ≡ sets (sets d i v) (i + length v) w
sets_append d i [] w = rw add-zero
sets_append d i (a ∷ v) w = sets_append (set d i a) (suc i) v w ∙ ap (λ (k : ℕ). sets (sets (set d i a) (suc i) v) k w) (let e : suc i + length v ≡ i + suc (length v) = omega arith in e)

-- numbers written at the front, where there is room for them, leave the rest as it was
pub sets_front : (d w : List Float) → length w ≤ length d → sets d 0 w ≡ w ++ drop (length w) d
sets_front d w h = let l : 0 + length w ≤ length d = omega arith in sets-eq w d 0 l ∙ rw zero-add
