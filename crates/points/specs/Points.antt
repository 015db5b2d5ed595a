-- A list of numbers as points, x then y. A number that is left over at the end belongs to no point. Definitions only.
use Rattle.std.specs.Prelude.{ℕ, ◌/◌, ◌%◌, Bool, not, ◌||◌, cond, List, [], ◌∷◌, ◌++◌, eqb, ltb, pos, length, Float}
use Rattle.std.specs.Float.{binary64}
use Rattle.std.specs.Float.Ieee.{of_int}
use Rattle.common.specs.declared.Refusal.TheVariants.{BadPoints, DestinationTooShort}
use Rattle.common.specs.Checks.{Check, ◌when◌}
use Rattle.camera.specs.declared.math.Pt2.{Pt2}

-- the points
abbrev pub points_of : List Float → List Pt2
points_of [] = []
points_of (x ∷ []) = []
points_of (x ∷ y ∷ s) = record { x = x; y = y } ∷ points_of s

-- from a start, one point after the other
unfoldable pub fold_points : {A : Type 0} → (A → Pt2 → A) → A → List Float → A
fold_points f a [] = a
fold_points f a (x ∷ []) = a
fold_points f a (x ∷ y ∷ s) = fold_points f (f a (record { x = x; y = y })) s

-- what `found` gives for the first point that passes the test, or `none` where no point does
unfoldable pub find_point : {A : Type 0} → (Pt2 → Bool) → (Pt2 → A) → A → List Float → A
find_point test found none [] = none
find_point test found none (x ∷ []) = none
find_point test found none (x ∷ y ∷ s) = let p : Pt2 = record { x = x; y = y } in cond (test p) (found p) (find_point test found none s)

-- the numbers that each point gives, one point after the other
unfoldable pub each_point : (Pt2 → List Float) → List Float → List Float
each_point f [] = []
each_point f (x ∷ []) = []
each_point f (x ∷ y ∷ s) = f (record { x = x; y = y }) ++ each_point f s

-- each point as f gives it, x then y
abbrev pub mapped_xy : (Pt2 → Pt2) → Pt2 → List Float
mapped_xy f p = (f p).x ∷ (f p).y ∷ []

abbrev pub map_points : (Pt2 → Pt2) → List Float → List Float
map_points f points = each_point (mapped_xy f) points

-- the numbers that each pair of points of two lists gives, as long as both have a point
unfoldable pub each_pair : (Pt2 → Pt2 → List Float) → List Float → List Float → List Float
each_pair f [] d = []
each_pair f (x ∷ []) d = []
each_pair f (x ∷ y ∷ s) [] = []
each_pair f (x ∷ y ∷ s) (u ∷ []) = []
each_pair f (x ∷ y ∷ s) (u ∷ v ∷ d) = f (record { x = x; y = y }) (record { x = u; y = v }) ++ each_pair f s d

-- how many points, as a float
abbrev pub count_of : List Float → Float
count_of s = of_int binary64 (pos (length s / 2))

-- an odd length, or more than 400 points
abbrev pub bad_points : ℕ → Bool
bad_points n = not (eqb (n % 2) 0) || ltb 800 n

-- refused first: such a length; then: room for fewer numbers
abbrev pub length_checks : ℕ → ℕ → List Check
length_checks numbers room =
    (BadPoints when bad_points numbers)
    ∷ (DestinationTooShort when ltb room numbers)
    ∷ []
