-- What holds of each point of a list, and so of what a search finds. Assumes nothing.
use Rattle.std.specs.Prelude.{◌≡◌, Bool, true, Float}
use mathlib.Core.List.{List, [], ◌∷◌}
use Rattle.common.specs.Tests.{case}
use Rattle.camera.specs.declared.math.Pt2.{Pt2}
use Rattle.points.specs.Points.{find_point}

abbrev pub AllPoints : (Pt2 → Type 0) → List Float → Type 0
AllPoints P [] = Unit {0}
AllPoints P (x ∷ []) = Unit {0}
AllPoints P (x ∷ y ∷ s) = P (record { x = x; y = y }) × AllPoints P s

-- a search ends with `none`, or with what a point that passes the test gives
module _ {A : Type 0} (P : Pt2 → Type 0) (test : Pt2 → Bool) (found : Pt2 → A) (none : A) (Q : A → Type 0) (n : Q none) (q : (p : Pt2) → P p → test p ≡ true → Q (found p)) where
  pub find_holds : (s : List Float) → AllPoints P s → Q (find_point test found none s)
  unfolding find_point
  find_holds [] h = n
  find_holds (x ∷ []) h = n
  find_holds (x ∷ y ∷ s) h = let p : Pt2 = record { x = x; y = y } in case (test p) (λ t. rw t (q p h.0 t)) (λ t. rw t (find_holds s h.1))
