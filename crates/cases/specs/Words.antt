-- Numbers, cameras and findings that the worked runs are made of. Definitions only.
use Rattle.std.specs.Prelude.{ℕ, List, [], ◌∷◌, ◌++◌, Float, Result, Ok, Err}
use Rattle.common.specs.declared.Refusal.{Refusal}
use Rattle.camera.specs.declared.math.Pt2.{Pt2}
use Rattle.camera.specs.declared.intrinsics.FxFyCxCy.{FxFyCxCy}
use Rattle.score.specs.declared.outcome.Finding.{Finding}
use Rattle.score.specs.declared.outcome.Finding.TheVariants.{Failed, Solved}
use Rattle.search.specs.declared.run.Run.{Run}
use Rattle.book.specs.Calls.{Call, next, answer, Reply, refused}
use Rattle.book.specs.Book.{Inputs}
use Rattle.book.specs.Walk.{walk}
use Rattle.book.specs.Theorem.{start_of, started_list}
use Rattle.cases.specs.Numbers.{bits}

-- 0, 1, 50, 100
abbrev pub f0 : Float
f0 = bits 0

abbrev pub f1 : Float
f1 = bits 0x3ff0_0000_0000_0000

abbrev pub f50 : Float
f50 = bits 0x4049_0000_0000_0000

abbrev pub f100 : Float
f100 = bits 0x4059_0000_0000_0000

abbrev pub pinhole : FxFyCxCy
pinhole = record { fx = f100; fy = f100; cx = f50; cy = f50 }

abbrev pub centre : Pt2
centre = record { x = f50; y = f50 }

-- a finding with the focal length fx and the tangential coefficient p1
abbrev pub solved_with : Float → Float → Finding
solved_with fx p1 = Solved (record { k = record { fx = fx; fy = f100; cx = f50; cy = f50 }; dist = record { k1 = f1; k2 = f0; k3 = f0; p1 = p1; p2 = f0 } })

-- a row whose point is projected to (50, 50) at every tilt, and was seen at (u, 50)
abbrev pub seen_at : Float → List Float
seen_at u = f0 ∷ f0 ∷ u ∷ f50 ∷ []

abbrev pub in_front : List ℕ
in_front = 1 ∷ []

-- Next, and then an answer
abbrev pub turn : ℕ → Finding → List Float → List ℕ → List Call
turn n f rows flags = next n ∷ answer n f rows flags ∷ []

abbrev pub failed : ℕ → List Call
failed n = turn n Failed [] []

-- ---- the walk from Start on, over a list of sixty numbers, six more than these runs demand
abbrev ten : List Float
ten = f1 ∷ f1 ∷ f1 ∷ f1 ∷ f1 ∷ f1 ∷ f1 ∷ f1 ∷ f1 ∷ f1 ∷ []

abbrev pub sixty : List Float
sixty = ten ++ ten ++ ten ++ ten ++ ten ++ ten

abbrev pub walk_of : Result Run Refusal → List Float → List Call → List Reply
walk_of (Ok r) l cs = walk r l cs
walk_of (Err refusal) l cs = refused refusal ∷ []

abbrev pub walk_from : Inputs → List Call → List Reply
walk_from i cs = walk_of (start_of i sixty) (started_list i sixty) cs
