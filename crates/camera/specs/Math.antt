-- Points of the plane: their difference and their distance, each operation rounded, and the point that stands in a list of numbers. Definitions only.
use Rattle.float.specs.Binary64.{◌-₆₄◌, ◌+₆₄◌, ◌*₆₄◌}
use Rattle.camera.specs.declared.math.Pt2.{Pt2}
use Rattle.std.specs.Prelude.{ℕ, ◌+◌, List, get_or, Float}
use Rattle.std.specs.Float.{nan, binary64}
use Rattle.root.specs.Root.{root}

abbrev pub minus_point : Pt2 → Pt2 → Pt2
minus_point p q = record { x = p.x -₆₄ q.x; y = p.y -₆₄ q.y }

-- the point whose x stands at i
abbrev pub point_at : List Float → ℕ → Pt2
point_at s i = record { x = get_or s i nan; y = get_or s (i + 1) nan }

-- dx × dx + dy × dy, and its root
abbrev pub squared_distance : Pt2 → Pt2 → Float
squared_distance p q =
    let dx = p.x -₆₄ q.x in
    let dy = p.y -₆₄ q.y in
    dx *₆₄ dx +₆₄ dy *₆₄ dy

abbrev pub distance_of : Pt2 → Pt2 → Float
distance_of p q = root binary64 (squared_distance p q)
