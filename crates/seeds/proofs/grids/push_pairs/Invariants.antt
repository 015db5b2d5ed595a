-- `seeds::grids::push_pairs`: the loop's invariant: the first of the x tilts have been offered with every y tilt.
use Rattle.std.proofs.Common.{◌≡◌, map, ◌*◌, ◌≤◌, length, take}
use Rattle.std.specs.Prelude.{Float}
use Rattle.seeds.specs.Layout.{Leaves}
use Rattle.seeds.specs.Merge.{merged}
use Rattle.seeds.specs.Rules.{pairs, items_within}
use Rattle.seeds.proofs.grids.push_pairs.Given as goal

abbrev pub invariant-loop-number : goal.invariant-loop-number
invariant-loop-number g l =
    let e = g.E.Item in
    let i = l.number-index in
    (i ≤ length l.x_numbers)
    × (l.list.numbers.ghost_name ≡ l.initial.list.numbers.ghost_name)
    × (l.list.count ≤ i * length l.y_numbers)
    × (length l.list.numbers.now ≡ length l.initial.list.numbers.now)
    × ((f h : Float → Float) → ((n t : Float) → goal.X-post g l.along_x n t → t ≡ f n) → ((n t : Float) → goal.Y-post g l.along_y n t → t ≡ h n)
    → Leaves e.numbers e.width (merged e.near (items_within (e.tilted l.beside) l.max_abs_tilt (pairs (map f (take i l.x_numbers)) (map h l.y_numbers)))) l.initial.list.numbers.now l.list.numbers.now l.list.count)
