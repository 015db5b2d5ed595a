-- `seeds::grids::push_row`: the loop's invariant: the first of the y tilts have been offered.
use Rattle.std.proofs.Common.{◌≡◌, map, ◌+◌, ◌≤◌, length, take}
use Rattle.std.specs.Prelude.{Float}
use Rattle.seeds.specs.Layout.{read_from, Leaves}
use Rattle.seeds.specs.Merge.{merged_into}
use Rattle.seeds.specs.Rules.{tilts, items_within}
use Rattle.seeds.proofs.grids.push_row.Given as goal

abbrev pub invariant-loop-number : goal.invariant-loop-number
invariant-loop-number g l =
    let e = g.E.Item in
    let j = l.number-index in
    (j ≤ length l.y_numbers)
    × (l.list.numbers.ghost_name ≡ l.initial.list.numbers.ghost_name)
    × (l.list.count ≤ l.initial.list.count + j)
    × (length l.list.numbers.now ≡ length l.initial.list.numbers.now)
    × ((f : Float → Float) → ((n t : Float) → goal.Y-post g l.along_y n t → t ≡ f n)
    → Leaves e.numbers e.width (merged_into e.near (read_from e.first e.width l.initial.list.count l.initial.list.numbers.now) (items_within (e.tilted l.beside) l.max_abs_tilt (map (tilts l.tilt_x) (map f (take j l.y_numbers))))) l.initial.list.numbers.now l.list.numbers.now l.list.count)
