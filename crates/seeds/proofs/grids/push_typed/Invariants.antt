-- `seeds::grids::push_typed`: the loop's invariant: the first i typed tilts have been offered.
use Rattle.std.proofs.Common.{◌≡◌, map, ◌+◌, ◌≤◌, take}
use Rattle.seeds.specs.Layout.{six, seeds_of, tilts_of}
use Rattle.seeds.specs.Rules.{near, seed_with}
use Rattle.seeds.proofs.Steps.{MergeUnderWay}
use Rattle.seeds.proofs.grids.push_typed.Given as goal

abbrev pub invariant-loop-i : goal.invariant-loop-i
invariant-loop-i l =
    (l.i ≤ l.number)
    × (l.list.numbers.ghost_name ≡ l.initial.list.numbers.ghost_name)
    × MergeUnderWay six 6 near (seeds_of l.initial.list.count l.initial.list.numbers.now) (map (seed_with l.base_k) (take l.i (tilts_of l.number l.grid))) l.initial.list.numbers.now l.list.numbers.now l.list.count (l.initial.list.count + l.i)
