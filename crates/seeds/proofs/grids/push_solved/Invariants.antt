-- `seeds::grids::push_solved`: the loop's invariant: the first i seeds have been offered.
use Rattle.std.proofs.Common.{◌≡◌, ◌+◌, ◌/◌, ◌≤◌, length, take}
use Rattle.seeds.specs.Layout.{six, seeds_of, all_seeds}
use Rattle.seeds.specs.Rules.{near}
use Rattle.seeds.proofs.Steps.{MergeUnderWay}
use Rattle.seeds.proofs.grids.push_solved.Given as goal

abbrev pub invariant-loop-i : goal.invariant-loop-i
invariant-loop-i l =
    (l.i ≤ length l.decomposition / 6)
    × (l.list.numbers.ghost_name ≡ l.initial.list.numbers.ghost_name)
    × MergeUnderWay six 6 near (seeds_of l.initial.list.count l.initial.list.numbers.now) (take l.i (all_seeds l.decomposition)) l.initial.list.numbers.now l.list.numbers.now l.list.count (l.initial.list.count + l.i)
