-- `search::answer::close_round`: the loop's invariant: closing the round from here is closing it from the start.
use Rattle.std.proofs.Common.{◌≡◌, ◌-◌, ◌≤◌, length}
use Rattle.search.specs.Answer.{close_round}
use Rattle.search.proofs.answer.close_round.Given as goal

abbrev pub invariant-loop-run : goal.invariant-loop-run
invariant-loop-run l =
    (close_round (l.run.options.refine_rounds - l.run.place.round) l.run l.list ≡ close_round (l.initial.run.options.refine_rounds - l.initial.run.place.round) l.initial.run l.initial.list)
    × ((l.run.options.refine_rounds ≤ 16)
    × ((54 ≤ length l.list)
    × (length l.list ≡ length l.initial.list)))

abbrev pub decreases-loop-run : goal.decreases-loop-run
decreases-loop-run l = l.run.options.refine_rounds - l.run.place.round
