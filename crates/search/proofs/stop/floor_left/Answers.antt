-- `search::stop::floor_left` meets its contract: the waiting seed first, or the list's seeds alone. Assumes nothing.
use Rattle.std.proofs.Common.{◌+◌, ◌≡◌, ◌∙◌, true, false, List, Float}
use borrow.Author.Tests.{not-true, not-false}
use Rattle.float.specs.Float.{min_of}
use Rattle.score.specs.Floor.{counted_penalty, floor_of, seeds_between}
use Rattle.search.specs.declared.run.Run.{Run}
use Rattle.search.specs.Stop.{left_seeds}
use Rattle.search.proofs.stop.floor_left.Goals as goal

floor_of_left_if_none_waits : (r : Run) (l : List Float) → r.waiting.is_waiting ≡ false → floor_of (seeds_between l r.place.at r.place.len) ≡ floor_of (left_seeds r l)
unfolding left_seeds
floor_of_left_if_none_waits r l h = rw h

floor_of_left_if_one_waits : (r : Run) (l : List Float) → r.waiting.is_waiting ≡ true
    → min_of (counted_penalty r.waiting.seed.sensor) (floor_of (seeds_between l (r.place.at + 1) r.place.len)) ≡ floor_of (left_seeds r l)
unfolding left_seeds floor_of
floor_of_left_if_one_waits r l h = rw h

pub returns-then-not-run : goal.returns-then-not-run
returns-then-not-run c =
    let a = c.args in
    c.floor_between.ensures ∙ floor_of_left_if_none_waits a.run a.list.now (not-true _ c.if-not-run.true)

pub returns : goal.returns
returns c =
    let a = c.args in
    c.min.ensures ∙ rw (c.counted_penalty.ensures, c.floor_between-others.ensures) (floor_of_left_if_one_waits a.run a.list.now (not-false _ c.if-not-run.false))
