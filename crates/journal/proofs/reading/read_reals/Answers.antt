-- `journal::reading::read_reals` meets its contract: the first i are read, and the rest, from here, is the whole. Assumes nothing.
use Rattle.journal.specs.Reading.{real_at}
use Rattle.std.proofs.Common.{ap, ◌∙◌, length, rules}
use native.Mathlib.Nat.{sub-zero}
use Rattle.journal.proofs.Bytes.{reals_one_more_read, reals_all_read}
use Rattle.journal.proofs.reading.read_reals.Goals as goal

pub loop-x-init : goal.loop-x-init
loop-x-init c = simp sub-zero

pub loop-x-preserved : goal.loop-x-preserved
loop-x-preserved c =
    let l = c.loop-x in
    let e = c.real_at.ensures ∙ ap real_at c.after.ensures in
    rw c.after-rest.ensures (reals_one_more_read l.into _ l.rest.now l.x-index (length c.args.into.now) c.real_at.result (search rules) l.auto.into e l.invariant)

pub returns : goal.returns
returns c = let l = c.loop-x in reals_all_read l.into _ _ 0 l.x-index (length c.args.into.now) (search rules) l.auto.into l.invariant
