-- `capi_records::run::copy_part` meets its contract. Assumes nothing.
use Rattle.std.proofs.Common.{◌≡◌, ◌∙◌, arith, length, le-leb}
use lib.Seq.{sets, drop-length}
use Rattle.points.specs.Walk.{sets_front}
use Rattle.capi_records.proofs.run.copy_part.Goals as goal

pub returns-clause-copy : goal.returns-clause-copy
returns-clause-copy c =
    let part = c.args.part.now in
    let to = c.args.to.now in
    let e : c.loop-i.i ≡ length part = omega (arith, c.loop-i.auto.i-end, c.loop-i-test.false) in
    let whole : c.loop-i.to ≡ sets to 0 part = rw (e, drop-length) at c.loop-i.invariant in
    simp (le-leb (length part) (length to) c.if-to-count.false) (whole ∙ sets_front to part c.if-to-count.false)
