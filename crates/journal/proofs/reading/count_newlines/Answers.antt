-- `journal::reading::count_newlines` meets its contract: those counted and those left are all. Assumes nothing.
use Rattle.std.proofs.Common.{arith}
use Rattle.journal.proofs.Bytes.{newlines_from_newline, newlines_from_other, no_newlines_behind_end}
use Rattle.journal.proofs.reading.count_newlines.Goals as goal

pub loop-c-preserved : goal.loop-c-preserved
loop-c-preserved c = grind (arith, newlines_from_newline, newlines_from_other)

pub returns : goal.returns
returns c =
    let none = no_newlines_behind_end c.args.s.now c.loop-c.c-index c.loop-c-test.false in
    (omega (arith, c.loop-c.invariant.1, none), omega (arith, c.loop-c.invariant.0, c.loop-c.auto.c-index-end))
