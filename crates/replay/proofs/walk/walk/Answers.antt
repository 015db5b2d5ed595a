-- `replay::walk::walk` meets its contract. Assumes nothing.
use Rattle.std.proofs.Common.{refl, sym, ◌∙◌, arith}
use Rattle.replay.specs.declared.WalkEnd.TheVariants.{AllTaken, NotALine, NotTheRun}
use Rattle.replay.specs.WalkLaws.{walk_starts, walk_ends, walk_refused, walk_stops, walk_turn_is_walk, line_within, list_stays_if_line_not_taken, stopped_walk_is_walked}
use Rattle.replay.proofs.walk.walk.Goals as goal

pub loop-line-init : goal.loop-line-init
loop-line-init c = (walk_starts _ _ _, (omega arith, (omega arith, (refl, omega arith))))

pub loop-line-smaller : goal.loop-line-smaller
loop-line-smaller c =
    let l = c.loop-line in
    let w = line_within l.run l.list l.lines 0 _ l.at _ _ (sym c.read_line.ensures ∙ c.in-Got.is) in
    omega (arith, w.0, w.1)

pub loop-line-preserved : goal.loop-line-preserved
loop-line-preserved c =
    let l = c.loop-line in
    let h = sym c.read_line.ensures ∙ c.in-Got.is in
    let w = line_within l.run l.list l.lines 0 _ l.at _ _ h in
    let ok = sym c.take_line.ensures.value ∙ c.in-Some.is in
    (walk_turn_is_walk l.run _ l.list _ l.lines _ l.at _ _ h ok c.take_line.ensures.list_after (omega (arith, l.invariant.1.0, w.0, w.1)) ∙ l.invariant.0, (omega (arith, l.invariant.1.0, w.0), (w.1, (c.take_line.auto.list ∙ l.invariant.1.1.1.0, l.invariant.1.1.1.1))))

pub returns-in_default : goal.returns-in_default
returns-in_default c =
    let l = c.loop-line in
    let out = sym c.take_line.ensures.value ∙ c.in_default.is in
    let g = stopped_walk_is_walked _ l.run l.list l.lines l.at NotTheRun (sym l.invariant.0 ∙ walk_stops l.run l.list l.lines _ _ l.at _ _ (sym c.read_line.ensures ∙ c.in-Got.is) out) in
    record { walked = g.0; written = c.take_line.ensures.list_after ∙ list_stays_if_line_not_taken l.run l.list _ out ∙ g.1; within = (l.invariant.1.0, l.invariant.1.1.0) }

pub returns-in-NotALine : goal.returns-in-NotALine
returns-in-NotALine c =
    let l = c.loop-line in
    let g = stopped_walk_is_walked _ l.run l.list l.lines l.at NotALine (sym l.invariant.0 ∙ walk_refused l.run l.list l.lines _ _ l.at _ (sym c.read_line.ensures ∙ c.in-NotALine.is)) in
    record { walked = g.0; written = g.1; within = (l.invariant.1.0, l.invariant.1.1.0) }

pub returns-in-End : goal.returns-in-End
returns-in-End c =
    let l = c.loop-line in
    let g = stopped_walk_is_walked _ l.run l.list l.lines l.at AllTaken (sym l.invariant.0 ∙ walk_ends l.run l.list l.lines _ _ l.at (sym c.read_line.ensures ∙ c.in-End.is)) in
    record { walked = g.0; written = g.1; within = (l.invariant.1.0, l.invariant.1.1.0) }
