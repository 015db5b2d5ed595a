-- `replay::walk::take_line` meets its contract: a seed that Next hands out waits. Assumes nothing.
use Rattle.std.proofs.Common.{true, rules}
use Rattle.replay.specs.WalkLaws.{line_enterable}
use Rattle.replay.proofs.walk.take_line.Goals as goal

pub enter-requires : goal.enter-requires
enter-requires c =
    let h = line_enterable c.args.run c.args.list.now c.args.line _ true _ c.next-next.ensures (search rules) c.answers_waiting.ensures c.if-not-answers_waiting.false in
    record { run_value = h.is_sound; is_waiting_value = h.waits; demand_in_bounds = h.demand_fits }
