-- `search::answer::enter` meets its contract: the round goes on, or its end is closed. Assumes nothing.
use Rattle.std.proofs.Common.{sym, ap, ◌∙◌, lt_of_lt_of_le, le_trans}
use Rattle.search.specs.Answer.{Left}
use Rattle.search.specs.Laws.{bounds_of_sound, waiting_run_at_lt_len}
use Rattle.search.specs.AnswerLaws.{enter_goes_on, enter_closes, entered_keeps_options_and_round}
use Rattle.search.proofs.answer.enter.Goals as goal

pub entered-run-requires : goal.entered-run-requires
entered-run-requires c =
    let b = bounds_of_sound _ c.requires.run_value in
    record { at_bound = (lt_of_lt_of_le (waiting_run_at_lt_len _ b c.requires.is_waiting_value) b.len_max, b.number_max); counts_bound = rw b.counts_sum b.number_max }

pub close_round-run-requires : goal.close_round-run-requires
close_round-run-requires c =
    let b = bounds_of_sound _ c.requires.run_value in
    let k = entered_keeps_options_and_round _ _ _ c.entered-run.ensures in
    record { round_bound = (rw (k.0, k.1) b.round_max, rw k.0 b.rounds_max); in_bounds = le_trans b.demand_min c.requires.demand_in_bounds }

pub returns-then-run : goal.returns-then-run
returns-then-run c =
    let e = enter_closes _ _ _ _ c.entered-run.ensures c.if-run.true in
    record { value = c.close_round-run.ensures.value ∙ sym (ap (λ (x : Left). x.run) e); list_after = c.close_round-run.ensures.list_after ∙ sym (ap (λ (x : Left). x.list) e) }

pub returns-else-run : goal.returns-else-run
returns-else-run c =
    let e = enter_goes_on _ _ _ _ c.entered-run.ensures c.if-run.false in
    record { value = sym (ap (λ (x : Left). x.run) e); list_after = sym (ap (λ (x : Left). x.list) e) }
