-- The run's record with its flags as bytes, and the ways there and back: any byte but 0 is read as true, and true is
-- written as 1. Definitions only.
use Rattle.std.specs.Prelude.{ℕ, Bool, not, cond, eqb}
use Rattle.float.specs.Literals.{plus_zero}
use Rattle.score.specs.declared.best.Best.{Best}
use Rattle.score.specs.Best.{no_best}
use Rattle.journal.specs.Counts.{no_counts}
use Rattle.search.specs.Record.{no_waiting_seed}
use Rattle.search.specs.declared.run.LastAnswer.{LastAnswer}
use Rattle.search.specs.declared.run.Options.{Options}
use Rattle.search.specs.declared.run.Place.{Place}
use Rattle.search.specs.declared.run.Waiting.{Waiting}
use Rattle.search.specs.declared.run.Run.{Run}
use Rattle.capi_records.specs.declared.record.OptionsRecord.{OptionsRecord}
use Rattle.capi_records.specs.declared.record.PlaceRecord.{PlaceRecord}
use Rattle.capi_records.specs.declared.record.WaitingRecord.{WaitingRecord}
use Rattle.capi_records.specs.declared.record.BestRecord.{BestRecord}
use Rattle.capi_records.specs.declared.record.LastRecord.{LastRecord}
use Rattle.capi_records.specs.declared.record.RunRecord.{RunRecord}
use Rattle.capi_records.specs.Journal.{fields_in, no_line}

abbrev pub flag_of : Bool → ℕ
flag_of b = cond b 1 0

abbrev pub is_set : ℕ → Bool
is_set n = not (eqb n 0)

abbrev pub options_from : OptionsRecord → Options
options_from o = record { refine_rounds = o.refine_rounds; refine_step = o.refine_step; max_abs_tilt = o.max_abs_tilt; one_axis = is_set o.one_axis; min_counted = o.min_counted }

abbrev pub flat_options : Options → OptionsRecord
flat_options o = record { refine_rounds = o.refine_rounds; refine_step = o.refine_step; max_abs_tilt = o.max_abs_tilt; one_axis = flag_of o.one_axis; min_counted = o.min_counted }

abbrev pub place_from : PlaceRecord → Place
place_from p = record { demand = p.demand; round = p.round; step = p.step; len = p.len; at = p.at; number = p.number; over = is_set p.over }

abbrev pub flat_place : Place → PlaceRecord
flat_place p = record { demand = p.demand; round = p.round; step = p.step; len = p.len; at = p.at; number = p.number; over = flag_of p.over }

abbrev pub waiting_from : WaitingRecord → Waiting
waiting_from w = record { is_waiting = is_set w.is_waiting; seed = w.seed }

abbrev pub flat_waiting : Waiting → WaitingRecord
flat_waiting w = record { is_waiting = flag_of w.is_waiting; seed = w.seed }

abbrev pub best_from : BestRecord → Best
best_from b = record { found = is_set b.found; candidate = b.candidate }

abbrev pub flat_best : Best → BestRecord
flat_best b = record { found = flag_of b.found; candidate = b.candidate }

abbrev pub last_from : LastRecord → LastAnswer
last_from l =
    let m = l.line in
    record {
      found = is_set l.found;
      number = m.number;
      round = m.round;
      seed = m.seed;
      skipped = m.skipped;
      scored = fields_in m;
    }

abbrev pub flat_last : LastAnswer → LastRecord
flat_last a =
    let f = a.scored in
    record {
      found = flag_of a.found;
      line = record { number = a.number; round = a.round; seed = a.seed; skipped = a.skipped; score = f.score; mean = f.mean; k = f.k; p1 = f.p1; p2 = f.p2 };
    }

abbrev pub run_from : RunRecord → Run
run_from r = record {
  options = options_from r.options;
  center = r.center;
  place = place_from r.place;
  waiting = waiting_from r.waiting;
  round_best = best_from r.round_best;
  run_best = best_from r.run_best;
  last = last_from r.last;
  counts = r.counts;
}

abbrev pub flat_run : Run → RunRecord
flat_run r = record {
  options = flat_options r.options;
  center = r.center;
  place = flat_place r.place;
  waiting = flat_waiting r.waiting;
  round_best = flat_best r.round_best;
  run_best = flat_best r.run_best;
  last = flat_last r.last;
  counts = r.counts;
}

-- the record of zeros
abbrev pub no_run : RunRecord
no_run = record {
  options = record { refine_rounds = 0; refine_step = plus_zero; max_abs_tilt = plus_zero; one_axis = 0; min_counted = 0 };
  center = record { x = plus_zero; y = plus_zero };
  place = record { demand = 0; round = 0; step = plus_zero; len = 0; at = 0; number = 0; over = 0 };
  waiting = flat_waiting no_waiting_seed;
  round_best = flat_best no_best;
  run_best = flat_best no_best;
  last = record { found = 0; line = no_line };
  counts = no_counts;
}
