-- The run's record as a function of the book. Definitions only.
use Rattle.std.specs.Prelude.{Bool, true, false, length}
use mathlib.Core.Option.{Option, none, some}
use Rattle.seeds.specs.declared.CandidateSeed.{CandidateSeed}
use Rattle.score.specs.Best.{held}
use Rattle.search.specs.declared.run.Run.{Run}
use Rattle.search.specs.declared.run.Waiting.{Waiting}
use Rattle.journal.specs.Outcome.{recorded_as}
use Rattle.search.specs.declared.run.LastAnswer.{LastAnswer}
use Rattle.search.specs.Record.{no_waiting_seed, no_answer, last_answer}
use Rattle.book.specs.Book.{demand, Entry, Book, entries, number, current, round_best_of, run_best_of, step_of, last_of, tally}

-- ---- the run that goes with a book
abbrev pub waiting_of : Bool → CandidateSeed → Waiting
waiting_of true s = record { is_waiting = true; seed = s }
waiting_of false s = no_waiting_seed

abbrev pub last_in : Option Entry → LastAnswer
last_in none = no_answer
last_in (some e) = last_answer e.number e.round e.seed (recorded_as e.outcome)

unfoldable pub run_of : Book → Run
run_of b =
    let i = b.inputs in
    record {
      options = record { refine_rounds = i.rounds; refine_step = i.step; max_abs_tilt = i.max; one_axis = i.one_axis; min_counted = i.share };
      center = i.center;
      place = record { demand = demand i; round = b.round; step = step_of b.round i.step; len = length b.list; at = length b.answered; number = number b; over = b.over };
      waiting = waiting_of b.waits (current b);
      round_best = held (round_best_of b);
      run_best = held (run_best_of b);
      last = last_in (last_of (entries b));
      counts = tally (entries b);
    }
