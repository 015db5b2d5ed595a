-- The progress call, as a function of the run's record, for every record. Definitions only.
use Rattle.std.specs.Prelude.{cond}
use Rattle.search.specs.Record.{sound}
use Rattle.search.specs.declared.run.Run.{Run}
use Rattle.search.specs.declared.progress.ProgressReply.{ProgressReply}

-- The total for a round is the length of its list. Once the run is over these are the last round's numbers. All are 0
-- for a record that isn't sound.
unfoldable pub progress_def : Run → ProgressReply
progress_def r =
    let p = r.place in
    cond (sound r)
    (record { round = p.round; rounds = r.options.refine_rounds; answered = p.at; total = p.len; answered_in_run = p.number })
    (record { round = 0; rounds = 0; answered = 0; total = 0; answered_in_run = 0 })
