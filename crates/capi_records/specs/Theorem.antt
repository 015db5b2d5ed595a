-- What crosses the C boundary comes back as it was, as a type. `specs/RoundTrip.antt` proves it. Definitions only.
use Rattle.std.specs.Prelude.{◌≡◌, Ok}
use Rattle.search.specs.declared.run.Run.{Run}
use Rattle.journal.specs.declared.Line.{Line}
use Rattle.capi_records.specs.Record.{run_from, flat_run}
use Rattle.capi_records.specs.Journal.{line_from, flat_line}

pub record ComesBack : Type 0 where
  pub run_back : (r : Run) → run_from (flat_run r) ≡ r
  pub line_back : (l : Line) → line_from (flat_line l) ≡ Ok l
