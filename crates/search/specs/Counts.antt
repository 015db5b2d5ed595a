-- The counts call, as a function of the run's record, for every record. Definitions only.
use Rattle.std.specs.Prelude.{cond}
use Rattle.journal.specs.declared.Counts.{Counts}
use Rattle.journal.specs.Counts.{no_counts}
use Rattle.search.specs.Record.{sound}
use Rattle.search.specs.declared.run.Run.{Run}

-- how many candidates were scored, and how many skipped for each reason; zeros for a record that isn't sound
unfoldable pub counts_def : Run → Counts
counts_def r = cond (sound r) r.counts no_counts
