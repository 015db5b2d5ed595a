-- The last answered candidate's line, as a function of the run's record, for every record. Definitions only.
use Rattle.std.specs.Prelude.{Bool, ◌&&◌, cond, leb, Option, Some, None}
use Rattle.std.specs.Result.{result_ok}
use Rattle.journal.specs.declared.Line.{Line}
use Rattle.journal.specs.Outcome.{Recorded, recorded_with}
use Rattle.search.specs.Record.{sound}
use Rattle.search.specs.declared.run.LastAnswer.{LastAnswer}
use Rattle.search.specs.declared.run.Run.{Run}

-- a candidate was answered; a record that no call made, or one with a reason above 4, has none
unfoldable pub has_line : Run → Bool
has_line r = sound r && r.last.found && leb r.last.skipped 4

-- 0 says that it was scored, 1 to 4 the reason that it was skipped for; another number records nothing
unfoldable pub recorded_in : LastAnswer → Option Recorded
recorded_in a = result_ok (recorded_with a.skipped a.scored)

-- the fields of the last answered candidate's line, or nothing before the first answer
unfoldable pub last_def : Run → Option Line
last_def r =
    let a = r.last in
    cond (has_line r)
    (elim (recorded_in a) [ Some outcome ↦ Some (record { number = a.number; round = a.round; seed = a.seed; outcome = outcome }) | None ↦ None ])
    None
