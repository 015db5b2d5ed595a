-- Result, as a function of the run's record, for every record. Definitions only.
use Rattle.std.specs.Prelude.{not, [], ◌∷◌, Result, Ok, Err, ⊤}
use Rattle.common.specs.Checks.{◌when◌, first_refusal}
use Rattle.common.specs.declared.Refusal.{Refusal}
use Rattle.common.specs.declared.Refusal.TheVariants.{NothingScored, NotOver}
use Rattle.score.specs.declared.best.Candidate.{Candidate}
use Rattle.search.specs.Record.{sound}
use Rattle.search.specs.declared.run.Run.{Run}

-- 14 where the run isn't over, 11 where no candidate was scored. Before them, 11 for a record that isn't sound.
abbrev pub result_refusal : Run → Result ⊤ Refusal
result_refusal r =
    first_refusal
    ((NothingScored when not (sound r))
    ∷ (NotOver when not r.place.over)
    ∷ (NothingScored when not r.run_best.found)
    ∷ [])

unfoldable pub result_def : Run → Result Candidate Refusal
result_def r = elim (result_refusal r) [ Ok _ ↦ Ok r.run_best.candidate | Err refusal ↦ Err refusal ]
