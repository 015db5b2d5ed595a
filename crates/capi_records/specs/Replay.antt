-- The replies of replay and resume as flat records: numbers for refusals and for what ended the kept lines, and zeros
-- for what a reply leaves out. Definitions only.
use Rattle.std.specs.Prelude.{ℕ, Result, Ok, Err}
use Rattle.common.specs.declared.Refusal.{Refusal}
use Rattle.common.specs.Number.{number_of}
use Rattle.float.specs.Literals.{plus_zero}
use Rattle.search.specs.Record.{no_seed}
use Rattle.replay.specs.declared.EndedBy.{EndedBy}
use Rattle.replay.specs.declared.Standing.{Standing}
use Rattle.replay.specs.declared.Standing.TheVariants.{Winner, Unfinished}
use Rattle.replay.specs.declared.ReplayRefusal.{ReplayRefusal}
use Rattle.replay.specs.declared.ReplayRefusal.TheVariants.{Refused, At}
use Rattle.replay.specs.declared.Resumed.{Resumed}
use Rattle.replay.specs.Resume as resume
use Rattle.capi_records.specs.declared.replays.ReplayFlat.{ReplayFlat}
use Rattle.capi_records.specs.declared.replays.ResumeFlat.{ResumeFlat}
use Rattle.capi_records.specs.Record.{flat_run, no_run}

-- the reply of replay
abbrev pub flat_replayed : Result Standing ReplayRefusal → ReplayFlat
flat_replayed (Ok (Winner n s)) = record { number = 0; is_over = 1; line_number = 0; candidate = n; score = s; next = no_seed }
flat_replayed (Ok (Unfinished s)) = record { number = 0; is_over = 0; line_number = 0; candidate = 0; score = plus_zero; next = s }
flat_replayed (Err (Refused e)) = record { number = number_of e; is_over = 0; line_number = 0; candidate = 0; score = plus_zero; next = no_seed }
flat_replayed (Err (At e n)) = record { number = number_of e; is_over = 0; line_number = n; candidate = 0; score = plus_zero; next = no_seed }

-- 0 where nothing stands behind the kept lines, 1 for a missing newline, 29, 30
abbrev pub ended_number : EndedBy → ℕ
ended_number ended = resume.ended_number ended

abbrev pub flat_resumed : Result Resumed Refusal → ResumeFlat
flat_resumed (Ok s) = let q = s.kept_lines in record { number = 0; ended_by = ended_number q.ended_by; lines = q.lines; kept = q.kept; dropped = q.dropped; run = flat_run s.run }
flat_resumed (Err e) = record { number = number_of e; ended_by = 0; lines = 0; kept = 0; dropped = 0; run = no_run }
