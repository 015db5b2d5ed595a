-- The last line by what is recorded alone: a reason above 4 records nothing. Assumes nothing.
use Rattle.std.specs.Prelude.{◌&&◌, cond, leb, false, ◌≡◌, Option, Some, None}
use Rattle.std.proofs.Common.{arith, refl, sym, ap, ne_eqb}
use borrow.Author.Tests.{leb-false}
use Rattle.common.specs.Tests.{case}
use Rattle.journal.specs.declared.Line.{Line}
use Rattle.journal.specs.Outcome.{Recorded}
use Rattle.search.specs.Record.{sound}
use Rattle.search.specs.declared.run.LastAnswer.{LastAnswer}
use Rattle.search.specs.declared.run.Run.{Run}
use Rattle.search.specs.Last.{has_line, recorded_in, last_def}

reason_above_4_records_nothing : (a : LastAnswer) → leb a.skipped 4 ≡ false → recorded_in a ≡ None
unfolding recorded_in
reason_above_4_records_nothing a h =
    let n = a.skipped in
    let k = leb-false n 4 h in
    simp (ne_eqb n 0 (λ e. omega arith), ne_eqb n 1 (λ e. omega arith), ne_eqb n 2 (λ e. omega arith), ne_eqb n 3 (λ e. omega arith), ne_eqb n 4 (λ e. omega arith))

-- an answer's line, with what is recorded of it
abbrev line_with : LastAnswer → Option Recorded → Option Line
line_with a o = elim o [ Some outcome ↦ Some (record { number = a.number; round = a.round; seed = a.seed; outcome = outcome }) | None ↦ None ]

pub last_def_by_recorded : (r : Run) → last_def r ≡ cond (sound r && r.last.found) (line_with r.last (recorded_in r.last)) None
unfolding last_def has_line
last_def_by_recorded r =
    case (sound r && r.last.found)
    (λ h. case (leb r.last.skipped 4) (λ k. rw (h, k) refl) (λ k. rw (h, k) (ap (line_with r.last) (sym (reason_above_4_records_nothing r.last k)))))
    (λ h. rw h refl)
