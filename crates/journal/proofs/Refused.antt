-- A line or a report that is refused is NotWritable, and the buffer stays as it was lent. Assumes nothing.
use Rattle.std.specs.Prelude.{ℕ, ◌≡◌, true, List, Err}
use Rattle.common.specs.declared.Refusal.TheVariants.{NotWritable}
use Rattle.journal.specs.declared.Counts.{Counts}
use Rattle.journal.specs.declared.Line.{Line}
use Rattle.journal.specs.Writing.{refuses_line, write_reply, write_into}
use Rattle.journal.specs.Report.{refuses_report, report_reply, report_into}

pub line_refused : (l : Line) (o : List ℕ) → refuses_line l o ≡ true → (Err NotWritable ≡ write_reply l o) × (o ≡ write_into l o)
unfolding write_reply write_into
line_refused l o e = (rw e, rw e)

pub report_refused : (c : Counts) (o : List ℕ) → refuses_report c o ≡ true → (Err NotWritable ≡ report_reply c o) × (o ≡ report_into c o)
unfolding report_reply report_into
report_refused c o e = (rw e, rw e)
