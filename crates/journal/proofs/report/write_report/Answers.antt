-- `journal::report::write_report` meets its contract: the first count, the other numbers and the newline are stored one behind the other, and together
-- are the report. Assumes nothing.
use Rattle.std.proofs.Common.{sym, ◌∙◌, rules}
use Rattle.journal.proofs.Reported.{report_taken, given_sum_is_total, report_stored}
use Rattle.journal.proofs.report.write_report.Goals as goal

pub returns : goal.returns
returns c =
    let a = c.args in
    let s = given_sum_is_total a.counts c.in_ok-sum.sum (sym c.in_ok-sum.was ∙ rw c.total_if_small.ensures at c.ok_or.ensures.value) in
    let taken = report_taken a.counts a.out.now (search rules) s.0 in
    let r = report_stored a.counts a.out.now _ _ _ taken c.put_decimal-at.result c.put_decimals-end.result c.in_ok-sum.sum (search rules) s.1 c.put_decimals-end.ensures.0
    c.put_decimal-at.ensures.1 c.put_decimals-end.ensures.1 c.put_byte.ensures in record { reply = r.0; written = r.1 }
