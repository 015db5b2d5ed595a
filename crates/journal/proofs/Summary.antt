-- What is proved of the journal and of the report on one page: all of `specs/Theorem.antt`. Assumes nothing.
use Rattle.journal.specs.Theorem.{JournalIsExact, ReportIsExact}
use Rattle.journal.proofs.ReportLaws.{report_ends_with_newline, report_front_no_newline, report_length_bounds, report_injective}
use Rattle.journal.proofs.Unique.{read_correct, line_length_bounds, line_injective, written_line_is_read, line_that_is_read_stands_there}
use Rattle.journal.proofs.Whole.{written_journal_is_read, lines_read_to_the_end_were_written, whole_stops}
use Rattle.journal.proofs.Numbers.{cut_line_no_newline, whole_numbered, line_number_behind_lines}

pub journal_is_exact : JournalIsExact
journal_is_exact = record {
  read_as_written = written_line_is_read;
  written_as_read = line_that_is_read_stands_there;
  each_answer = read_correct;
  no_two_alike = line_injective;
  short = line_length_bounds;
  all_read = written_journal_is_read;
  all_written = lines_read_to_the_end_were_written;
  reads_all = whole_stops;
  numbered = whole_numbered;
  counted = line_number_behind_lines;
  cut_off = cut_line_no_newline;
}

pub report_is_exact : ReportIsExact
report_is_exact = record { short = report_length_bounds; ends = report_ends_with_newline; no_other = report_front_no_newline; no_two_alike = report_injective }
