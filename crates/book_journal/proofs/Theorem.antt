-- Journals over the reference model: all of `specs/Theorem.antt`. Assumes nothing.
use Rattle.book_journal.specs.History.{book_at}
use Rattle.book_journal.specs.Theorem.{JournalsRight}
use Rattle.book_journal.proofs.Opening.{start_refused_by_conditions}
use Rattle.book_journal.proofs.Walk as walks
use Rattle.book_journal.proofs.Again.{history_sound, lines_taken, sound_lines_read_back}
use Rattle.book_journal.proofs.Beside as beside
use Rattle.book_journal.proofs.Accepted as replying
use Rattle.book_journal.proofs.Front as fronts
use Rattle.book_journal.proofs.Buffer as buffers
use Rattle.book_journal.proofs.Live as live
use Rattle.book_journal.proofs.Cut as cutting
use Rattle.book_journal.proofs.GoingOn as going
use Rattle.book_journal.proofs.Counted as counting
use Rattle.book_journal.proofs.Stretched as stretching
use Rattle.book_journal.proofs.Written.{written_is_journal}
use Rattle.book_journal.proofs.Reported.{written_report, resumed_report}

pub journals_right : JournalsRight
journals_right = record {
  lines_taken = lines_taken;
  written_is_journal = written_is_journal;
  lines_of_run = λ i h f. sound_lines_read_back i (book_at h) (history_sound i h f.inputs_fit f.calls_fit);
  start_first = start_refused_by_conditions;
  start_refuses = replying.start_refuses;
  run_again = λ i h f l a. buffers.run_again i h f.inputs_fit f.calls_fit l a;
  live_buffer = live.live_buffer;
  accepted = replying.accepted;
  declines = replying.declines;
  same_as_reader = λ i l bs f a. beside.same_as_reader i _ a f l bs;
  front_alone = fronts.front_alone;
  walked_buffer = buffers.walked_buffer;
  called_buffer = buffers.called_buffer;
  any_buffer = λ i l m bs. (walks.walked_ignores_list i l m bs).0;
  resume_refuses = cutting.resume_refuses;
  resume_accepts = cutting.resume_accepts;
  gives_back = cutting.gives_back;
  cut_anywhere = λ i h f at l. cutting.cut_anywhere i h f.inputs_fit f.calls_fit at l;
  goes_on = λ i h f at cs ds. going.goes_on i h f.inputs_fit f.calls_fit at cs ds;
  goes_on_somewhere = λ i h f at. going.goes_on_somewhere i h f.inputs_fit f.calls_fit at;
  enters_on = λ i h f at. going.enters_on i h f.inputs_fit f.calls_fit at;
  continues = live.resumed_continues;
  continues_to_end = live.resumed_ends;
  journal_grows = going.journal_grows;
  counts_agree = counting.counts_agree;
  in_journal = λ i h f. counting.in_journal i h f.inputs_fit f.calls_fit;
  written_report = written_report;
  resumed_report = resumed_report;
  groups = stretching.groups;
  stretches_right = stretching.stretches_right;
  line_stretches_right = λ i h f. stretching.line_stretches_right i h f.inputs_fit f.calls_fit;
}
