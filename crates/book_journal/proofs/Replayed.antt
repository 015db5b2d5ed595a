-- All of `specs/Theorem.antt`. Assumes nothing.
use Rattle.book_journal.specs.Theorem.{ReplayRight}
use Rattle.book_journal.proofs.Bytes as bytes
use Rattle.book_journal.proofs.File as files

pub replay_right : ReplayRight
replay_right = record {
  replay_is_book = bytes.replay_is_book;
  resume_is_book = bytes.resume_is_book;
  resumed_run = files.resumed_run;
  resumed_record = λ i h f l a. files.resumed_record i h f.inputs_fit f.calls_fit l a;
  cut_record = files.cut_record;
  of_run = files.of_run;
}
