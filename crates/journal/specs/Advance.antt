-- What a step of the reader does: its answer, and the reader after it. Definitions only.
use Rattle.std.specs.Prelude.{◌≡◌}
use Rattle.journal.specs.declared.Read.{Read}
use Rattle.journal.specs.declared.reader.Reader.{Reader}
use Rattle.journal.specs.Reading.{read_line, position_after}

pub record Advanced (before : Reader) (answer : Read) (after : Reader) : Type 0 where
  pub answer_is : answer ≡ read_line before.bytes.now before.at
  pub same_bytes : after.bytes ≡ before.bytes
  pub position_is : after.at ≡ position_after answer before.at
