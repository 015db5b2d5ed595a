-- `journal::reading::begins_with` meets its contract: the library's test is the definition's. Assumes nothing.
use Rattle.std.proofs.Common.{◌∙◌}
use Rattle.journal.proofs.Bytes.{starts_with_is_begins}
use Rattle.journal.proofs.reading.begins_with.Goals as goal

pub returns : goal.returns
returns c = c.starts_with.ensures.value ∙ starts_with_is_begins _ _
