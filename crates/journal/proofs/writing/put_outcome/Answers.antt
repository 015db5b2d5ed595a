-- `journal::writing::put_outcome` meets its contract: four stores, one behind the other, in each of the two cases. Assumes nothing.
use Rattle.journal.proofs.Parts.{scored_stored, skipped_stored}
use Rattle.journal.proofs.writing.put_outcome.Goals as goal

pub returns-in-Ok : goal.returns-in-Ok
returns-in-Ok c = scored_stored c.args.at _ _ _ _ _ _ c.in-Ok.r c.into-numbers.result c.in-Ok.is c.into-numbers.ensures c.put_byte.ensures c.put_byte-in-Ok.ensures c.put_reals.ensures c.put_byte-in-Ok-2.ensures

pub returns-in-Err : goal.returns-in-Err
returns-in-Err c = skipped_stored c.args.at _ _ _ _ _ _ c.in-Err.reason c.reason_letter.result c.in-Err.is c.reason_letter.ensures c.put_byte.ensures c.put_byte-in-Err.ensures c.put_minuses.ensures c.put_byte-in-Err-2.ensures
