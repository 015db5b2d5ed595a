use Rattle.inputs_file.proofs.FileLaws.{one_reading}
use Rattle.inputs_file.proofs.laws.one_reading_law.Goals as goal

pub returns : goal.returns
returns c = one_reading
