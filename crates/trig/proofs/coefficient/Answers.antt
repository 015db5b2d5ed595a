-- `trig::coefficient` meets its contract: antt computes that the table is the list of the definition's sixteen
-- values, and `table_at` reads a value of it. Assumes nothing.
use Rattle.std.proofs.Common.{rules}
use Rattle.std.specs.Float.{nan}
use Rattle.std.specs.Float.Ieee.{of_bits, round}
use Rattle.common.specs.Table.{table_at}
use Rattle.trig.specs.Series.{coefficient_of}
use Rattle.trig.proofs.coefficient.Goals as goal

pub returns : goal.returns
unfolding coefficient_of of_bits round
returns c = table_at coefficient_of 16 c.args.n nan (search rules)
