-- `root::machine::sqrt` meets its contract. Assumes nothing.
use Rattle.std.proofs.Common.{◌∙◌}
use Rattle.std.specs.Bool.{passes}
use Rattle.root.proofs.MachineRoot.{machine_root}
use Rattle.root.proofs.machine.sqrt.Goals as goal

pub returns : goal.returns
returns c = c.sqrt.ensures.value ∙ machine_root c.args.x (passes _ c.well_formed.0.1)
