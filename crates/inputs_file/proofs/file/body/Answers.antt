use Rattle.inputs_file.proofs.FileLaws.{tilt_x_long, tilt_y_long}
use Rattle.inputs_file.proofs.file.body.Goals as goal

pub tilts-requires : goal.tilts-requires
tilts-requires c = tilt_x_long

pub tilts-requires-2 : goal.tilts-requires-2
tilts-requires-2 c = tilt_y_long
