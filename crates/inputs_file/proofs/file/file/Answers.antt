use Rattle.inputs_file.specs.View.{view}
use Rattle.inputs_file.proofs.FileLaws.{body_leaves}
use Rattle.inputs_file.proofs.file.file.Goals as goal

pub overflow_sub-bytes : goal.overflow_sub-bytes
overflow_sub-bytes c = body_leaves c.args.bytes.now (view c.in_ok-stored.stored) c.in_ok-stored.rest.now c.in_ok-stored.ensures
