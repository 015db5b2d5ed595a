use Rattle.std.proofs.Common.{◌≡◌, Ok, Err, ap, sym, ◌∙◌}
use Rattle.inputs_file.specs.Grammar.{Stored}
use Rattle.inputs_file.specs.Reading.{file_at}
use Rattle.inputs_file.specs.View.{view}
use Rattle.inputs_file.proofs.LineLaws.{ok_is}
use Rattle.inputs_file.proofs.FileLaws.{file_found, file_again}
use Rattle.inputs_file.proofs.file.read.Goals as goal

pub returns-in-Ok-clause-found : goal.returns-in-Ok-clause-found
returns-in-Ok-clause-found c = file_found c.args.bytes.now (view c.in-Ok.inputs) c.in-Ok.ensures

pub returns-in-Ok-clause-only : goal.returns-in-Ok-clause-only
returns-in-Ok-clause-only c = λ inputs is. ap (λ (s : Stored). Ok s) (ok_is inputs (view c.in-Ok.inputs) (sym (file_again c.args.bytes.now inputs is) ∙ c.in-Ok.ensures))

pub returns-in-Err-Stop-clause-only : goal.returns-in-Err-Stop-clause-only
returns-in-Err-Stop-clause-only c = λ inputs is.
    let refused : file_at c.args.bytes.now ≡ Err c.in-Err-Stop.stop = rw c.in-Err-Stop.field-0-is at c.in-Err-Stop.ensures in
    absurd (cc (file_again c.args.bytes.now inputs is, refused))
