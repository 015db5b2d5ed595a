use Rattle.std.proofs.Common.{◌≡◌, suc, ◌+◌, sym, arith}
use Rattle.std.proofs.lemmas.Bool.Decides.{Decides-eqb}
use Rattle.std.proofs.lemmas.List.{take_rest}
use Rattle.inputs_file.proofs.Cuts.{cut_at, cut_nowhere}
use Rattle.inputs_file.proofs.value.cut.Goals as goal

pub returns-in_err-at : goal.returns-in_err-at
returns-in_err-at c = rw c.from_residual.ensures (sym (cut_nowhere c.args.byte c.args.bytes.now (λ j lt e. c.in_err-at.ensures j (omega arith) lt ((Decides-eqb _ _).1 e))))

pub returns : goal.returns
returns c =
    let first = c.in_ok-at.ensures in
    let next : c.in_ok-at.at + 1 ≡ suc c.in_ok-at.at = omega arith in
    rw (take_rest, next) (sym (cut_at c.args.byte c.args.bytes.now c.in_ok-at.at first.0.high ((Decides-eqb _ _).0 first.1) (λ j lt e. first.0.before j (omega arith) lt ((Decides-eqb _ _).1 e))))
