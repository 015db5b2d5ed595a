use Rattle.std.proofs.Common.{◌≡◌, true, sym, arith}
use Rattle.std.specs.Prelude.{decimal}
use Rattle.std.specs.Str.{bytes_eq}
use Rattle.std.proofs.lemmas.Slice.Eq.{bytes_eq-Decides}
use Rattle.inputs_file.specs.Grammar.{IsWhole}
use Rattle.inputs_file.proofs.Wholes.{whole_again, whole_none, parsed_ok, parsed_err}
use Rattle.inputs_file.proofs.value.whole_of.Goals as goal

pub returns-then-is_decimal : goal.returns-then-is_decimal
returns-then-is_decimal c =
    let test : bytes_eq (decimal c.in-Ok.number) c.args.text.now ≡ true = cc in
    let is : IsWhole c.args.text.now c.in-Ok.number = record { spelled = sym ((bytes_eq-Decides _ _).0 test); bound = omega (arith, c.in-Ok.ensures.0.1, c.in-Ok.ensures.1) } in
    sym (whole_again c.args.text.now c.in-Ok.number is)

pub returns-else-is_decimal : goal.returns-else-is_decimal
returns-else-is_decimal c = sym (whole_none c.args.text.now (λ n is.
    let same : c.in-Ok.number ≡ n = parsed_ok c.args.text.now c.in-Ok.number n c.in-Ok.ensures is in
    let test : bytes_eq (decimal c.in-Ok.number) c.args.text.now ≡ true = rw same ((bytes_eq-Decides (decimal n) c.args.text.now).1 (sym is.spelled)) in
    absurd cc))

pub returns-in-Err : goal.returns-in-Err
returns-in-Err c = sym (whole_none c.args.text.now (λ n is. parsed_err c.args.text.now n c.in-Err.ensures is))
