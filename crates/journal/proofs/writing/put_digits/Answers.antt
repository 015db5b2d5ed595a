-- `journal::writing::put_digits` meets its contract: what is left to store, from here, is the whole. Assumes nothing.
use Rattle.std.proofs.Common.{refl, mod-lt, arith, rules}
use Rattle.journal.proofs.Stores.{sets_digits_turn, sets_no_digits}
use Rattle.journal.proofs.writing.put_digits.Goals as goal

pub loop-i-init : goal.loop-i-init
loop-i-init c = refl

pub digit_byte-requires : goal.digit_byte-requires
digit_byte-requires c = omega (arith, mod-lt c.loop-i.left c.requires.1)

pub loop-i-preserved : goal.loop-i-preserved
loop-i-preserved c =
    let l = c.loop-i in
    let a = c.args in
    sets_digits_turn l.out _ a.at a.base l.i l.left c.digit_byte.result (search rules) c.digit_byte.ensures l.invariant

pub returns : goal.returns
returns c =
    let l = c.loop-i in
    let a = c.args in
    record { now_is = sets_no_digits l.out _ a.at a.base l.i l.left (search rules) l.invariant; same_long = l.auto.out }
