-- `journal::writing::put_reals` meets its contract: what is left to store, from here, is the whole. Assumes nothing.
use Rattle.std.proofs.Common.{◌+◌, ◌*◌, add-zero, arith, length-set, rules}
use Rattle.journal.specs.Line.{real}
use Rattle.journal.proofs.FieldLaws.{real_length}
use Rattle.journal.proofs.Stores.{sets_fields_turn, all_fields_stored}
use Rattle.journal.proofs.writing.put_reals.Goals as goal

pub loop-i-init : goal.loop-i-init
loop-i-init c = rw add-zero

pub put_digits-requires : goal.put_digits-requires
put_digits-requires c = (simp length-set (omega arith), search rules, search rules)

pub loop-i-preserved : goal.loop-i-preserved
unfolding real
loop-i-preserved c =
    let l = c.loop-i in
    let position = c.args.at + 17 * l.i in
    sets_fields_turn real c.args.xs.now l.i l.out _ position _ _ (search rules) (rw real_length (omega arith)) l.invariant _ (rw c.to_bits.ensures at c.put_digits.ensures.now_is)

pub returns : goal.returns
returns c =
    let l = c.loop-i in
    all_fields_stored real c.args.xs.now l.i l.out _ _ _ (search rules) l.invariant l.auto.out
