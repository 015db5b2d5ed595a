-- `journal::report::put_decimals` meets its contract: what is left to store, from here, is the whole. Assumes nothing.
use Rattle.std.proofs.Common.{ℕ, ◌+◌, refl, sym, ap, ◌∙◌, arith, length-set, rules}
use Rattle.journal.specs.Line.{decimal}
use Rattle.journal.proofs.DigitLaws.{decimal_length}
use Rattle.journal.proofs.Stores.{sets_fields_turn, fields_end_after_turn, place_is_fields_end, all_fields_stored}
use Rattle.journal.proofs.report.put_decimals.Goals as goal

pub loop-n-init : goal.loop-n-init
loop-n-init c = (search rules, refl, refl)

pub put_decimal-position-requires : goal.put_decimal-position-requires
put_decimal-position-requires c = simp length-set (omega arith)

pub loop-n-preserved : goal.loop-n-preserved
loop-n-preserved c =
    let l = c.loop-n in
    let ns = c.args.ns.now in
    let p = c.put_decimal-position in
    let at_next = sym (p.ensures.0 ∙ ap (λ (w : ℕ). l.position + 1 + w) (sym (decimal_length _))) in (
      search rules,
      fields_end_after_turn decimal ns l.n-index l.position p.result _ _ (search rules) at_next l.invariant.1,
      sets_fields_turn decimal ns l.n-index l.out _ l.position p.result _ (search rules) at_next l.invariant.2 _ p.ensures.1.now_is,
    )

pub returns : goal.returns
returns c =
    let l = c.loop-n in
    let ns = c.args.ns.now in (
      place_is_fields_end decimal ns l.n-index l.position _ (search rules) l.invariant.1,
      all_fields_stored decimal ns l.n-index l.out _ _ l.position (search rules) l.invariant.2 l.auto.out,
      search rules,
    )
