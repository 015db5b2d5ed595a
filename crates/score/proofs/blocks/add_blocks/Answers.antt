-- `score::blocks::add_blocks` meets its contract. Assumes nothing.
use Rattle.std.proofs.Common.{◌≡◌, ◌*◌, length, length-append, sym, ap, ◌∙◌, ⊎_elim, arith}
use Rattle.std.specs.Slice.Iter.{chunks_rest}
use Rattle.score.proofs.Steps.{add_rows_zero, add_rows_append}
use Rattle.score.proofs.blocks.add_blocks.Goals as goal

pub loop-numbers-preserved : goal.loop-numbers-preserved
loop-numbers-preserved c =
    let l = c.loop-numbers in
    let v = l.invariant in
    let x = c.in-Some.ensures.steps in
    let b = c.args.by in
    let n = c.in-Some.numbers.now in
    let f = c.in-Some.flags.now in
    let ns = chunks_rest c.next.new.self.a in
    let fs = chunks_rest c.next.new.self.b in
    let long = length-append n ns in
    let long' = length-append f fs in
    let four : length n ≡ 4 * length f = omega (arith, x.0.1.1, x.1.1.1, v.0, v.1, v.2) in
    let fours : length ns ≡ 4 * length fs = omega (arith, four, v.2, ap length x.0.1.0, ap length x.1.1.0, long, long') in (
      x.0.0 ∙ v.0,
      x.1.0 ∙ v.1,
      fours,
      rw c.add_block-sum.ensures (add_rows_append l.sum b.camera b.h n ns f fs four fours ∙ (rw (x.0.1.0, x.1.1.0, long') at v.3)),
    )

pub returns : goal.returns
returns c =
    let l = c.loop-numbers in
    let v = l.invariant in
    let fs = chunks_rest l.numbers-iterator.b in
    let none : length fs ≡ 0 = ⊎_elim (λ x. omega (arith, x.1.1.0, v.2)) (λ x. x.1.1.0) c.in-None.ensures.steps in
    sym (add_rows_zero l.sum c.args.by.camera c.args.by.h (chunks_rest l.numbers-iterator.a) fs) ∙ (rw none at v.3)
