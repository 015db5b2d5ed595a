-- `score::blocks::add_blocks`: the loop's invariant: the rows that are left make the sum and count those of all.
use Rattle.std.proofs.Common.{◌≡◌, ◌*◌, length}
use Rattle.std.specs.Slice.Iter.{chunks_rest, chunks_size}
use Rattle.score.specs.Steps.{add_rows, add_all_rows}
use Rattle.score.proofs.blocks.add_blocks.Given as goal

abbrev pub invariant-loop-numbers : goal.invariant-loop-numbers
invariant-loop-numbers l =
    let ns = chunks_rest l.numbers-iterator.a in
    let fs = chunks_rest l.numbers-iterator.b in
    (chunks_size l.numbers-iterator.a ≡ 64) × (chunks_size l.numbers-iterator.b ≡ 16) × (length ns ≡ 4 * length fs)
    × (add_rows l.sum l.by.camera l.by.h ns fs (length fs) ≡ add_all_rows l.initial.sum l.by l.rows)
