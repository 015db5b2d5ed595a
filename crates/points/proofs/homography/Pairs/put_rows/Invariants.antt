-- `points::homography::Pairs::put_rows`: the loop's invariant: writing the rows of the pairs that are left, from this
-- index on, gives what writing all rows gives.
use Rattle.std.proofs.Common.{◌≡◌, ◌*◌, length, drop}
use lib.Seq.{sets}
use Rattle.points.specs.Chunks.{pairs_of}
use Rattle.points.specs.Rows.{design_rows}
use Rattle.points.proofs.homography.Pairs.put_rows.Given as goal

abbrev pub invariant-loop-i : goal.invariant-loop-i
invariant-loop-i l =
    let n = l.i-iterator.count in
    let s = l.self.src.now in
    let d = l.self.dst.now in
    (l.i-iterator.iter.a.rest.now ≡ drop n (pairs_of s))
    × (l.i-iterator.iter.b.rest.now ≡ drop n (pairs_of d))
    × (length l.a ≡ length l.initial.a)
    × (sets l.a (18 * n) (design_rows l.ts l.td (drop (2 * n) s) (drop (2 * n) d)) ≡ sets l.initial.a 0 (design_rows l.ts l.td s d))
