-- `points::homography::Pairs::put_rows` meets its contract. Assumes nothing.
use Rattle.std.proofs.Common.{◌≡◌, refl, sym, ap, ◌∙◌, ◌+◌, ◌-◌, ◌*◌, ◌/◌, ◌≤◌, inl, inr, arith, length, drop, length-drop}
use Rattle.std.proofs.lemmas.Slice.{put_mid-paste}
use borrow.Rule.Slice.PartMut.{put_mid}
use lib.Seq.{sets, sets-eq, length-sets}
use Rattle.camera.specs.Math.{point_at}
use Rattle.points.specs.Walk.{no_pair}
use Rattle.points.specs.Chunks.{pair_left, pairs_count, pairs_of}
use Rattle.points.specs.Rows.{pair_rows, moved_rows}
use Rattle.points.specs.RowsLaws.{rows_next}
use Rattle.points.proofs.homography.Pairs.put_rows.Goals as goal

pub loop-i-preserved : goal.loop-i-preserved
unfolding pair_rows
loop-i-preserved c =
    let b = c.args in
    let a = c.loop-i.a in
    let n = c.loop-i.i-iterator.count in
    let i = c.in-Some.i in
    let k = c.loop-i.invariant in
    let h = c.in-Some.ensures.steps in
    let s = b.self.src.now in
    let d = b.self.dst.now in
    let p = pair_left s n c.in-Some.field-0-1-0.now c.next.new.self.iter.a.rest.now (sym k.0 ∙ h.0.0) in
    let q = pair_left d n c.in-Some.field-0-1-1.now c.next.new.self.iter.b.rest.now (sym k.1 ∙ h.0.1) in
    let at = 2 * n in
    let room : 18 * i + 18 ≤ length a = omega (arith, p.0, k.2, h.1, c.requires) in
    let r = moved_rows b.ts b.td (point_at s at) (point_at d at) in
    let here : c.copy_from_slice.new.self ≡ r =
    c.copy_from_slice.ensures.after ∙ c.as_flattened.ensures.value ∙ rw (c.pair_rows.ensures, c.moved-p.ensures, c.moved-q.ensures, p.1, q.1) in
    let e : put_mid (18 * i) (18 * i + 18 - 18 * i) a c.copy_from_slice.new.self ≡ sets a (18 * i) r =
    put_mid-paste (18 * i) (18 * i + 18 - 18 * i) a c.copy_from_slice.new.self r 18 here (omega arith) refl ∙ sym (sets-eq r a (18 * i) room) in
    let from : 18 * i ≡ 9 * at = omega (arith, h.1) in
    let next : 18 * c.next.new.self.count ≡ 9 * (at + 2) = omega (arith, h.2) in
    let two : 2 * c.next.new.self.count ≡ at + 2 = omega (arith, h.2) in
    let all : 9 * at ≡ 18 * n = omega arith in (
      rw h.2 (sym p.2),
      rw h.2 (sym q.2),
      ap length e ∙ length-sets a (18 * i) r ∙ k.2,
      rw (e, from, next, two) (rows_next b.ts b.td s d a at (omega (arith, p.0)) (omega (arith, q.0)) ∙ rw all k.3),
    )

pub returns : goal.returns
returns c =
    let b = c.args in
    let n = c.loop-i.i-iterator.count in
    let k = c.loop-i.invariant in
    let s = b.self.src.now in
    let d = b.self.dst.now in
    let none : length s / 2 ≤ n =
    elim c.in-None.ensures.steps.0 [
      | inl u ↦ omega (arith, u.1.0, ap length k.0, length-drop n (pairs_of s), pairs_count s)
      | inr u ↦ omega (arith, u.1.0, ap length k.1, length-drop n (pairs_of d), pairs_count d, c.requires)
    ] in
    ap (sets c.loop-i.a (18 * n)) (sym (no_pair (moved_rows b.ts b.td) (drop (2 * n) s) (drop (2 * n) d) (omega (arith, none, length-drop (2 * n) s)))) ∙ k.3
