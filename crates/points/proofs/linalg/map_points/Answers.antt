-- `points::linalg::map_points` meets its contract. Assumes nothing.
use Rattle.std.proofs.Common.{List, [], ◌≡◌, sym, ap, ◌∙◌, ◌+◌, ◌*◌, ◌/◌, ◌<◌, arith, length, drop, Float}
use Rattle.std.specs.Prelude.{get_or}
use Rattle.std.specs.Float.{nan}
use lib.Seq.{sets}
use Rattle.points.specs.Points.{mapped_xy, map_points}
use Rattle.camera.specs.Math.{point_at}
use Rattle.points.specs.Chunks.{pair_at}
use Rattle.points.specs.Walk.{each_next, each_end, mapped_length, sets_two, sets_front}
use Rattle.points.proofs.linalg.map_points.Goals as goal

pub loop-i-preserved : goal.loop-i-preserved
loop-i-preserved g c f is =
    let s = c.args.points.now in
    let to = c.loop-i.to in
    let i = c.loop-i.i in
    let at = 2 * i in
    let h : i < length s / 2 = omega (arith, c.loop-i-test.true, c.as_chunks.ensures.front_len) in
    let pair = ap (λ (l : List (List Float)). get_or l i []) c.as_chunks.ensures.front ∙ pair_at s i h in
    let p = f (point_at s at) in
    let q : c.map-mapped.result ≡ p = is _ _ c.map-mapped.ensures ∙ ap (λ (v : List Float). f (record { x = get_or v 0 nan; y = get_or v 1 nan })) pair in
    let e : 2 * (i + 1) ≡ at + 2 = omega arith in
    rw (q, e)
    (sets_two to at p.x p.y (map_points f (drop (at + 2) s))
    ∙ ap (sets to at) (sym (each_next (mapped_xy f) s at (omega (arith, h))))
    ∙ c.loop-i.invariant f is)

pub returns : goal.returns
returns g c f is =
    let s = c.args.points.now in
    let at = 2 * c.loop-i.i in
    ap (sets c.loop-i.to at) (sym (each_end (mapped_xy f) s at (omega (arith, c.loop-i-test.false, c.as_chunks.ensures.front_len))))
    ∙ c.loop-i.invariant f is
    ∙ sets_front c.args.to.now (map_points f s) (omega (arith, mapped_length f s, c.requires.room))
