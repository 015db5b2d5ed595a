-- `root::from_guess::Radicand::nearest_root` meets its contract. Assumes nothing.
use Rattle.std.proofs.Common.{◌+◌, ◌*◌, ◌^◌, arith}
use Rattle.root.proofs.Steps.{product_below_power, wrapped_difference, wrapped_difference_plus_back, remainder_of_joined_root, nearest_of_root_or_next}
use Rattle.root.proofs.from_guess.Radicand.nearest_root.Goals as goal

pub returns-then-remainder-root : goal.returns-then-remainder-root
returns-then-remainder-root c =
    let m = c.args.self.significand in
    let h = c.high_digits-h.result in
    let l = c.low_digits-l.result in
    let a = wrapped_difference m (h * h) in
    let d = wrapped_difference (a * 2 ^ 26) (2 * h * l) in
    let t = wrapped_difference (d * 2 ^ 26) (l * l) in
    let H = c.high_digits-h.ensures in
    let L = c.low_digits-l.ensures in
    let A = c.if-a-ge536870912.false in
    let D = c.if-d-ge137438953472.false in
    let T = c.if-remainder-root.true in
    let e = remainder_of_joined_root m h l a d t H L (omega (arith, A)) D T
    (wrapped_difference_plus_back m (h * h) (omega arith) (omega (arith, product_below_power 28 28 h h H H)))
    (wrapped_difference_plus_back (a * 2 ^ 26) (2 * h * l) (omega (arith, A)) (omega (arith, product_below_power 28 31 h l H L)))
    (wrapped_difference_plus_back (d * 2 ^ 26) (l * l) (omega (arith, D)) (omega (arith, product_below_power 31 31 l l L L))) in
    rw c.nearest_whole.ensures (nearest_of_root_or_next (m * 4 ^ 26) (h * 2 ^ 26 + l) t (omega arith) e T)
