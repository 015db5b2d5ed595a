-- `root::from_guess::Radicand::nearest_by_digits` meets its contract. Assumes nothing.
use Rattle.std.proofs.Common.{◌≡◌, ℕ, ◌+◌, ◌*◌, ◌^◌, ap, ◌∙◌, arith}
use Rattle.root.proofs.Steps.{nearest_of_root_or_next}
use Rattle.root.proofs.from_guess.Radicand.nearest_by_digits.Goals as goal

pub returns : goal.returns
returns c =
    let p = c.extend_by_digits-p in
    let n = c.args.self.significand * 4 ^ 26 in
    let whole : p.result.root * p.result.root + p.result.remainder ≡ n = p.ensures ∙ ap (λ (x : ℕ). x * 4 ^ 26) c.isqrt_by_digits.ensures in
    rw c.nearest_whole.ensures (nearest_of_root_or_next n p.result.root p.result.remainder (omega arith) whole (omega (arith, p.result.least)))
