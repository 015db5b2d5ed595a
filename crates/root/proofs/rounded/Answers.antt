-- `root::rounded` meets its contract. Assumes nothing.
use Rattle.std.proofs.Common.{ℕ, ◌+◌, ◌-◌, ◌*◌, ◌%◌, ◌^◌, ◌<◌, Bool, not, T, sym, subst, arith, ltb→lt}
use Rattle.std.proofs.Math.Dec.{not_T}
use Rattle.std.specs.Prelude.{nat_lt}
use Rattle.std.specs.Float.{binary64}
use Rattle.std.specs.Float.Ieee.{nan_bits}
use Rattle.std.specs.Float.Ieee.Bits.{nan_bits_above}
use Rattle.root.proofs.Rounds.{Answer, answer_of_nearest_root}
use Rattle.root.proofs.rounded.Goals as goal

-- a pattern below that of the infinity is no NaN's
no_nan : (b : ℕ) → b < 0x7ff0_0000_0000_0000 → T (not (nan_bits binary64 b))
no_nan b h = subst (λ (z : Bool). T (not z)) (sym (nan_bits_above binary64 b)) (not_T (nat_lt (0x7ff * 2 ^ 52) (b % 2 ^ 63)) (λ y. omega (arith, ltb→lt (0x7ff * 2 ^ 52) (b % 2 ^ 63) y)))

-- the pattern that `rounded` makes is that of the root
pattern_is_that_of_root : (c : goal.After-struct_known-1) → Answer c.args.s.significand c.args.s.half ((c.args.s.half - 26) * 2 ^ 52 + c.nearest_root-q.result)
pattern_is_that_of_root c =
    let s = c.args.s in
    let b = c.requires in
    answer_of_nearest_root s.significand s.half c.nearest_root-q.result b.least b.most (omega arith) b.half_most c.nearest_root-q.ensures

pub float_from_bits-result : goal.float_from_bits-result
float_from_bits-result c = no_nan _ (pattern_is_that_of_root c).0

pub returns : goal.returns
returns c = (pattern_is_that_of_root c).1
