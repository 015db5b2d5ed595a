-- `score::outcome::is_enough` meets its contract: no part is above what it is a share of, so no product wraps. Assumes nothing.
use Rattle.std.proofs.Common.{◌*◌, ◌/◌, ◌%◌, ◌≤◌, arith}
use Rattle.score.proofs.Share.{share_above_100_enough_only_for_no_rows, share_of_hundreds_le, share_of_rest_le, enough_by_hundreds_and_rest}
use Rattle.score.proofs.outcome.is_enough.Goals.{Else-share-gt100}
use Rattle.score.proofs.outcome.is_enough.Goals as goal

hundreds_product_le : (c : Else-share-gt100) → c.args.share * (c.args.all / 100) ≤ 100 * (c.args.all / 100)
hundreds_product_le c = share_of_hundreds_le _ _ c.if-share-gt100.false

rest_product_le : (c : Else-share-gt100) → c.args.share * (c.args.all % 100) ≤ 100 * (c.args.all % 100)
rest_product_le c = share_of_rest_le _ _ c.if-share-gt100.false

pub returns-then-share-gt100 : goal.returns-then-share-gt100
returns-then-share-gt100 c = share_above_100_enough_only_for_no_rows _ _ _ c.if-share-gt100.true c.requires

pub overflow_mul-of_hundreds : goal.overflow_mul-of_hundreds
overflow_mul-of_hundreds c = omega (arith, hundreds_product_le c)

pub overflow_mul-share : goal.overflow_mul-share
overflow_mul-share c = omega (arith, rest_product_le c)

pub overflow_add-result : goal.overflow_add-result
overflow_add-result c = let e = (goal.at.overflow_add-result c).Else-share-gt100 in omega (arith, hundreds_product_le e, rest_product_le e, c.div_ceil-of_rest.ensures)

pub returns : goal.returns
returns c = rw c.div_ceil-of_rest.ensures (enough_by_hundreds_and_rest _ _ c.if-share-gt100.false _)
