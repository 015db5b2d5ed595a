-- `journal::total::total_if_small` meets its contract: five counts up to 656 have a sum that fits. Assumes nothing.
use Rattle.std.specs.Prelude.{sum}
use Rattle.std.proofs.Common.{◌≡◌, ◌<◌, ◌∙◌, false, rules, arith}
use Rattle.common.specs.Each.{All}
use Rattle.journal.specs.declared.Counts.{Counts}
use Rattle.journal.specs.Report.{five, total}
use Rattle.journal.proofs.ReportLaws.{Small}
use Rattle.journal.proofs.Totals.{any_above_656, all_small_if_none_above_656}
use Rattle.journal.proofs.total.total_if_small.Goals.{After-iter-2, After-sum-sum, Else-any}
use Rattle.journal.proofs.total.total_if_small.Goals as goal

-- each count is small
each_count_small : (c : Else-any) → All Small (five c.args.c)
each_count_small c =
    let e : any_above_656 (five c.args.c) ≡ false = search rules in
    all_small_if_none_above_656 (five c.args.c) e

sum_of_five_is_total : (c : Counts) → sum (five c) ≡ total c
unfolding total
sum_of_five_is_total c = omega arith

sum_of_five_fits : (c : Counts) → All Small (five c) → sum (five c) < 18446744073709551616
sum_of_five_fits c s = omega (arith, s.0, s.1.0, s.1.1.0, s.1.1.1.0, s.1.1.1.1.0)

-- what is summed
summed_list_is_five : (c : After-iter-2) → c.iter-2.result.rest.now ≡ five c.args.c
summed_list_is_five c = search rules

total_is : (c : After-sum-sum) → c.sum-sum.result ≡ total c.args.c
total_is c =
    let s : c.sum-sum.result ≡ sum c.iter-2.result.rest.now = search rules in
    let e : c.iter-2.result.rest.now ≡ five c.args.c = search rules in
    s ∙ rw e (sum_of_five_is_total c.args.c)

pub sum-sum-requires-clause-fits : goal.sum-sum-requires-clause-fits
sum-sum-requires-clause-fits c =
    let s = each_count_small (goal.at.sum-sum-requires-clause-fits c).Else-any in
    let a : sum c.iter-2.result.rest.now < 18446744073709551616 = rw (summed_list_is_five c) (sum_of_five_fits c.args.c s) in
    search rules

pub returns-then-sum-gt656 : goal.returns-then-sum-gt656
returns-then-sum-gt656 c = let e = total_is (goal.at.returns-then-sum-gt656 c).After-sum-sum in search rules

pub returns : goal.returns
returns c = let e = total_is (goal.at.returns c).After-sum-sum in search rules
