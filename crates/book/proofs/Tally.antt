-- The counts of entries: each entry is of one of the five kinds, so the counts add up to all entries. Assumes nothing.
use Rattle.std.proofs.Common.{arith, ◌≡◌, refl, ap, ◌∙◌, List, [], ◌∷◌, ◌++◌, map, length}
use mathlib.Core.List.{map-append}
use Rattle.journal.specs.Counts.{kind_of, count_in, counts_in, with_count}
use Rattle.journal.proofs.CountLaws.{counts_snoc, each_kind_is_one_of_five}
use Rattle.journal.specs.Outcome.{recorded_as}
use Rattle.journal.specs.Report.{total}
use Rattle.book.specs.Book.{Entry, line_of, tally}

-- ---- one more entry adds one to the count of its kind
pub tally_snoc : (es : List Entry) (e : Entry) → tally (es ++ e ∷ []) ≡ with_count (tally es) (recorded_as e.outcome)
unfolding tally
tally_snoc es e = ap counts_in (map-append line_of es (e ∷ [])) ∙ counts_snoc (map line_of es) (line_of e)

pub tally_total : (es : List Entry) → total (tally es) ≡ length es
unfolding tally count_in total
tally_total [] = refl
tally_total (e ∷ es) =
    let x = each_kind_is_one_of_five (kind_of (recorded_as e.outcome)) in
    let y = tally_total es in
    omega arith
