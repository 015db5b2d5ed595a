-- The counts of lines in a row, and that each outcome a line can record is of one of the five kinds. Assumes nothing.
use Rattle.std.specs.Prelude.{◌+◌, ◌≡◌, refl, List, [], ◌∷◌, ◌++◌, Some, None}
use Rattle.std.proofs.Common.{arith}
use Rattle.journal.specs.declared.Counts.{Counts}
use Rattle.journal.specs.declared.Line.{Line}
use Rattle.score.specs.declared.outcome.SkipReason.TheVariants.{HostFailed, BadCamera, NoMean, NoNumber}
use Rattle.journal.specs.Outcome.{Recorded}
use Rattle.journal.specs.Counts.{Kind, kind_of, one_if_of_kind, count_in, counts_in, with_count}
use Rattle.journal.specs.Report.{total}

pub count_append : (k : Kind) (ls ms : List Line) → count_in k (ls ++ ms) ≡ count_in k ls + count_in k ms
unfolding count_in
count_append k [] ms = omega arith
count_append k (l ∷ ls) ms = omega (arith, count_append k ls ms)

-- a line more is one more of its kind
pub count_snoc : (k : Kind) (ls : List Line) (l : Line) → count_in k (ls ++ l ∷ []) ≡ count_in k ls + one_if_of_kind k (kind_of l.outcome)
unfolding count_in
count_snoc k ls l = omega (arith, count_append k ls (l ∷ []))

pub counts_snoc : (ls : List Line) (l : Line) → counts_in (ls ++ l ∷ []) ≡ with_count (counts_in ls) l.outcome
counts_snoc ls l = rw (count_snoc None ls l, count_snoc (Some HostFailed) ls l, count_snoc (Some BadCamera) ls l, count_snoc (Some NoMean) ls l, count_snoc (Some NoNumber) ls l)

pub each_kind_is_one_of_five : (k : Kind) → one_if_of_kind None k + one_if_of_kind (Some HostFailed) k + one_if_of_kind (Some BadCamera) k + one_if_of_kind (Some NoMean) k + one_if_of_kind (Some NoNumber) k ≡ 1
each_kind_is_one_of_five None = refl
each_kind_is_one_of_five (Some HostFailed) = refl
each_kind_is_one_of_five (Some BadCamera) = refl
each_kind_is_one_of_five (Some NoMean) = refl
each_kind_is_one_of_five (Some NoNumber) = refl

pub total_with_count : (c : Counts) (o : Recorded) → total (with_count c o) ≡ total c + 1
unfolding total
total_with_count c o = omega (arith, each_kind_is_one_of_five (kind_of o))
