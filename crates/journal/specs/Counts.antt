-- How many candidates were scored and how many skipped for each reason, counted over lines. Definitions only.
use Rattle.std.specs.Prelude.{ℕ, ◌+◌, cond, List, [], ◌∷◌, eqb, Ok, Err, Option, Some, None}
use Rattle.score.specs.declared.outcome.SkipReason.{SkipReason}
use Rattle.score.specs.declared.outcome.SkipReason.TheVariants.{HostFailed, BadCamera, NoMean, NoNumber}
use Rattle.score.specs.Reasons.{reason_number}
use Rattle.journal.specs.declared.Counts.{Counts}
use Rattle.journal.specs.declared.Line.{Line}
use Rattle.journal.specs.Outcome.{Recorded}

-- ---- the kinds: none for scored, else the reason
abbrev pub Kind : Type 0
Kind = Option SkipReason

abbrev pub kind_of : Recorded → Kind
kind_of (Ok f) = None
kind_of (Err reason) = Some reason

abbrev pub kind_number : Kind → ℕ
kind_number None = 0
kind_number (Some reason) = reason_number reason

-- 1 if a kind is k, else 0
abbrev pub one_if_of_kind : Kind → Kind → ℕ
one_if_of_kind k kind = cond (eqb (kind_number kind) (kind_number k)) 1 0

-- how many of some lines are of kind k
unfoldable pub count_in : Kind → List Line → ℕ
count_in k [] = 0
count_in k (l ∷ ls) = one_if_of_kind k (kind_of l.outcome) + count_in k ls

-- ---- the five counts
abbrev pub counts_in : List Line → Counts
counts_in ls = record { scored = count_in None ls; host_failed = count_in (Some HostFailed) ls; bad_camera = count_in (Some BadCamera) ls; no_mean = count_in (Some NoMean) ls; no_number = count_in (Some NoNumber) ls }

abbrev pub no_counts : Counts
no_counts = record { scored = 0; host_failed = 0; bad_camera = 0; no_mean = 0; no_number = 0 }

-- one more of the kind that a line records
abbrev pub with_count : Counts → Recorded → Counts
with_count c o =
    let k = kind_of o in
    record {
      scored = c.scored + one_if_of_kind None k;
      host_failed = c.host_failed + one_if_of_kind (Some HostFailed) k;
      bad_camera = c.bad_camera + one_if_of_kind (Some BadCamera) k;
      no_mean = c.no_mean + one_if_of_kind (Some NoMean) k;
      no_number = c.no_number + one_if_of_kind (Some NoNumber) k;
    }
