-- A run through three rounds, with decomposition and grid seeds, a merged seed, a seed beyond the bound, equal scores,
-- a round that scores nothing, skip reasons 1, 2 and 3, a scored candidate with a tangential coefficient, refused calls
-- in between, and the counts while a seed waits and at the end. Definitions only.
use Rattle.std.specs.Prelude.{false, List, [], ◌∷◌, ◌++◌, Float}
use Rattle.common.specs.declared.Refusal.TheVariants.{SeedWaiting, ListShortened, NoSeedWaiting, BadRows, NotOver}
use Rattle.score.specs.declared.outcome.SkipReason.TheVariants.{HostFailed, BadCamera, NoMean}
use Rattle.score.specs.declared.outcome.Finding.TheVariants.{Failed}
use Rattle.score.specs.declared.best.Candidate.{Candidate}
use Rattle.journal.specs.Counts.{no_counts}
use Rattle.search.specs.declared.run.Run.{Run}
use Rattle.search.specs.Start.{opening_of}
use Rattle.book.specs.Calls.{Call, next, seed, answer, ask, Reply, candidate, over, part, scored, skipped, result, refused, counts, counted}
use Rattle.book.specs.Book.{Inputs}
use Rattle.book.specs.Theorem.{options_of}
use Rattle.cases.specs.Numbers.{bits, quarter, half}
use Rattle.cases.specs.Words.{f0, f1, f50, f100, pinhole, centre, solved_with, seen_at, in_front, turn, failed}

-- the decomposition has the same seed twice, without tilt; of the typed x tilts 0.25 and 0.5 the second is beyond the
-- bound
abbrev pub whole_inputs : Inputs
whole_inputs = record {
  views = 3;
  rounds = 2;
  step = bits 0x3fc0_0000_0000_0000;
  max = quarter;
  one_axis = false;
  share = 0;
  xs = quarter ∷ half ∷ [];
  ys = f0 ∷ [];
  decomposition = f100 ∷ f100 ∷ f50 ∷ f50 ∷ f0 ∷ f0 ∷ f100 ∷ f100 ∷ f50 ∷ f50 ∷ f0 ∷ f0 ∷ [];
  base = pinhole;
  center = centre;
}

-- the run that Start opens: two seeds in round 0, and a demand of 54 numbers
abbrev pub whole_run : Run
whole_run = opening_of (options_of whole_inputs) centre 54 2

-- ---- round 0: the demand is 54 numbers; the two seeds score 2 and 1.984375 + 0.015625, which is 2
abbrev round_zero : List Call
round_zero =
    ask ∷ seed 54 ∷ answer 54 Failed [] [] ∷ next 53
    ∷ next 54 ∷ next 54 ∷ seed 53 ∷ seed 54
    ∷ answer 53 Failed [] []
    ∷ answer 54 (solved_with f100 f0) [] (1 ∷ [])
    ∷ answer 54 (solved_with f100 f0) (seen_at f50) (2 ∷ [])
    ∷ counts
    ∷ answer 54 (solved_with f100 f0) (seen_at (bits 0x404a_0000_0000_0000)) in_front
    ∷ next 54
    ∷ answer 54 (solved_with f100 f0) (seen_at (bits 0x4049_fe00_0000_0000)) in_front
    ∷ []

abbrev round_zero_replies : List Reply
round_zero_replies =
    refused NotOver ∷ part [] ∷ refused NoSeedWaiting ∷ refused ListShortened
    ∷ candidate 0 ∷ refused SeedWaiting ∷ part [] ∷ part (f100 ∷ f100 ∷ f50 ∷ f50 ∷ f0 ∷ f0 ∷ [])
    ∷ refused ListShortened ∷ refused BadRows ∷ refused BadRows ∷ counted no_counts
    ∷ scored (bits 0x4000_0000_0000_0000) ∷ candidate 1 ∷ scored (bits 0x4000_0000_0000_0000) ∷ []

-- ---- round 1, around (0, 0) with step 0.125: the host fails, a focal length is 0, no row counts, and the host fails
-- at the rest
abbrev round_one : List Call
round_one =
    failed 54 ++ turn 54 (solved_with f0 f0) [] [] ++ turn 54 (solved_with f100 f0) (seen_at f50) (0 ∷ [])
    ++ failed 54 ++ failed 54 ++ failed 54 ++ failed 54 ++ failed 54 ++ failed 54

abbrev round_one_replies : List Reply
round_one_replies =
    candidate 2 ∷ skipped HostFailed ∷ candidate 3 ∷ skipped BadCamera ∷ candidate 4 ∷ skipped NoMean
    ∷ candidate 5 ∷ skipped HostFailed ∷ candidate 6 ∷ skipped HostFailed ∷ candidate 7 ∷ skipped HostFailed ∷ candidate 8 ∷ skipped HostFailed ∷ candidate 9 ∷ skipped HostFailed ∷ candidate 10 ∷ skipped HostFailed ∷ []

-- ---- round 2, around the run's best, which is still (0, 0), with step 0.0625: the first seed is (-0.0625, -0.0625);
-- its p1 = 0.1 is damped to 0.05, and its score is 1 + 0.25 × 0.05² + 0.25 × 2 × 0.0625², rounded
abbrev round_two : List Call
round_two =
    (next 54 ∷ seed 54 ∷ counts ∷ answer 54 (solved_with f100 (bits 0x3fb9_9999_9999_999a)) (seen_at (bits 0x4049_8000_0000_0000)) in_front ∷ [])
    ++ failed 54 ++ failed 54 ++ failed 54 ++ failed 54 ++ failed 54 ++ failed 54 ++ failed 54 ++ failed 54
    ++ (next 54 ∷ answer 54 Failed [] [] ∷ ask ∷ counts ∷ [])

abbrev small : Float
small = bits 0xbfb0_0000_0000_0000

abbrev best : Float
best = bits 0x3ff0_0a8f_5c28_f5c3

-- the twelfth candidate wins, which is number 11
abbrev pub whole_winner : Candidate
whole_winner = record {
  number = 11;
  camera = record { k = pinhole; dist = record { k1 = f0; k2 = f0; k3 = f0; p1 = bits 0x3fa9_9999_9999_999a; p2 = f0 } };
  sensor = record { tilt_x = small; tilt_y = small };
  mean_reproj_error = f1;
  score = best;
}

abbrev round_two_replies : List Reply
round_two_replies =
    candidate 11 ∷ part (f100 ∷ f100 ∷ f50 ∷ f50 ∷ small ∷ small ∷ [])
    ∷ counted (record { scored = 2; host_failed = 7; bad_camera = 1; no_mean = 1; no_number = 0 }) ∷ scored best
    ∷ candidate 12 ∷ skipped HostFailed ∷ candidate 13 ∷ skipped HostFailed ∷ candidate 14 ∷ skipped HostFailed ∷ candidate 15 ∷ skipped HostFailed
    ∷ candidate 16 ∷ skipped HostFailed ∷ candidate 17 ∷ skipped HostFailed ∷ candidate 18 ∷ skipped HostFailed ∷ candidate 19 ∷ skipped HostFailed
    ∷ over ∷ refused NoSeedWaiting ∷ result whole_winner
    ∷ counted (record { scored = 3; host_failed = 15; bad_camera = 1; no_mean = 1; no_number = 0 }) ∷ []

abbrev pub whole_calls : List Call
whole_calls = round_zero ++ round_one ++ round_two

abbrev pub whole_replies : List Reply
whole_replies = round_zero_replies ++ round_one_replies ++ round_two_replies
