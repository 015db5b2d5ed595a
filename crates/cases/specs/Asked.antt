-- A run whose host asks on the way how far it has come and what could still be gained: before the first answer, while a
-- seed waits, where the floor equals the best's score, in the middle of a later round, after the end, and with a list
-- that is too short. Definitions only.
use Rattle.std.specs.Prelude.{true, false, List, [], ◌∷◌, ◌++◌, Float}
use Rattle.common.specs.declared.Refusal.TheVariants.{ListShortened}
use Rattle.score.specs.declared.outcome.SkipReason.TheVariants.{HostFailed}
use Rattle.score.specs.declared.best.Candidate.{Candidate}
use Rattle.score.specs.Best.{nothing, chosen}
use Rattle.book.specs.Calls.{Call, next, answer, ask, progress, stop, nothing_left, floor, Reply, candidate, scored, skipped, result, bar, stopped, refused}
use Rattle.book.specs.Book.{Inputs}
use Rattle.cases.specs.Numbers.{bits, eighth, quarter}
use Rattle.cases.specs.Words.{f0, pinhole, centre, f100, solved_with, seen_at, in_front, failed}

-- 1 / 64, the tilt penalty of (0.25, 0)
abbrev sixty_fourth : Float
sixty_fourth = bits 0x3f90_0000_0000_0000

abbrev pub asked_inputs : Inputs
asked_inputs = record {
  views = 3;
  rounds = 1;
  step = eighth;
  max = quarter;
  one_axis = false;
  share = 0;
  xs = f0 ∷ quarter ∷ [];
  ys = f0 ∷ [];
  decomposition = [];
  base = pinhole;
  center = centre;
}

-- ---- round 0: (0, 0) scores 1 / 64, which is also the floor of the seed that is left
abbrev best : Candidate
best = record {
  number = 0;
  camera = record { k = pinhole; dist = record { k1 = f0; k2 = f0; k3 = f0; p1 = f0; p2 = f0 } };
  sensor = record { tilt_x = f0; tilt_y = f0 };
  mean_reproj_error = sixty_fourth;
  score = sixty_fourth;
}

abbrev round_zero : List Call
round_zero =
    progress ∷ stop 53 ∷ stop 54
    ∷ next 54 ∷ stop 54 ∷ answer 54 (solved_with f100 f0) (seen_at (bits 0x4049_0200_0000_0000)) in_front
    ∷ progress ∷ stop 54 ∷ []

abbrev round_zero_replies : List Reply
round_zero_replies =
    bar (record { round = 0; rounds = 1; answered = 0; total = 2; in_run = 0 }) ∷ refused ListShortened ∷ stopped nothing (floor f0 false)
    ∷ candidate 0 ∷ stopped nothing (floor f0 false) ∷ scored sixty_fourth
    ∷ bar (record { round = 0; rounds = 1; answered = 1; total = 2; in_run = 1 }) ∷ stopped (chosen best) (floor sixty_fourth true) ∷ []

-- ---- round 1, around (0, 0) with step 0.125, has nine seeds; of the last four the lowest penalty is 1 / 256
abbrev round_one : List Call
round_one =
    failed 54 ++ (progress ∷ stop 54 ∷ []) ++ failed 54 ++ failed 54 ++ failed 54 ++ failed 54 ++ failed 54
    ++ (stop 54 ∷ []) ++ failed 54 ++ failed 54 ++ failed 54 ++ failed 54 ++ (progress ∷ stop 54 ∷ stop 53 ∷ ask ∷ [])

abbrev round_one_replies : List Reply
round_one_replies =
    candidate 1 ∷ skipped HostFailed ∷ bar (record { round = 1; rounds = 1; answered = 0; total = 9; in_run = 2 }) ∷ stopped (chosen best) (floor f0 false)
    ∷ candidate 2 ∷ skipped HostFailed ∷ candidate 3 ∷ skipped HostFailed ∷ candidate 4 ∷ skipped HostFailed ∷ candidate 5 ∷ skipped HostFailed ∷ candidate 6 ∷ skipped HostFailed
    ∷ stopped (chosen best) (floor (bits 0x3f70_0000_0000_0000) false)
    ∷ candidate 7 ∷ skipped HostFailed ∷ candidate 8 ∷ skipped HostFailed ∷ candidate 9 ∷ skipped HostFailed ∷ candidate 10 ∷ skipped HostFailed
    ∷ bar (record { round = 1; rounds = 1; answered = 9; total = 9; in_run = 11 }) ∷ stopped (chosen best) nothing_left ∷ refused ListShortened ∷ result best ∷ []

abbrev pub asked_calls : List Call
asked_calls = round_zero ++ round_one

abbrev pub asked_replies : List Reply
asked_replies = round_zero_replies ++ round_one_replies
