-- Runs with scores that aren't numbers: the first score, the second of three, and all. Definitions only.
use Rattle.std.specs.Prelude.{false, List, [], ◌∷◌, ◌++◌, ℕ, Float}
use Rattle.common.specs.declared.Refusal.TheVariants.{NothingScored}
use Rattle.score.specs.declared.outcome.SkipReason.TheVariants.{NoNumber}
use Rattle.score.specs.declared.outcome.Finding.TheVariants.{Solved}
use Rattle.score.specs.declared.best.Candidate.{Candidate}
use Rattle.search.specs.declared.run.Run.{Run}
use Rattle.search.specs.Start.{opening_of}
use Rattle.book.specs.Calls.{Call, next, ask, Reply, candidate, over, scored, skipped, result, refused}
use Rattle.book.specs.Book.{Inputs}
use Rattle.book.specs.Theorem.{options_of}
use Rattle.cases.specs.Numbers.{bits, quarter, far}
use Rattle.cases.specs.Words.{f0, f1, f50, f100, pinhole, centre, solved_with, seen_at, in_front, turn}

-- three typed x tilts, 0, 0.25 and −0.25, and no later round
abbrev pub lost_inputs : Inputs
lost_inputs = record {
  views = 3;
  rounds = 0;
  step = f0;
  max = quarter;
  one_axis = false;
  share = 0;
  xs = f0 ∷ quarter ∷ bits 0xbfd0_0000_0000_0000 ∷ [];
  ys = f0 ∷ [];
  decomposition = [];
  base = pinhole;
  center = centre;
}

-- a camera whose centre lies at 2^600, where the point was seen too: the mean is 0, but the square in the centre
-- penalty overflows, and 0 times infinity is NaN
abbrev lost : List Call
lost = turn 54 (Solved (record {
  k = record { fx = f100; fy = f100; cx = far; cy = f50 };
  dist = record { k1 = f0; k2 = f0; k3 = f0; p1 = f0; p2 = f0 };
})) (f0 ∷ f0 ∷ far ∷ f50 ∷ []) in_front

-- a point that is seen one pixel from its projection, and one that is seen two pixels from it
abbrev near : List Call
near = turn 54 (solved_with f100 f0) (seen_at (bits 0x4049_8000_0000_0000)) in_front

abbrev farther : List Call
farther = turn 54 (solved_with f100 f0) (seen_at (bits 0x404a_0000_0000_0000)) in_front

abbrev winner : ℕ → Float → Float → Float → Candidate
winner n x mean score = record {
  number = n;
  camera = record { k = pinhole; dist = record { k1 = f0; k2 = f0; k3 = f0; p1 = f0; p2 = f0 } };
  sensor = record { tilt_x = x; tilt_y = f0 };
  mean_reproj_error = mean;
  score = score;
}

-- ---- the first score is NaN: the second candidate, with 1 + 0.25 × 0.25², wins before the third, with 2 + 0.25 ×
-- 0.25²
abbrev pub first_calls : List Call
first_calls = lost ++ near ++ farther ++ (next 54 ∷ ask ∷ [])

abbrev pub first_replies : List Reply
first_replies =
    candidate 0 ∷ skipped NoNumber ∷ candidate 1 ∷ scored (bits 0x3ff0_4000_0000_0000) ∷ candidate 2 ∷ scored (bits 0x4000_2000_0000_0000)
    ∷ over ∷ result (winner 1 quarter f1 (bits 0x3ff0_4000_0000_0000)) ∷ []

-- ---- the second score is NaN: the round goes on, and the third candidate wins
abbrev pub between_calls : List Call
between_calls = farther ++ lost ++ near ++ (next 54 ∷ ask ∷ [])

abbrev pub between_replies : List Reply
between_replies =
    candidate 0 ∷ scored (bits 0x4000_0000_0000_0000) ∷ candidate 1 ∷ skipped NoNumber ∷ candidate 2 ∷ scored (bits 0x3ff0_4000_0000_0000)
    ∷ over ∷ result (winner 2 (bits 0xbfd0_0000_0000_0000) f1 (bits 0x3ff0_4000_0000_0000)) ∷ []

-- ---- an observed centre at infinity makes every score NaN: two later rounds are asked for, but the run is over after
-- round 0
abbrev pub all_lost_inputs : Inputs
all_lost_inputs = record {
  views = 3;
  rounds = 2;
  step = bits 0x3fc0_0000_0000_0000;
  max = quarter;
  one_axis = false;
  share = 0;
  xs = f0 ∷ bits 0xbfd0_0000_0000_0000 ∷ [];
  ys = f0 ∷ [];
  decomposition = [];
  base = pinhole;
  center = record { x = bits 0x7ff0_0000_0000_0000; y = f50 };
}

abbrev pub all_lost_run : Run
all_lost_run = opening_of (options_of all_lost_inputs) (record { x = bits 0x7ff0_0000_0000_0000; y = f50 }) 54 2

abbrev pub all_lost_calls : List Call
all_lost_calls = near ++ farther ++ (next 54 ∷ ask ∷ [])

abbrev pub all_lost_replies : List Reply
all_lost_replies = candidate 0 ∷ skipped NoNumber ∷ candidate 1 ∷ skipped NoNumber ∷ refused NothingScored ∷ refused NothingScored ∷ []
