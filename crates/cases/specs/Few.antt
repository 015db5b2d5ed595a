-- Runs with a share of counted rows: one of three rows is enough for 33 per cent and not for 34. Definitions only.
use Rattle.std.specs.Prelude.{ℕ, false, List, [], ◌∷◌, ◌++◌, Float}
use Rattle.common.specs.declared.Refusal.TheVariants.{NothingScored}
use Rattle.score.specs.declared.outcome.SkipReason.TheVariants.{NoMean, NoNumber}
use Rattle.score.specs.declared.outcome.Finding.TheVariants.{Solved}
use Rattle.book.specs.Calls.{Call, next, ask, Reply, candidate, over, scored, skipped, result, refused, counts, counted}
use Rattle.book.specs.Book.{Inputs}
use Rattle.cases.specs.Numbers.{bits, quarter, far}
use Rattle.cases.specs.Words.{f0, f1, f50, f100, pinhole, centre, solved_with, seen_at, turn}

-- three typed x tilts, 0, 0.25 and −0.25, and no later round
abbrev pub few_inputs : ℕ → Inputs
few_inputs share = record {
  views = 3;
  rounds = 0;
  step = f0;
  max = quarter;
  one_axis = false;
  share = share;
  xs = f0 ∷ quarter ∷ bits 0xbfd0_0000_0000_0000 ∷ [];
  ys = f0 ∷ [];
  decomposition = [];
  base = pinhole;
  center = centre;
}

-- of three rows the first counts, with an error of 1; the second lies behind the camera, and the third was seen at infinity
abbrev one_of_three : List Float → List Float
one_of_three row = row ++ row ++ seen_at (bits 0x7ff0_0000_0000_0000)

abbrev flags : List ℕ
flags = 1 ∷ 0 ∷ 1 ∷ []

-- ---- the calls: such an answer; an answer without rows; and one whose score is NaN, since the camera's centre lies at
-- 2^600, where the counted point was seen too
abbrev pub few_calls : List Call
few_calls =
    turn 54 (solved_with f100 f0) (one_of_three (seen_at (bits 0x4049_8000_0000_0000))) flags
    ++ turn 54 (solved_with f100 f0) [] []
    ++ turn 54 (Solved (record { k = record { fx = f100; fy = f100; cx = far; cy = f50 }; dist = record { k1 = f0; k2 = f0; k3 = f0; p1 = f0; p2 = f0 } })) (one_of_three (f0 ∷ f0 ∷ far ∷ f50 ∷ [])) flags
    ++ (next 54 ∷ ask ∷ counts ∷ [])

-- 33 per cent: the first answer is scored; the second has no mean; the score of the third is NaN, which is reason 4
abbrev pub enough_replies : List Reply
enough_replies =
    candidate 0 ∷ scored f1 ∷ candidate 1 ∷ skipped NoMean ∷ candidate 2 ∷ skipped NoNumber ∷ over
    ∷ result (record {
      number = 0;
      camera = record { k = pinhole; dist = record { k1 = f0; k2 = f0; k3 = f0; p1 = f0; p2 = f0 } };
      sensor = record { tilt_x = f0; tilt_y = f0 };
      mean_reproj_error = f1;
      score = f1;
    })
    ∷ counted (record { scored = 1; host_failed = 0; bad_camera = 0; no_mean = 1; no_number = 1 }) ∷ []

-- 34 per cent: all three are skipped with reason 3, also the one with the NaN
abbrev pub few_replies : List Reply
few_replies =
    candidate 0 ∷ skipped NoMean ∷ candidate 1 ∷ skipped NoMean ∷ candidate 2 ∷ skipped NoMean ∷ refused NothingScored ∷ refused NothingScored
    ∷ counted (record { scored = 0; host_failed = 0; bad_camera = 0; no_mean = 3; no_number = 0 }) ∷ []
