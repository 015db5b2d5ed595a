-- Two runs without a winner: in one, round 0 is empty; in the other, nothing is scored. Definitions only.
use Rattle.std.specs.Prelude.{false, List, [], ◌∷◌, ◌++◌}
use Rattle.common.specs.declared.Refusal.TheVariants.{ListShortened, NothingScored, NoSeedWaiting}
use Rattle.score.specs.declared.outcome.SkipReason.TheVariants.{HostFailed}
use Rattle.score.specs.declared.outcome.Finding.TheVariants.{Failed}
use Rattle.book.specs.Calls.{Call, next, seed, answer, ask, Reply, candidate, part, skipped, refused}
use Rattle.book.specs.Book.{Inputs}
use Rattle.cases.specs.Numbers.{bits, quarter}
use Rattle.cases.specs.Words.{f0, pinhole, centre, failed}

-- the one typed tilt, 0.5, is beyond the bound, 0.25
abbrev pub empty_inputs : Inputs
empty_inputs = record {
  views = 3;
  rounds = 2;
  step = bits 0x3fc0_0000_0000_0000;
  max = quarter;
  one_axis = false;
  share = 0;
  xs = bits 0x3fe0_0000_0000_0000 ∷ [];
  ys = f0 ∷ [];
  decomposition = [];
  base = pinhole;
  center = centre;
}

abbrev pub empty_calls : List Call
empty_calls = next 53 ∷ next 54 ∷ seed 54 ∷ answer 54 Failed [] [] ∷ ask ∷ []

abbrev pub empty_replies : List Reply
empty_replies = refused ListShortened ∷ refused NothingScored ∷ part [] ∷ refused NoSeedWaiting ∷ refused NothingScored ∷ []

-- two typed x tilts; the host fails at both
abbrev pub failed_inputs : Inputs
failed_inputs = record {
  views = 3;
  rounds = 2;
  step = bits 0x3fc0_0000_0000_0000;
  max = quarter;
  one_axis = false;
  share = 0;
  xs = f0 ∷ bits 0xbfd0_0000_0000_0000 ∷ [];
  ys = f0 ∷ [];
  decomposition = [];
  base = pinhole;
  center = centre;
}

abbrev pub failed_calls : List Call
failed_calls = failed 54 ++ failed 54 ++ (next 54 ∷ ask ∷ [])

abbrev pub failed_replies : List Reply
failed_replies = candidate 0 ∷ skipped HostFailed ∷ candidate 1 ∷ skipped HostFailed ∷ refused NothingScored ∷ refused NothingScored ∷ []
