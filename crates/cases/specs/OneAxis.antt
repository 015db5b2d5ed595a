-- One-axis runs: what Start refuses of them, a later list whose step is too small to tell seeds apart, and a run
-- through three rounds. Assumes nothing.
use Rattle.std.specs.Prelude.{ℕ, ◌≡◌, refl, Bool, true, false, List, [], ◌∷◌, ◌++◌, length, Float, Result, Ok, Err, ⊤}
use Rattle.common.specs.declared.Refusal.{Refusal}
use Rattle.common.specs.declared.Refusal.TheVariants.{NoTilts, BadSeed, TiltNotFinite, TiltTooLarge, TiltsOffAxis, SeedOffAxis}
use Rattle.score.specs.declared.outcome.SkipReason.TheVariants.{HostFailed}
use Rattle.std.specs.Float.Ieee.{of_bits, add, sub, neg, lt, le, eq}
use Rattle.common.specs.Each.{All, every}
use Rattle.float.specs.Float.{abs_of, is_finite, within}
use Rattle.seeds.specs.Merge.{keep, has_near, push, merged_into}
use Rattle.seeds.specs.Rules.{closer, tilt_near, camera_near, near, in_bound, untilted_y, tilts, pairs, seed_with, offsets, y_offsets, next_list}
use Rattle.seeds.specs.Layout.{read_from}
use Rattle.score.specs.declared.best.Candidate.{Candidate}
use Rattle.search.specs.declared.run.Run.{Run}
use Rattle.search.specs.Start.{good_seed, only_zero, too_many, demand_of, opening_of, start_refusal}
use Rattle.book.specs.Calls.{Call, next, seed, answer, ask, Reply, candidate, over, part, scored, skipped, result}
use Rattle.book.specs.Book.{Inputs}
use Rattle.book.specs.Theorem.{options_of}
use Rattle.cases.specs.Numbers.{bits, eighth, quarter}
use Rattle.cases.specs.Words.{f0, f1, f50, f100, pinhole, centre, solved_with, seen_at, in_front, failed, sixty}

-- 0.0625, −0
abbrev sixteenth : Float
sixteenth = bits 0x3fb0_0000_0000_0000

abbrev pub minus_zero : Float
minus_zero = bits 0x8000_0000_0000_0000

-- a run with the bound max, the typed x tilt 0.25, the typed y tilts ys and the decomposition ds
abbrev inputs_with : Bool → Float → List Float → List Float → Inputs
inputs_with one_axis max ys ds = record {
  views = 3;
  rounds = 2;
  step = eighth;
  max = max;
  one_axis = one_axis;
  share = 0;
  xs = quarter ∷ [];
  ys = ys;
  decomposition = ds;
  base = pinhole;
  center = centre;
}

-- a decomposition of one seed with the tilt_y y
abbrev decomposed : Float → List Float
decomposed y = f100 ∷ f100 ∷ f50 ∷ f50 ∷ f0 ∷ y ∷ []

-- ---- what Start refuses, and where it accepts
pub record Row : Type 0 where
  pub inputs : Inputs
  pub refusal : Result ⊤ Refusal

abbrev pub row : Inputs → Result ⊤ Refusal → Row
row i r = record { inputs = i; refusal = r }

abbrev pub Gives : Row → Type 0
Gives r = let i = r.inputs in start_refusal i.views (options_of i) i.xs i.ys i.decomposition (length sixty) ≡ r.refusal

-- NaN, 0.75
abbrev not_number : Float
not_number = bits 0x7ff8_0000_0000_0000

abbrev high : Float
high = bits 0x3fe8_0000_0000_0000

abbrev pub starts : List Row
starts =
    -- of typed y tilts: a single 0 of either sign is accepted, and nothing else
    row (inputs_with true quarter (f0 ∷ []) []) (Ok tt)
    ∷ row (inputs_with true quarter (minus_zero ∷ []) []) (Ok tt)
    ∷ row (inputs_with true quarter (f0 ∷ f0 ∷ []) []) (Err TiltsOffAxis)
    ∷ row (inputs_with true quarter (eighth ∷ []) []) (Err TiltsOffAxis)
    -- of decomposition seeds: a tilt_y of 0 is accepted, and nothing else
    ∷ row (inputs_with true quarter (f0 ∷ []) (decomposed minus_zero)) (Ok tt)
    ∷ row (inputs_with true quarter (f0 ∷ []) (decomposed eighth)) (Err SeedOffAxis)
    ∷ row (inputs_with true quarter (f0 ∷ []) (decomposed f0 ++ decomposed (neg eighth))) (Err SeedOffAxis)
    -- of several refusals the first: 2, 6, 7, 27, 31, each before 32
    ∷ row (inputs_with true high [] (decomposed f1)) (Err NoTilts)
    ∷ row (inputs_with true high (not_number ∷ []) (decomposed f1)) (Err BadSeed)
    ∷ row (inputs_with true high (not_number ∷ []) (decomposed eighth)) (Err TiltNotFinite)
    ∷ row (inputs_with true high (eighth ∷ []) (decomposed eighth)) (Err TiltTooLarge)
    ∷ row (inputs_with true quarter (eighth ∷ []) (decomposed eighth)) (Err TiltsOffAxis)
    -- a two-axis run is refused for none of these
    ∷ row (inputs_with false quarter (eighth ∷ f0 ∷ []) (decomposed eighth)) (Ok tt)
    ∷ []

pub starts_so : All Gives starts
unfolding every good_seed only_zero untilted_y too_many demand_of within in_bound read_from abs_of is_finite neg lt le eq of_bits
starts_so = (refl, (refl, (refl, (refl, (refl, (refl, (refl, (refl, (refl, (refl, (refl, (refl, (refl, tt)))))))))))))

-- ---- with a step of 2^-42, below 1e-12, the first of x − s, x, x + s is kept, and −0 about y becomes +0
abbrev pub tiny : Float
tiny = bits 0x3d50_0000_0000_0000

pub merged_to_the_first : next_list (offsets tiny) (y_offsets true tiny) (tilts f0 minus_zero) pinhole quarter ≡ seed_with pinhole (tilts (neg tiny) f0) ∷ []
unfolding next_list offsets y_offsets pairs keep in_bound within merged_into push has_near near tilt_near camera_near closer abs_of add sub neg lt le eq of_bits
merged_to_the_first = refl

-- ---- a run through three rounds whose typed y tilt is −0; each found camera is the base camera, and each point is
-- seen one pixel from its projection
abbrev pub axis_inputs : Inputs
axis_inputs = inputs_with true quarter (minus_zero ∷ []) []

abbrev pub axis_run : Run
axis_run = opening_of (options_of axis_inputs) centre 54 1

-- Next, the seed call and an answer
abbrev shown : List Call
shown = next 54 ∷ seed 54 ∷ answer 54 (solved_with f100 f0) (seen_at (bits 0x4049_8000_0000_0000)) in_front ∷ []

abbrev shown_as : ℕ → Float → Float → Float → List Reply
shown_as n x y score = candidate n ∷ part (f100 ∷ f100 ∷ f50 ∷ f50 ∷ x ∷ y ∷ []) ∷ scored score ∷ []

-- 1 + 0.25 × 0.25², 1 + 0.25 × 0.125², 1 + 0.25 × 0.0625²
abbrev at_quarter : Float
at_quarter = bits 0x3ff0_4000_0000_0000

abbrev at_eighth : Float
at_eighth = bits 0x3ff0_1000_0000_0000

abbrev at_sixteenth : Float
at_sixteenth = bits 0x3ff0_0400_0000_0000

-- Round 0 keeps −0. Round 1, around (0.25, −0) with step 0.125, has two seeds within the bound. Round 2, around (0.125,
-- 0) with step 0.0625, has three.
abbrev pub axis_calls : List Call
axis_calls = shown ++ shown ++ shown ++ shown ++ failed 54 ++ failed 54 ++ (next 54 ∷ ask ∷ [])

abbrev pub axis_winner : Candidate
axis_winner = record {
  number = 3;
  camera = record { k = pinhole; dist = record { k1 = f0; k2 = f0; k3 = f0; p1 = f0; p2 = f0 } };
  sensor = record { tilt_x = sixteenth; tilt_y = f0 };
  mean_reproj_error = f1;
  score = at_sixteenth;
}

abbrev pub axis_replies : List Reply
axis_replies =
    shown_as 0 quarter minus_zero at_quarter
    ++ shown_as 1 eighth f0 at_eighth ++ shown_as 2 quarter f0 at_quarter
    ++ shown_as 3 sixteenth f0 at_sixteenth
    ++ (candidate 4 ∷ skipped HostFailed ∷ candidate 5 ∷ skipped HostFailed ∷ over ∷ result axis_winner ∷ [])
