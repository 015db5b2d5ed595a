-- Start, as a function of its inputs and the lent list: refusals in their order, then round 0's list and the run. Definitions only.
use Rattle.std.specs.Prelude.{ℕ, ◌+◌, ◌*◌, ◌/◌, ◌%◌, Bool, not, ◌&&◌, ◌||◌, cond, List, [], ◌∷◌, ◌++◌, ltb, eqb, length, get_or, Float, Result, Ok, Err, ⊤}
use Rattle.std.specs.Float.{nan}
use Rattle.std.specs.Float.Ieee.{lt, eq}
use Rattle.common.specs.Each.{every}
use Rattle.common.specs.Checks.{Check, ◌when◌, first_refusal}
use Rattle.common.specs.declared.Refusal.{Refusal}
use Rattle.common.specs.declared.Refusal.TheVariants.{TooFewViews, NoTilts, BadBound, BadStep, TooMany, BadSeed, TiltNotFinite, ListTooShort, TiltTooLarge, TiltsOffAxis, SeedOffAxis, ShareTooLarge}
use Rattle.float.specs.Float.{is_finite}
use Rattle.float.specs.Literals.{plus_zero, half₆₄}
use Rattle.camera.specs.declared.math.Pt2.{Pt2}
use Rattle.camera.specs.declared.intrinsics.FxFyCxCy.{FxFyCxCy}
use Rattle.seeds.specs.declared.CandidateSeed.{CandidateSeed}
use Rattle.seeds.specs.Rules.{in_bound, untilted_y, initial_list}
use Rattle.seeds.specs.Layout.{all_seeds, written}
use Rattle.score.specs.Best.{no_best}
use Rattle.journal.specs.Counts.{no_counts}
use Rattle.search.specs.Record.{no_waiting_seed, no_answer}
use Rattle.search.specs.declared.run.Options.{Options}
use Rattle.search.specs.declared.run.Run.{Run}

-- a number, and above 0
abbrev pub positive : Float → Bool
positive x = is_finite x && lt plus_zero x

-- a decomposition seed that is not refused: finite numbers, focal lengths above 0, tilts within the bound
unfoldable pub good_seed : Float → CandidateSeed → Bool
good_seed max s =
    let k = s.reference_k in
    positive k.fx
    && positive k.fy
    && is_finite k.cx
    && is_finite k.cy
    && is_finite s.sensor.tilt_x
    && is_finite s.sensor.tilt_y
    && in_bound max s.sensor

-- the typed y tilts of a one-axis run are a single value, a zero of either sign
unfoldable pub only_zero : List Float → Bool
only_zero ys = eqb (length ys) 1 && eq (get_or ys 0 nan) plus_zero

abbrev pub untilted_seed : CandidateSeed → Bool
untilted_seed s = untilted_y s.sensor

-- more seeds or rounds than a run can have, or a decomposition that isn't in sixes
unfoldable pub too_many : ℕ → ℕ → ℕ → ℕ → Bool
too_many x y d rounds = ltb 16 x || ltb 16 y || ltb 256 (d / 6) || ltb 16 rounds || not (eqb (d % 6) 0)

-- what the lent list must hold: a later round's nine seeds, and every seed that round 0 can have
unfoldable pub demand_of : ℕ → ℕ → ℕ → ℕ
demand_of d x y = let n = 6 * (d + x * y) in cond (ltb n 54) 54 n

-- an accepted run, with n seeds in round 0's list; it is over at once where there are none
unfoldable pub opening_of : Options → Pt2 → ℕ → ℕ → Run
opening_of options center demand n = record {
  options = options;
  center = center;
  place = record { demand = demand; round = 0; step = plus_zero; len = n; at = 0; number = 0; over = eqb n 0 };
  waiting = no_waiting_seed;
  round_best = no_best;
  run_best = no_best;
  last = no_answer;
  counts = no_counts;
}

-- The refusals in their order: those that need only the options and the lengths of the lists; those that need the
-- lists' numbers or the lent list; a bound above 0.5; typed y tilts or a decomposition seed that a one-axis run can't
-- have; and a share above 100 per cent.
abbrev pub options_checks : ℕ → Options → ℕ → ℕ → ℕ → List Check
options_checks views options x y d =
    (TooFewViews when ltb views 3)
    ∷ (NoTilts when (eqb x 0 || eqb y 0))
    ∷ (BadBound when not (positive options.max_abs_tilt))
    ∷ (BadStep when (ltb 0 options.refine_rounds && not (positive options.refine_step)))
    ∷ (TooMany when too_many x y d options.refine_rounds)
    ∷ []

abbrev pub last_checks : Options → List Float → List Float → List Check
last_checks options ys decomposition =
    (TiltsOffAxis when (options.one_axis && not (only_zero ys)))
    ∷ (SeedOffAxis when (options.one_axis && not (every untilted_seed (all_seeds decomposition))))
    ∷ (ShareTooLarge when ltb 100 options.min_counted)
    ∷ []

abbrev pub further_checks : Options → List Float → List Float → List Check
further_checks options ys decomposition = (TiltTooLarge when lt half₆₄ options.max_abs_tilt) ∷ last_checks options ys decomposition

-- The inputs are the parameters of these parts; n is how many numbers the lent list has.
module _ (views : ℕ) (options : Options) (xs ys decomposition : List Float) where
  abbrev pub start_demand : ℕ
  start_demand = demand_of (length decomposition / 6) (length xs) (length ys)

  abbrev pub lists_checks : ℕ → List Check
  lists_checks n =
      (BadSeed when not (every (good_seed options.max_abs_tilt) (all_seeds decomposition)))
      ∷ (TiltNotFinite when not (every is_finite xs && every is_finite ys))
      ∷ (ListTooShort when ltb n start_demand)
      ∷ further_checks options ys decomposition

  abbrev pub start_checks : ℕ → List Check
  start_checks n = options_checks views options (length xs) (length ys) (length decomposition) ++ lists_checks n

  abbrev pub start_refusal : ℕ → Result ⊤ Refusal
  start_refusal n = first_refusal (start_checks n)

module _ (views : ℕ) (options : Options) (xs ys decomposition : List Float) (base : FxFyCxCy) (center : Pt2) where
  abbrev pub start_seeds : List CandidateSeed
  start_seeds = initial_list (all_seeds decomposition) xs ys base options.max_abs_tilt

  abbrev pub opening : ℕ → Run
  opening n = opening_of options center (start_demand views options xs ys decomposition) n

  -- a refused Start leaves the list
  unfoldable pub start_reply : List Float → Result Run Refusal
  start_reply l = elim (start_refusal views options xs ys decomposition (length l)) [
    | Ok _ ↦ Ok (opening (length start_seeds))
    | Err refusal ↦ Err refusal
  ]

  unfoldable pub start_list : List Float → List Float
  start_list l = elim (start_refusal views options xs ys decomposition (length l)) [
    | Ok _ ↦ written start_seeds l
    | Err refusal ↦ l
  ]
