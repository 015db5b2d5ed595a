-- The theorems of score, as types. The comment on each part names the file that proves it. Definitions only.
use Rattle.std.specs.Prelude.{ℕ, ◌≤◌, List, length, Float, ◌≡◌, true, false, [], Ok, Err, ◌||◌, ◌⊎◌}
use Rattle.camera.specs.Matrix.{Matrix}
use Rattle.score.specs.declared.pinhole.PinholeCamera.{PinholeCamera}
use Rattle.score.specs.Rows.{rows_of, error_sum, tilt_matrix}
use Rattle.camera.specs.declared.math.Pt2.{Pt2}
use Rattle.camera.specs.Sensor.{tilt_verdict}
use Rattle.camera.specs.declared.sensor.ScheimpflugParams.{ScheimpflugParams}
use Rattle.score.specs.Camera.{damped_camera, valid_camera}
use Rattle.score.specs.Evaluation.{enough, enough_with, evaluated, outcome_of, trig_of, finding_refusal}
use Rattle.score.specs.declared.outcome.SolvedCamera.{SolvedCamera}
use Rattle.score.specs.declared.outcome.Scoring.{Scoring}
use Rattle.score.specs.declared.outcome.Finding.{Finding}
use Rattle.score.specs.declared.outcome.Finding.TheVariants.{Failed, Solved}
use Rattle.score.specs.declared.outcome.SkipReason.TheVariants.{HostFailed, NoMean}
use Rattle.score.specs.Facts.{ScoredFacts}
use Rattle.score.specs.Share.{RestsOn, outcome_without_share}
use mathlib.Core.List.{◌∷◌, ◌++◌, map, foldr, Memᴰ}
use Rattle.std.specs.Float.Ieee.{lt, is_nan}
use Rattle.common.specs.Each.{All}
use Rattle.score.specs.declared.best.Candidate.{Candidate}
use Rattle.score.specs.declared.best.Best.{Best}
use Rattle.score.specs.Best.{beats, Chosen, nothing, chosen, best_of, held, is_better, improved}
use Rattle.score.specs.Winners.{winner_of_two, winner_of, joined}
use Rattle.seeds.specs.declared.CandidateSeed.{CandidateSeed}
use Rattle.score.specs.Penalties.{tilt_penalty}
use Rattle.score.specs.Floor.{counted_penalty, floor_of}

-- ---- At most as many errors count as there are flags. `proofs/Counted.antt` proves it.

abbrev pub CountedMost : Type 0
CountedMost = (c : PinholeCamera) (h : Matrix) (ns : List Float) (fs : List ℕ) → (error_sum c h (rows_of ns fs)).count ≤ length fs

-- ---- What holds of every outcome, the share that a mean rests on, and that taken tilts have an inverse.
-- `proofs/Facts.antt`, `Share.antt` and `Invertible.antt` prove them.

pub record OutcomesRight : Type 0 where
  pub scored_facts : (share : ℕ) (f : Finding) (sensor : ScheimpflugParams) (center : Pt2) (rows : List Float) (flags : List ℕ) (g : Scoring)
      → outcome_of share f sensor center rows flags ≡ Ok g → ScoredFacts sensor center g
  -- reason 1 is for Failed alone
  pub skipped_failed : (share : ℕ) (f : Finding) (sensor : ScheimpflugParams) (center : Pt2) (rows : List Float) (flags : List ℕ)
      → outcome_of share f sensor center rows flags ≡ Err HostFailed → f ≡ Failed

pub record ShareRight : Type 0 where
  -- what is scored rests on its share
  pub scored_rests : (share : ℕ) (s : SolvedCamera) (sensor : ScheimpflugParams) (center : Pt2) (rows : List Float) (flags : List ℕ) (g : Scoring)
      → evaluated share s sensor center rows flags ≡ Ok g → RestsOn share s rows flags g.mean
  -- a share of 0 asks for nothing
  pub zero_share : (f : Finding) (sensor : ScheimpflugParams) (center : Pt2) (rows : List Float) (flags : List ℕ) → outcome_of 0 f sensor center rows flags ≡ outcome_without_share f sensor center rows flags
  -- no rows have every share, and no mean
  pub no_rows : (share : ℕ) (s : SolvedCamera) (sensor : ScheimpflugParams) (center : Pt2)
      → valid_camera (damped_camera s.camera) ≡ true → (enough_with share s [] [] ≡ true) × (evaluated share s sensor center [] [] ≡ Err NoMean)
  -- one of three is 33 per cent and not 34; four of nine hundred aren't one, nine are; all are 100 and not 101
  pub one_of_three : (enough 33 1 3 ≡ true) × (enough 34 1 3 ≡ false)
  pub four_of_many : (enough 1 4 900 ≡ false) × (enough 1 9 900 ≡ true)
  pub all_of_all : (enough 100 7 7 ≡ true) × (enough 101 7 7 ≡ false)

-- why Answer has no 15
abbrev pub TakenInvertible : Type 0
TakenInvertible = (c : PinholeCamera) (t : ScheimpflugParams) (rows : List Float) (flags : List ℕ)
    → finding_refusal (Solved c) t rows flags ≡ Ok tt → tilt_verdict (tilt_matrix (trig_of t)) ≡ Ok tt

-- ---- The comparison of candidates, the best of a list, and the winners of stretches. `proofs/Order.antt` and
-- `WinnerLaws.antt` prove them.

-- the score is a number, or it is NaN
abbrev pub HasNumber : Candidate → Type 0
HasNumber w = is_nan w.score ≡ false

abbrev pub HasNan : Candidate → Type 0
HasNan w = is_nan w.score ≡ true

-- a winner's score is a number
abbrev pub IsNumber : Chosen → Type 0
IsNumber nothing = Unit {0}
IsNumber (chosen w) = HasNumber w

-- ---- w is the best of ws: its score is a number, it is better than all before it, and none after it is better
pub record IsBestOf (ws : List Candidate) (w : Candidate) : Type 0 where
  pub before : List Candidate
  pub behind : List Candidate
  pub split : ws ≡ before ++ w ∷ behind
  pub number : HasNumber w
  pub ahead : All (λ v. beats w v ≡ true) before
  pub unbeaten_by : All (λ v. beats v w ≡ false) behind

-- ---- a list has a best, unless no score of it is a number
abbrev pub BestOrAllNan : List Candidate → Type 0
BestOrAllNan ws = ((w : Candidate) × IsBestOf ws w) ⊎ All HasNan ws

pub record BestRight : Type 0 where
  -- a NaN replaces nothing; a number is taken where there is no best, and replaces a best that is NaN or higher
  pub nan_never_better : (v : Candidate) (b : Best) → HasNan v → is_better v b ≡ false
  pub first_better : (v : Candidate) (b : Best) → HasNumber v → b.found ≡ false → is_better v b ≡ true
  pub lower_better : (v : Candidate) (b : Best) → HasNumber v → b.found ≡ true → is_better v b ≡ (is_nan b.candidate.score || lt v.score b.candidate.score)
  -- of a list: the earliest of the lowest scores that are numbers
  pub led : (ws : List Candidate) → BestOrAllNan ws
  pub best_leads : (ws : List Candidate) (w : Candidate) → IsBestOf ws w → best_of ws ≡ chosen w
  pub best_none : (ws : List Candidate) → All HasNan ws → best_of ws ≡ nothing
  -- a run that replaces its best by each better candidate keeps the best of all
  pub best_snoc : (ws : List Candidate) (v : Candidate) → held (best_of (ws ++ v ∷ [])) ≡ improved (held (best_of ws)) v

pub record WinnersRight : Type 0 where
  -- the winner of two is associative, and none is its unit
  pub associative : (a b c : Chosen) → winner_of_two (winner_of_two a b) c ≡ winner_of_two a (winner_of_two b c)
  pub none_first : (c : Chosen) → winner_of_two nothing c ≡ c
  pub none_second : (c : Chosen) → winner_of_two c nothing ≡ c
  -- the best of two lists in a row, and of the candidates of a list, each alone
  pub best_append : (ws vs : List Candidate) → best_of (ws ++ vs) ≡ winner_of_two (best_of ws) (best_of vs)
  pub best_fold : (ws : List Candidate) → best_of ws ≡ foldr winner_of_two nothing (map (λ w. best_of (w ∷ [])) ws)
  -- of any number of winners, and of stretches: cut anywhere, some perhaps without any candidate, the winner of their winners is that of all
  pub winner_fold : (cs : List Chosen) → All IsNumber cs → winner_of cs ≡ foldr winner_of_two nothing cs
  pub cut_anywhere : (ss : List (List Candidate)) → winner_of (map best_of ss) ≡ best_of (joined ss)

-- ---- The floor of a list of seeds. `proofs/FloorLaws.antt` proves it.

pub record Attained (ss : List CandidateSeed) : Type 0 where
  pub seed : CandidateSeed
  pub listed : Memᴰ seed ss
  pub penalty : counted_penalty seed.sensor ≡ floor_of ss

pub record FloorRight : Type 0 where
  -- no scored finding has a score below its seed's tilt penalty, rounding included
  pub scored_not_below : (t : ScheimpflugParams) (center : Pt2) (g : Scoring) → ScoredFacts t center g → lt g.score (tilt_penalty t) ≡ false
  -- the floor is a number, one of the penalties, and none is below it
  pub floor_number : (ss : List CandidateSeed) → is_nan (floor_of ss) ≡ false
  pub floor_attained : (s : CandidateSeed) (ss : List CandidateSeed) → Attained (s ∷ ss)
  pub floor_below : (ss : List CandidateSeed) {s : CandidateSeed} → Memᴰ s ss → lt (counted_penalty s.sensor) (floor_of ss) ≡ false
  -- no outcome of a listed seed scores below it, whichever camera the host finds, and whichever rows and flags it sends
  pub floor_holds : (ss : List CandidateSeed) {s : CandidateSeed} → Memᴰ s ss → (share : ℕ) (f : Finding) (center : Pt2) (rows : List Float) (flags : List ℕ) (g : Scoring)
      → outcome_of share f s.sensor center rows flags ≡ Ok g → lt g.score (floor_of ss) ≡ false
