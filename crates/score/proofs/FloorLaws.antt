-- The floor is a number, one of the seeds' penalties, and none of them is below it. So no candidate from those seeds
-- scores below it, whichever camera the host finds. Assumes nothing.
use Rattle.std.specs.Prelude.{ℕ, ◌≡◌, refl, false, Float, Ok}
use Rattle.std.proofs.Common.{sym, ap, ◌∙◌, ⊎_elim}
use mathlib.Core.List.Memᴰ
use mathlib.Core.List.{List, [], ◌∷◌, Memᴰ}
use Rattle.std.specs.Float.{nan, inf, fin}
use Rattle.std.specs.Float.Ieee.{lt, is_nan, div, of_bits}
use Rattle.common.specs.Tests.{case}
use Rattle.float.specs.Float.{min_of}
use Rattle.float.specs.Literals.{infinity}
use Rattle.float.specs.Order.{lt_irrefl}
use Rattle.float_laws.specs.NotBelow.{not_below_trans}
use Rattle.float_laws.specs.Lower.{min_is_not_nan, not_below_min_by_first, second_not_below_min, min_is_one_of_both}
use Rattle.camera.specs.declared.math.Pt2.{Pt2}
use Rattle.camera.specs.declared.sensor.ScheimpflugParams.{ScheimpflugParams}
use Rattle.seeds.specs.declared.CandidateSeed.{CandidateSeed}
use Rattle.score.specs.Penalties.{tilt_penalty}
use Rattle.score.specs.declared.outcome.Finding.{Finding}
use Rattle.score.specs.declared.outcome.Scoring.{Scoring}
use Rattle.score.specs.Evaluation.{outcome_of}
use Rattle.score.specs.Facts.{ScoredFacts}
use Rattle.score.proofs.Facts.{scored_facts}
use Rattle.score.specs.Floor.{counted_penalty, floor_of}
use Rattle.score.proofs.Penalty.{scored_not_below, scored_tilt_penalty_is_number}
use Rattle.score.specs.Theorem.{Attained, FloorRight}

-- ---- a number
pub counted_penalty_is_number : (t : ScheimpflugParams) → is_nan (counted_penalty t) ≡ false
unfolding counted_penalty is_nan div of_bits
counted_penalty_is_number t = case (is_nan (tilt_penalty t)) (λ n. rw n) (λ n. rw n n)

pub floor_is_number : (ss : List CandidateSeed) → is_nan (floor_of ss) ≡ false
unfolding floor_of is_nan div of_bits
floor_is_number [] = refl
floor_is_number (s ∷ ss) = min_is_not_nan (counted_penalty s.sensor) (floor_of ss) (counted_penalty_is_number s.sensor) (floor_is_number ss)

-- ---- none is below it
pub penalty_not_below_floor : (ss : List CandidateSeed) {s : CandidateSeed} → Memᴰ s ss → lt (counted_penalty s.sensor) (floor_of ss) ≡ false
unfolding floor_of
penalty_not_below_floor [] m = absurd (Memᴰ.not-nil m)
penalty_not_below_floor (t ∷ ss) {s} m =
    let p = counted_penalty t.sensor in
    let q = floor_of ss in
    ⊎_elim
    (λ e. rw e (not_below_min_by_first p q p (counted_penalty_is_number t.sensor) (lt_irrefl p)))
    (λ n. not_below_trans (counted_penalty s.sensor) q (min_of p q) (floor_is_number ss) (penalty_not_below_floor ss n) (second_not_below_min p q (counted_penalty_is_number t.sensor)))
    (Memᴰ.cases_cons m)

-- ---- it is one of them
infinity_not_below_any : (p : Float) → lt infinity p ≡ false
unfolding lt div of_bits
infinity_not_below_any nan = refl
infinity_not_below_any (inf s) = refl
infinity_not_below_any (fin s m e) = refl

pub min_with_infinity : (p : Float) → is_nan p ≡ false → min_of p infinity ≡ p
unfolding min_of
min_with_infinity p n = rw (n, infinity_not_below_any p)

pub floor_attained : (s : CandidateSeed) (ss : List CandidateSeed) → Attained (s ∷ ss)
unfolding floor_of
floor_attained s [] = record { seed = s; listed = Memᴰ.head refl; penalty = sym (min_with_infinity (counted_penalty s.sensor) (counted_penalty_is_number s.sensor)) }
floor_attained s (t ∷ ss) =
    ⊎_elim
    (λ e. record { seed = s; listed = Memᴰ.head refl; penalty = sym e })
    (λ e. let r = floor_attained t ss in record { seed = r.seed; listed = Memᴰ.tail r.listed; penalty = r.penalty ∙ sym e })
    (min_is_one_of_both (counted_penalty s.sensor) (floor_of (t ∷ ss)))

-- ---- no candidate from the seeds scores below it
scored_penalty_is_counted : (t : ScheimpflugParams) (center : Pt2) (g : Scoring) → ScoredFacts t center g → counted_penalty t ≡ tilt_penalty t
unfolding counted_penalty
scored_penalty_is_counted t center g s = rw (scored_tilt_penalty_is_number t center g s)

pub scored_not_below_floor : (ss : List CandidateSeed) {s : CandidateSeed} → Memᴰ s ss → (center : Pt2) (g : Scoring) → ScoredFacts s.sensor center g → lt g.score (floor_of ss) ≡ false
scored_not_below_floor ss {s} m center g f =
    let t = s.sensor in
    not_below_trans g.score (tilt_penalty t) (floor_of ss) (scored_tilt_penalty_is_number t center g f) (scored_not_below t center g f)
    (ap (λ (x : Float). lt x (floor_of ss)) (sym (scored_penalty_is_counted t center g f)) ∙ penalty_not_below_floor ss m)

-- whichever camera the host finds, and whichever rows and flags it sends
pub outcome_not_below_floor : (ss : List CandidateSeed) {s : CandidateSeed} → Memᴰ s ss → (share : ℕ) (f : Finding) (center : Pt2) (rows : List Float) (flags : List ℕ) (g : Scoring)
    → outcome_of share f s.sensor center rows flags ≡ Ok g → lt g.score (floor_of ss) ≡ false
outcome_not_below_floor ss {s} m share f center rows flags g h = scored_not_below_floor ss m center g (scored_facts share f s.sensor center rows flags g h)

pub floor_right : FloorRight
floor_right = record {
  scored_not_below = scored_not_below;
  floor_number = floor_is_number;
  floor_attained = floor_attained;
  floor_below = penalty_not_below_floor;
  floor_holds = outcome_not_below_floor;
}
