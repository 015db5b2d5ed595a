-- The run's record as the calls change it, for every record, sound or not. Definitions only.
use Rattle.std.specs.Prelude.{ℕ, ◌+◌, ◌*◌, Bool, true, false, not, ◌&&◌, cond, [], ◌∷◌, leb, ltb, eqb, Float, Result, Ok, Err, ⊤}
use Rattle.common.specs.Checks.{◌when◌, first_refusal}
use Rattle.common.specs.declared.Refusal.{Refusal}
use Rattle.common.specs.declared.Refusal.TheVariants.{ListShortened}
use Rattle.float.specs.Binary64.{◌*₆₄◌}
use Rattle.float.specs.Literals.{plus_zero, half₆₄}
use Rattle.camera.specs.declared.sensor.ScheimpflugParams.{ScheimpflugParams}
use Rattle.seeds.specs.declared.CandidateSeed.{CandidateSeed}
use Rattle.score.specs.Reasons.{Outcome, reason_number}
use Rattle.score.specs.declared.best.Best.{Best}
use Rattle.score.specs.Best.{improved, no_best, candidate_of}
use Rattle.journal.specs.declared.ScoredFields.{ScoredFields}
use Rattle.journal.specs.declared.Counts.{Counts}
use Rattle.journal.specs.Counts.{with_count}
use Rattle.journal.specs.Report.{total}
use Rattle.journal.specs.Outcome.{Recorded, recorded_as}
use Rattle.search.specs.declared.run.LastAnswer.{LastAnswer}
use Rattle.search.specs.declared.run.Place.{Place}
use Rattle.search.specs.declared.run.Waiting.{Waiting}
use Rattle.search.specs.declared.run.Run.{Run}

-- ---- a record that Start or a call can have made
-- an open run has a seed left in its list, and where the run is over none waits
unfoldable pub has_place : Place → Waiting → Bool
has_place p w = cond p.over (not w.is_waiting) (ltb p.at p.len)

-- the five counts add up to the number of answers, of which a run has at most 656
unfoldable pub add_up : Counts → ℕ → Bool
add_up c n = leb n 656 && eqb (total c) n

-- all that the calls' sums and indexes need; any other record is answered as a run that ended with nothing scored
unfoldable pub sound : Run → Bool
sound r =
    let p = r.place in
    leb p.len 512
    && (leb r.options.min_counted 100
    && leb r.options.refine_rounds 16
    && leb p.round r.options.refine_rounds
    && add_up r.counts p.number
    && leb (6 * p.len) p.demand
    && leb 54 p.demand
    && leb p.demand 3072
    && has_place p r.waiting)

-- ---- 10 where a list of n numbers is shorter than the run demands
abbrev pub list_refusal : Run → ℕ → Result ⊤ Refusal
list_refusal r n = first_refusal ((ListShortened when ltb n r.place.demand) ∷ [])

-- ---- the seed that waits
abbrev pub no_seed : CandidateSeed
no_seed = record {
  reference_k = record { fx = plus_zero; fy = plus_zero; cx = plus_zero; cy = plus_zero };
  sensor = record { tilt_x = plus_zero; tilt_y = plus_zero };
}

abbrev pub no_waiting_seed : Waiting
no_waiting_seed = record { is_waiting = false; seed = no_seed }

unfoldable pub awaiting : Run → CandidateSeed → Run
awaiting r s = record {
  options = r.options;
  center = r.center;
  place = r.place;
  waiting = record { is_waiting = true; seed = s };
  round_best = r.round_best;
  run_best = r.run_best;
  last = r.last;
  counts = r.counts;
}

-- ---- the last answered candidate, as a line records it, with the round that it was handed out in
abbrev pub no_fields : ScoredFields
no_fields = record { score = plus_zero; mean = plus_zero; k = record { fx = plus_zero; fy = plus_zero; cx = plus_zero; cy = plus_zero }; p1 = plus_zero; p2 = plus_zero }

abbrev pub no_answer : LastAnswer
no_answer = record { found = false; number = 0; round = 0; seed = no_seed; skipped = 0; scored = no_fields }

abbrev pub last_answer : ℕ → ℕ → CandidateSeed → Recorded → LastAnswer
last_answer n r s (Ok f) = record { found = true; number = n; round = r; seed = s; skipped = 0; scored = f }
last_answer n r s (Err reason) = record { found = true; number = n; round = r; seed = s; skipped = reason_number reason; scored = no_fields }

-- ---- the waiting seed's outcome is entered: nothing waits, the place moves on, a scored candidate may become the best, its
-- line's fields are kept, and it is counted
unfoldable pub with_outcome : Best → ℕ → ScheimpflugParams → Outcome → Best
with_outcome b n t (Ok s) = improved b (candidate_of n t s)
with_outcome b n t (Err reason) = b

unfoldable pub entered : Run → Outcome → Run
entered r o =
    let p = r.place in
    let t = r.waiting.seed.sensor in
    record {
      options = r.options;
      center = r.center;
      place = record { demand = p.demand; round = p.round; step = p.step; len = p.len; at = p.at + 1; number = p.number + 1; over = p.over };
      waiting = no_waiting_seed;
      round_best = with_outcome r.round_best p.number t o;
      run_best = with_outcome r.run_best p.number t o;
      last = last_answer p.number p.round r.waiting.seed (recorded_as o);
      counts = with_count r.counts (recorded_as o);
    }

-- ---- the next round opens with n seeds, made with the step s; or the run ends
-- refine_step for round 1's list, and then half of the last one
unfoldable pub next_step : Run → Float
next_step r = cond (eqb r.place.round 0) r.options.refine_step (r.place.step *₆₄ half₆₄)

unfoldable pub round_opened : Run → ℕ → Run
round_opened r n =
    let p = r.place in
    record {
      options = r.options;
      center = r.center;
      place = record { demand = p.demand; round = p.round + 1; step = next_step r; len = n; at = 0; number = p.number; over = p.over };
      waiting = r.waiting;
      round_best = no_best;
      run_best = r.run_best;
      last = r.last;
      counts = r.counts;
    }

unfoldable pub ended : Run → Run
ended r =
    let p = r.place in
    record {
      options = r.options;
      center = r.center;
      place = record { demand = p.demand; round = p.round; step = p.step; len = p.len; at = p.at; number = p.number; over = true };
      waiting = r.waiting;
      round_best = r.round_best;
      run_best = r.run_best;
      last = r.last;
      counts = r.counts;
    }
