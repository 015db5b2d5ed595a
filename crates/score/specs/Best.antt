-- The best of the scored candidates, of a whole list, and as a run keeps it, one candidate at a time. Definitions only.
use Rattle.std.specs.Prelude.{ℕ, Bool, true, false, not, ◌&&◌, ◌||◌, cond, List, [], ◌∷◌, Option}
use Rattle.std.specs.Bool.{then_some}
use Rattle.std.specs.Float.Ieee.{lt, is_nan}
use Rattle.float.specs.Literals.{plus_zero}
use Rattle.camera.specs.declared.sensor.ScheimpflugParams.{ScheimpflugParams}
use Rattle.score.specs.declared.outcome.Scoring.{Scoring}
use Rattle.score.specs.declared.best.Candidate.{Candidate}
use Rattle.score.specs.declared.best.Best.{Best}

-- a candidate's score is a number
abbrev pub is_number : Candidate → Bool
is_number w = not (is_nan w.score)

-- A candidate is better than another: its score is a number, and the other's is none, or higher as IEEE 754 compares.
unfoldable pub beats : Candidate → Candidate → Bool
beats v w = is_number v && (not (is_number w) || lt v.score w.score)

-- ---- of a whole list
-- what is chosen of a list: nothing, or one of its candidates
pub data Chosen : Type 0 where
  nothing : Chosen
  chosen : Candidate → Chosen

-- no candidate of the list beats w
unfoldable pub unbeaten : Candidate → List Candidate → Bool
unbeaten w [] = true
unbeaten w (v ∷ vs) = not (beats v w) && unbeaten w vs

-- the first of the second list whose score is a number and that no candidate of the first beats
unfoldable pub first_unbeaten : List Candidate → List Candidate → Chosen
first_unbeaten all [] = nothing
first_unbeaten all (w ∷ ws) = cond (is_number w && unbeaten w all) (chosen w) (first_unbeaten all ws)

-- The best of a round or of a run: of its scored candidates, those whose score is a number, the earliest with the lowest score.
unfoldable pub best_of : List Candidate → Chosen
best_of ws = first_unbeaten ws ws

-- ---- as a run keeps it
unfoldable pub no_best : Best
no_best = record {
  found = false;
  candidate = record {
    number = 0;
    camera = record { k = record { fx = plus_zero; fy = plus_zero; cx = plus_zero; cy = plus_zero }; dist = record { k1 = plus_zero; k2 = plus_zero; k3 = plus_zero; p1 = plus_zero; p2 = plus_zero } };
    sensor = record { tilt_x = plus_zero; tilt_y = plus_zero };
    mean_reproj_error = plus_zero;
    score = plus_zero;
  };
}

abbrev pub found : Candidate → Best
found w = record { found = true; candidate = w }

-- the best's candidate, if there is one
abbrev pub best_candidate : Best → Option Candidate
best_candidate b = then_some b.found b.candidate

-- what is chosen, as a record
abbrev pub held : Chosen → Best
held nothing = no_best
held (chosen w) = found w

-- the first, or, if it has none, the second
abbrev pub or_best : Best → Best → Best
or_best a b = cond a.found a b

-- The first candidate whose score is a number is taken; after it a better one replaces, and an equal one doesn't.
unfoldable pub is_better : Candidate → Best → Bool
is_better v b = cond b.found (beats v b.candidate) (is_number v)

unfoldable pub improved : Best → Candidate → Best
improved b v = cond (is_better v b) (found v) b

-- ---- a scored candidate: its number, its seed's tilts, and its camera, mean and score
abbrev pub candidate_of : ℕ → ScheimpflugParams → Scoring → Candidate
candidate_of n t s = record { number = n; camera = s.camera; sensor = t; mean_reproj_error = s.mean; score = s.score }
