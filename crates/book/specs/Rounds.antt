-- The candidate that a later round's list lies around, and how many seeds that list has (docs/SPECIFICATION.md, 4.9),
-- as a type. Definitions only.
use Rattle.std.specs.Prelude.{ℕ, zero, suc, ◌≡◌, ◌++◌, true, List, leb, eqb, length, Float}
use Rattle.std.specs.Float.Ieee.{le}
use Rattle.seeds.specs.Merge.{keep}
use Rattle.seeds.specs.Layout.{flat}
use Rattle.seeds.specs.Admissible.{seed_count, least_step, most_step}
use Rattle.score.specs.declared.best.Candidate.{Candidate}
use Rattle.score.specs.Best.{Chosen, nothing, chosen, best_of}
use Rattle.book.specs.Book.{Inputs, Entry, scored_of, or_else, step_of, offsets_x, offsets_y, list_around}

-- the entries of round r, and the entries of the rounds up to r
abbrev pub of_round : ℕ → List Entry → List Entry
of_round r es = keep (λ e. eqb e.round r) es

abbrev pub up_to : ℕ → List Entry → List Entry
up_to r es = keep (λ e. leb e.round r) es

-- the candidate that round r's list lies around: the best of the round before or, if that scored none, of all rounds
-- before
unfoldable pub centre_of : ℕ → List Entry → Chosen
centre_of zero es = nothing
centre_of (suc r) es = or_else (best_of (scored_of (of_round r es))) (best_of (scored_of (up_to r es)))

-- Of round r, which isn't round 0, the entries es and the lent list l: in front of l stands the list around the round's
-- candidate, and total is its length. Where the round's step is from 1e-11 to 1, the list has as many seeds as there
-- are admissible x tilts times admissible y tilts. With a smaller or a greater step its length is what merging leaves.
pub record LaterRound (i : Inputs) (es : List Entry) (r total : ℕ) (l : List Float) : Type 0 where
  pub centre : Candidate
  pub is_best : centre_of r es ≡ chosen centre
  pub total_is : total ≡ length (list_around i r centre)
  pub behind : List Float
  pub list_is : l ≡ flat (list_around i r centre) ++ behind
  pub exactly : le least_step (step_of r i.step) ≡ true → le (step_of r i.step) most_step ≡ true → total ≡ seed_count (offsets_x i r) (offsets_y i r) centre.sensor i.max
