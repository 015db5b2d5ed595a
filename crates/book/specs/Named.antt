-- The seeds that the rules name, round by round, from Start's inputs and the outcomes of the rounds before. Definitions
-- only.
use Rattle.std.specs.Prelude.{ℕ, zero, suc, cond, List, [], ◌∷◌, ◌++◌, eqb, length}
use Rattle.seeds.specs.declared.CandidateSeed.{CandidateSeed}
use Rattle.seeds.specs.Layout.{six}
use Rattle.score.specs.Reasons.{Outcome}
use Rattle.score.specs.Best.{nothing, chosen, best_of}
use Rattle.book.specs.Book.{Inputs, Entry, scored_of, or_else, first_list, list_around}
use Rattle.book.specs.Trace.{Handing}

-- the outcomes of round r, of the entries
unfoldable pub outcomes_in : List Entry → ℕ → List Outcome
outcomes_in [] r = []
outcomes_in (e ∷ es) r = cond (eqb e.round r) (e.outcome ∷ outcomes_in es r) (outcomes_in es r)

-- the entries of a round's seeds with their outcomes, in order, numbered from n
unfoldable pub entered_all : ℕ → ℕ → List CandidateSeed → List Outcome → List Entry
entered_all r n [] os = []
entered_all r n (s ∷ ss) [] = []
entered_all r n (s ∷ ss) (o ∷ os) = record { number = n; round = r; seed = s; outcome = o } ∷ entered_all r (suc n) ss os

-- the list after round r: around the round's best or, if the round has none, around the best of all so far; empty if
-- nothing is scored at all
unfoldable pub following : Inputs → ℕ → List Entry → List Entry → List CandidateSeed
following i r round all = elim (or_else (best_of (scored_of round)) (best_of (scored_of all))) [
  | nothing ↦ []
  | chosen w ↦ list_around i (suc r) w
]

-- what is known when a round opens: the entries of the rounds before, and the round's list
pub record Plan : Type 0 where
  pub before : List Entry
  pub list : List CandidateSeed

module _ (i : Inputs) (outcomes : ℕ → List Outcome) where
  unfoldable pub plan : ℕ → Plan
  plan zero = record { before = []; list = first_list i }
  plan (suc r) =
      let p = plan r in
      let es = entered_all r (length p.before) p.list (outcomes r) in
      record { before = p.before ++ es; list = following i r es (p.before ++ es) }

  -- the seeds of round r
  abbrev pub named : ℕ → List CandidateSeed
  named r = (plan r).list

-- a list of seeds as round r hands it out, numbered from n
unfoldable pub handings_of : ℕ → ℕ → List CandidateSeed → List Handing
handings_of r n [] = []
handings_of r n (s ∷ ss) = record { round = r; number = n; part = six s } ∷ handings_of r (suc n) ss

-- what the rounds before r hand out, one after the other, numbered from 0
unfoldable pub handings : Inputs → (ℕ → List Outcome) → ℕ → List Handing
handings i outcomes zero = []
handings i outcomes (suc r) = let hs = handings i outcomes r in hs ++ handings_of r (length hs) (named i outcomes r)
