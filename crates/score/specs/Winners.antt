-- The winner of two stretches, and of any number of them. Definitions only.
use Rattle.std.specs.Prelude.{◌&&◌, cond}
use mathlib.Core.List.{List, [], ◌∷◌, flat_map}
use Rattle.score.specs.declared.best.Candidate.{Candidate}
use Rattle.score.specs.declared.best.Best.{Best}
use Rattle.score.specs.Best.{beats, Chosen, nothing, chosen, best_of}

-- The winner of two, the earlier one first: a lower score wins, an equal one doesn't; a stretch without a candidate leaves the other's.
unfoldable pub winner_of_two : Chosen → Chosen → Chosen
winner_of_two nothing c = c
winner_of_two (chosen w) nothing = chosen w
winner_of_two (chosen w) (chosen v) = cond (beats v w) (chosen v) (chosen w)

-- the same of two bests as records hold them
unfoldable pub winner_of_bests : Best → Best → Best
winner_of_bests a b = cond a.found (cond (b.found && beats b.candidate a.candidate) b a) b

-- the winners that there are, in their order, and the winner of those
unfoldable pub present : List Chosen → List Candidate
present [] = []
present (nothing ∷ cs) = present cs
present (chosen w ∷ cs) = w ∷ present cs

abbrev pub winner_of : List Chosen → Chosen
winner_of cs = best_of (present cs)

-- stretches, one after the other
abbrev pub joined : {A : Type 0} → List (List A) → List A
joined {A} ss = flat_map {A = List A} {B = A} (λ s. s) ss
