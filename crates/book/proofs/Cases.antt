-- Going by cases on a value, with the case as an equation. Assumes nothing.
use Rattle.std.proofs.Common.{◌≡◌, refl, List, [], ◌∷◌, Result, Ok, Err}
use mathlib.Core.Option.{Option, none, some}
use Rattle.seeds.specs.declared.CandidateSeed.{CandidateSeed}
use Rattle.score.specs.declared.best.Candidate.{Candidate}
use Rattle.score.specs.Best.{Chosen, nothing, chosen}

pub case_chosen : (x : Chosen) {P : Type 0} → (x ≡ nothing → P) → ((w : Candidate) → x ≡ chosen w → P) → P
case_chosen nothing f g = f refl
case_chosen (chosen w) f g = g w refl

pub case_list : (x : List CandidateSeed) {P : Type 0} → (x ≡ [] → P) → ((s : CandidateSeed) (ss : List CandidateSeed) → x ≡ s ∷ ss → P) → P
case_list [] f g = f refl
case_list (s ∷ ss) f g = g s ss refl

pub case_option : {A : Type 0} (x : Option A) {P : Type 0} → (x ≡ none → P) → ((a : A) → x ≡ some a → P) → P
case_option none f g = f refl
case_option (some a) f g = g a refl

pub case_result : {A E : Type 0} (x : Result A E) {P : Type 0} → ((a : A) → x ≡ Ok a → P) → ((e : E) → x ≡ Err e → P) → P
case_result (Ok a) f g = f a refl
case_result (Err e) f g = g e refl
