-- While the lent list is the run's own, Answer never refuses with 27: the waiting seed's tilts are within the bound,
-- which is at most 0.5. Assumes nothing.
use Rattle.std.proofs.Common.{ℕ, ◌≡◌, refl, sym, ◌∙◌, ◌⊎◌, ⊎_elim, true, false, ◌||◌, true≢false, List, [], ◌∷◌, ◌++◌, arith, Float, Ok}
use Rattle.std.specs.Float.{nan, inf, fin}
use Rattle.std.specs.Float.Ieee.{lt, le, eq, is_nan}
use Rattle.common.specs.Tests.{case, both_true}
use Rattle.common.specs.Checks.{Check, ◌when◌, first_refusal}
use Rattle.common.specs.declared.Refusal.TheVariants.{TiltTooLarge}
use Rattle.float.specs.Float.{abs_of, within}
use Rattle.float.specs.Order.{lt_cotrans, le_not_lt, le_second_is_not_nan}
use Rattle.trig.specs.Answer.{tilt_too_large}
use Rattle.float.specs.Literals.{half₆₄}
use Rattle.camera.specs.declared.sensor.ScheimpflugParams.{ScheimpflugParams}
use Rattle.seeds.specs.Rules.{in_bound}
use Rattle.score.specs.declared.outcome.Finding.{Finding}
use Rattle.score.specs.declared.outcome.Finding.TheVariants.{Failed, Solved}
use Rattle.score.specs.Evaluation.{row_checks, solved_refusal, finding_refusal}

-- ---- a tilt within a bound of at most 0.5 isn't beyond 0.5
bounded_is_number : (t max : Float) → le (abs_of t) max ≡ true → is_nan t ≡ false
unfolding le lt eq abs_of is_nan
bounded_is_number nan max h = absurd (true≢false (sym h))
bounded_is_number (inf s) max h = refl
bounded_is_number (fin s m e) max h = refl

within_bound_not_beyond_half : (max t : Float) → lt half₆₄ max ≡ false → within max t ≡ true → tilt_too_large t ≡ false
unfolding within tilt_too_large
within_bound_not_beyond_half max t h w =
    case (lt half₆₄ (abs_of t))
    (λ e. absurd (true≢false (sym (lt_cotrans half₆₄ (abs_of t) max (le_second_is_not_nan (abs_of t) max w) e (le_not_lt (abs_of t) max w)) ∙ h)))
    (λ e. rw (bounded_is_number t max w, e))

-- ---- so a finding can be refused for its rows alone
first_refusal_append_none : (ts us : List Check) → first_refusal ts ≡ Ok tt → first_refusal us ≡ Ok tt → first_refusal (ts ++ us) ≡ Ok tt
first_refusal_append_none [] us h k = k
first_refusal_append_none ((r when true) ∷ ts) us h k = h
first_refusal_append_none ((r when false) ∷ ts) us h k = first_refusal_append_none ts us h k

pub finding_not_refused : (max : Float) (t : ScheimpflugParams) (f : Finding) (rows : List Float) (flags : List ℕ) → lt half₆₄ max ≡ false → in_bound max t ≡ true
    → (f ≡ Failed) ⊎ (first_refusal (row_checks rows flags) ≡ Ok tt) → finding_refusal f t rows flags ≡ Ok tt
unfolding finding_refusal solved_refusal in_bound
finding_not_refused max t Failed rows flags h w k = refl
finding_not_refused max t (Solved c) rows flags h w k =
    let b = both_true (within max t.tilt_x) (within max t.tilt_y) w in
    ⊎_elim
    (λ e. let z : ◌≡◌ {A = ℕ} 0 1 = cc in absurd (omega arith))
    (λ e. first_refusal_append_none (row_checks rows flags) ((TiltTooLarge when (tilt_too_large t.tilt_x || tilt_too_large t.tilt_y)) ∷ []) e (rw (within_bound_not_beyond_half max t.tilt_x h b.0, within_bound_not_beyond_half max t.tilt_y h b.1)))
    k
