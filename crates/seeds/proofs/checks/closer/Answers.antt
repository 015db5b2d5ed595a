-- `seeds::checks::closer` meets its contract: a negative difference is negated, and a comparison doesn't depend on
-- the sign of a zero. Assumes nothing.
use Rattle.std.proofs.Common.{◌≡◌, refl, sym, ◌∙◌, ap, true, false, true≢false, zero, suc, ◌+◌, ◌*◌, arith, le-ltb, not, ℤ, Float}
use Rattle.std.proofs.Math.Dec.{eqb-suc-zero}
use Rattle.std.specs.Float.{nan, inf, fin}
use Rattle.std.specs.Float.Ieee.{up, down, of_bits, lt}
use Rattle.float.specs.Float.{abs_of}
use Rattle.float.specs.Binary64.{◌-₆₄◌}
use Rattle.float.specs.Literals.{plus_zero}
use Rattle.float.specs.Sign.{abs_negative, lt_zero}
use Rattle.seeds.specs.Rules.{closer}
use Rattle.seeds.proofs.checks.closer.Goals as goal
use Rattle.seeds.proofs.checks.closer.Goals.{then-d, else-d}

lt_of_signed_zeros : (e : ℤ) (l : Float) → lt (fin true zero e) l ≡ lt (fin false zero e) l
unfolding lt
lt_of_signed_zeros e nan = refl
lt_of_signed_zeros e (inf t) = refl
lt_of_signed_zeros e (fin false n d) =
    let z : 0 * up e * down d ≡ 0 = omega arith in
    let s : 0 * up e * down d + n * up d * down e ≡ n * up d * down e = omega arith in
    rw (s, z) refl
lt_of_signed_zeros e (fin true n d) = le-ltb _ _ (omega arith)

lt_of_not_negative_is_lt_of_abs : (d l : Float) → lt d plus_zero ≡ false → lt d l ≡ lt (abs_of d) l
unfolding lt abs_of of_bits
lt_of_not_negative_is_lt_of_abs nan l h = refl
lt_of_not_negative_is_lt_of_abs (inf true) l h = absurd (true≢false h)
lt_of_not_negative_is_lt_of_abs (inf false) l h = refl
lt_of_not_negative_is_lt_of_abs (fin false m e) l h = refl
lt_of_not_negative_is_lt_of_abs (fin true zero e) l h = lt_of_signed_zeros e l
lt_of_not_negative_is_lt_of_abs (fin true (suc m) e) l h = absurd (true≢false (sym (lt_zero true (suc m) e ∙ ap not (eqb-suc-zero m)) ∙ h))

pub returns : goal.returns
unfolding closer
returns c =
    let d = c.args.x -₆₄ c.args.y in
    let l = c.args.limit in
    elim c.if-d.branch [
      | then-d w ↦ rw w.size-is (ap (λ (s : Float). lt s l) (abs_negative d w.if-d.true))
      | else-d w ↦ rw w.size-is (lt_of_not_negative_is_lt_of_abs d l w.if-d.false)
    ]
