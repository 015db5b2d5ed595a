-- What is scored rests on its share of the rows, and a share of 0 gives the outcome that asks for none. Assumes
-- nothing.
use Rattle.std.specs.Prelude.{ℕ, zero, suc, ◌+◌, ◌*◌, ◌/◌, ◌%◌, min, ◌≤◌, ◌<◌, ◌≡◌, refl, true, false, List, [], leb, eqb, length, Float, Ok, Err}
use Rattle.std.proofs.Common.{zero-mul, mul-zero, mul-le-mul_right, mul-add, mul_left_comm, arith, ap, ◌∙◌}
use Rattle.std.proofs.Math.Path.{sym}
use borrow.Author.Tests.{le-leb, lt-leb, leb-true, leb-false}
use Rattle.std.proofs.Math.Dec.{eqb-suc-zero}
use Rattle.std.specs.Float.Ieee.{div, of_bits}
use Rattle.common.specs.Tests.{case}
use Rattle.float.specs.Float.{is_finite}
use Rattle.camera.specs.declared.math.Pt2.{Pt2}
use Rattle.camera.specs.declared.sensor.ScheimpflugParams.{ScheimpflugParams}
use Rattle.score.specs.Camera.{damped_camera, valid_camera}
use Rattle.score.specs.Rows.{rows_of, counted_errors, summed, error_sum, mean_of}
use Rattle.score.specs.Evaluation.{solved_at, errors_with, mean_with, enough, enough_with, scoring_of, evaluated, outcome_of}
use Rattle.score.proofs.Outcomes.{mean_not_finite_is_no_mean, scored_passed_tests}
use Rattle.score.specs.declared.outcome.SolvedCamera.{SolvedCamera}
use Rattle.score.specs.declared.outcome.Scoring.{Scoring}
use Rattle.score.specs.declared.outcome.Finding.{Finding}
use Rattle.score.specs.declared.outcome.Finding.TheVariants.{Failed, Solved}
use Rattle.score.specs.declared.outcome.SkipReason.TheVariants.{NoMean}
use Rattle.score.specs.Share.{RestsOn, evaluated_without_share, outcome_without_share}
use Rattle.score.specs.Theorem.{ShareRight}

scoring_mean_is_mean_with : (s : SolvedCamera) (sensor : ScheimpflugParams) (center : Pt2) (rows : List Float) (flags : List ℕ) → (scoring_of s sensor center rows flags).mean ≡ mean_with s rows flags
unfolding scoring_of
scoring_mean_is_mean_with s sensor center rows flags = refl

enough_with_as_products : (share : ℕ) (s : SolvedCamera) (rows : List Float) (flags : List ℕ) → enough_with share s rows flags ≡ true → share * length flags ≤ (errors_with s rows flags).count * 100
unfolding enough_with enough
enough_with_as_products share s rows flags h = leb-true _ _ h

pub scored_rests : (share : ℕ) (s : SolvedCamera) (sensor : ScheimpflugParams) (center : Pt2) (rows : List Float) (flags : List ℕ) (g : Scoring)
    → evaluated share s sensor center rows flags ≡ Ok g → RestsOn share s rows flags g.mean
scored_rests share s sensor center rows flags g h =
    let p = scored_passed_tests share s sensor center rows flags g h in
    record {
      mean_is = ap (λ (x : Scoring). x.mean) (sym p.is) ∙ scoring_mean_is_mean_with s sensor center rows flags;
      enough_counted = enough_with_as_products share s rows flags p.enough_counted;
    }

-- ---- which shares any rows have
pub share_0_is_enough : (counted all : ℕ) → enough 0 counted all ≡ true
unfolding enough
share_0_is_enough counted all = rw (zero-mul all) (le-leb 0 (counted * 100) (omega arith))

pub no_rows_enough : (share counted : ℕ) → enough share counted 0 ≡ true
unfolding enough
no_rows_enough share counted = rw (mul-zero share) (le-leb 0 (counted * 100) (omega arith))

-- where there are no rows, enough of them count, and there is no mean
no_rows_mean_not_finite : (s : SolvedCamera) → is_finite (mean_with s [] []) ≡ false
unfolding mean_with errors_with error_sum counted_errors summed rows_of mean_of is_finite div of_bits
no_rows_mean_not_finite s = refl

pub no_rows_enough_but_no_mean : (share : ℕ) (s : SolvedCamera) (sensor : ScheimpflugParams) (center : Pt2)
    → valid_camera (damped_camera s.camera) ≡ true → (enough_with share s [] [] ≡ true) × (evaluated share s sensor center [] [] ≡ Err NoMean)
unfolding enough_with
no_rows_enough_but_no_mean share s sensor center v = (no_rows_enough share (errors_with s [] []).count, mean_not_finite_is_no_mean share s sensor center [] [] v (no_rows_mean_not_finite s))

-- a share above 100 per cent is reached only where there are no rows
share_above_100_not_reached : (share counted n : ℕ) → 100 < share → counted ≤ suc n → counted * 100 < share * suc n
share_above_100_not_reached share counted n h k = let p = mul-le-mul_right (suc n) h in omega arith

pub share_above_100_enough_only_for_no_rows : (share counted all : ℕ) → 100 < share → counted ≤ all → eqb all 0 ≡ enough share counted all
unfolding enough
share_above_100_enough_only_for_no_rows share counted zero h k = sym (no_rows_enough share counted)
share_above_100_enough_only_for_no_rows share counted (suc n) h k = eqb-suc-zero n ∙ sym (lt-leb _ _ (share_above_100_not_reached share counted n h k))

-- ---- at most 100 per cent, by whole hundreds of rows and the rest, as the code counts
module _ (share all : ℕ) (h : share ≤ 100) where
  pub share_of_hundreds_le : share * (all / 100) ≤ 100 * (all / 100)
  share_of_hundreds_le = mul-le-mul_right (all / 100) h

  pub share_of_rest_le : share * (all % 100) ≤ 100 * (all % 100)
  share_of_rest_le = mul-le-mul_right (all % 100) h

  share_of_hundreds_and_rest : share * all ≡ 100 * (share * (all / 100)) + share * (all % 100)
  share_of_hundreds_and_rest =
      let e : all ≡ 100 * (all / 100) + all % 100 = omega arith in
      ap (λ (n : ℕ). share * n) e ∙ mul-add share (100 * (all / 100)) (all % 100) ∙ ap (λ (n : ℕ). n + share * (all % 100)) (mul_left_comm share 100 (all / 100))

  pub enough_by_hundreds_and_rest : (counted : ℕ) → leb (share * (all / 100) + (share * (all % 100) / 100 + min 1 (share * (all % 100) % 100))) counted ≡ enough share counted all
  unfolding enough
  enough_by_hundreds_and_rest counted =
      let rest = share * (all % 100) in
      let least = share * (all / 100) + (rest / 100 + min 1 (rest % 100)) in
      case (leb least counted)
      (λ e. let k = leb-true least counted e in e ∙ sym (le-leb (share * all) (counted * 100) (omega (arith, share_of_hundreds_and_rest))))
      (λ e. let k = leb-false least counted e in e ∙ sym (lt-leb (share * all) (counted * 100) (omega (arith, share_of_hundreds_and_rest))))

evaluated_with_share_0 : (s : SolvedCamera) (sensor : ScheimpflugParams) (center : Pt2) (rows : List Float) (flags : List ℕ)
    → evaluated 0 s sensor center rows flags ≡ evaluated_without_share s sensor center rows flags
unfolding evaluated enough_with
evaluated_with_share_0 s sensor center rows flags = simp (share_0_is_enough (errors_with s rows flags).count (length flags))

-- a share of 0 gives the outcome that asks for no share
pub outcome_with_share_0 : (f : Finding) (sensor : ScheimpflugParams) (center : Pt2) (rows : List Float) (flags : List ℕ) → outcome_of 0 f sensor center rows flags ≡ outcome_without_share f sensor center rows flags
unfolding outcome_of
outcome_with_share_0 Failed sensor center rows flags = refl
outcome_with_share_0 (Solved c) sensor center rows flags = evaluated_with_share_0 (solved_at c sensor) sensor center rows flags

-- ---- computed: one of three is 33 per cent and not 34, four of nine hundred aren't one, nine are; all are 100, and none but no rows has 101
pub one_of_three : (enough 33 1 3 ≡ true) × (enough 34 1 3 ≡ false)
unfolding enough
one_of_three = (refl, refl)

pub four_of_many : (enough 1 4 900 ≡ false) × (enough 1 9 900 ≡ true)
unfolding enough
four_of_many = (refl, refl)

pub all_of_all : (enough 100 7 7 ≡ true) × (enough 101 7 7 ≡ false)
unfolding enough
all_of_all = (refl, refl)

pub share_right : ShareRight
share_right = record {
  scored_rests = scored_rests;
  zero_share = outcome_with_share_0;
  no_rows = no_rows_enough_but_no_mean;
  one_of_three = one_of_three;
  four_of_many = four_of_many;
  all_of_all = all_of_all;
}
