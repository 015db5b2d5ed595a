-- `search::counting::add_up` meets its contract: the total up to 656 is the number exactly where the counts add up to it. Assumes nothing.
use Rattle.std.proofs.Common.{ℕ, ◌≡◌, refl, ◌∙◌, cond, ◌&&◌, leb, ltb, eqb, Some, None, arith, leb-true, ltb-true, ltb-false, eqb-true, le-leb, ne_eqb}
use Rattle.std.specs.Option.{option_eq}
use Rattle.common.specs.Tests.{case}
use Rattle.journal.specs.Report.{total}
use Rattle.search.specs.Laws.{add_up_by_another_sum}
use Rattle.search.proofs.counting.add_up.Goals as goal

-- a number is the total where both are at most 656
small_total_eq_number : (t n : ℕ) → option_eq eqb (cond (ltb 656 t) None (Some t)) (Some n) ≡ (leb n 656 && eqb t n)
small_total_eq_number t n =
    case (ltb 656 t)
    (λ h.
    let p = ltb-true 656 t h in
    case (leb n 656) (λ u. let k = leb-true n 656 u in simp (h, u, ne_eqb t n (λ z. omega arith))) (λ u. simp (h, u)))
    (λ h.
    let p = ltb-false 656 t h in
    case (eqb t n) (λ e. let k = eqb-true t n e in simp (h, e, le-leb n 656 (omega arith))) (λ e. case (leb n 656) (λ u. simp (h, e, u)) (λ u. simp (h, e, u))))

pub returns : goal.returns
returns c =
    let k = c.args.counts in
    let n = c.args.number in c.eq.ensures ∙ rw c.total_if_small.ensures (small_total_eq_number (total k) n ∙ add_up_by_another_sum k n (total k) refl (λ h. refl))
