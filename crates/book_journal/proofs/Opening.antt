-- Start's own refusals, and what holds of the book that an accepted Start opens. Assumes nothing.
use Rattle.std.proofs.Common.{ℕ, ◌≤◌, ◌≡◌, List, ltb-true, ltb-false, ltb, length, replicate, Ok}
use lib.ListN.{length-replicate}
use Rattle.common.specs.Tests.{case}
use Rattle.common.specs.Checks.{Check}
use Rattle.float.specs.Literals.{plus_zero}
use Rattle.search.specs.Start.{start_checks}
use Rattle.book.specs.Book.{Inputs, demand, opened}
use Rattle.book.specs.Conditions.{NoneHolds, conditions}
use Rattle.book.specs.Theorem.{options_of}
use Rattle.book.proofs.Refusals.{first_refused_holds, first_holding_refused, none_refused_where_none_holds, none_holds_where_none_refused, start_decided}
use Rattle.book.proofs.Starts.{refusal}
use Rattle.book.proofs.Good.{Good}
use Rattle.book.proofs.Opening.{opened_state}
use Rattle.book_journal.specs.Replay.{start_refused}
use Rattle.book_journal.specs.ReplayLaw.{StartRefused}

module _ (i : Inputs) (n : ℕ) where
  abbrev checks : List Check
  checks = start_checks i.views (options_of i) i.xs i.ys i.decomposition n

  pub start_not_refused : NoneHolds (conditions i n) → start_refused i n ≡ Ok tt
  unfolding start_refused
  start_not_refused h = none_refused_where_none_holds checks (conditions i n) (start_decided i n) h

  pub start_refused_by_conditions : StartRefused i n
  unfolding start_refused
  start_refused_by_conditions = record {
    refuses = λ r. ((λ e. first_refused_holds checks (conditions i n) (start_decided i n) r e), (λ h. first_holding_refused checks (conditions i n) (start_decided i n) r h));
    accepts = ((λ e. none_holds_where_none_refused checks (conditions i n) (start_decided i n) e), start_not_refused);
  }

  -- ---- the book that an accepted Start opens satisfies the invariant
  pub opened_book_good : NoneHolds (conditions i n) → Good i (opened i)
  opened_book_good h =
      let l = replicate n plus_zero in
      let k : length l ≡ n = length-replicate n plus_zero in
      let z : refusal i l ≡ Ok tt = rw k (none_refused_where_none_holds checks (conditions i n) (start_decided i n) h) in
      (opened_state i l z).good

  -- and the lent list is long enough
  pub lent_list_long_enough : NoneHolds (conditions i n) → demand i ≤ n
  lent_list_long_enough h = case (ltb n (demand i)) (λ e. absurd (h.1.1.1.1.1.1.1.0 (ltb-true n (demand i) e))) (λ e. ltb-false n (demand i) e)
