-- What Start replies and writes: where no refusal holds, and where one does. Assumes nothing.
use Rattle.std.proofs.Common.{◌≡◌, sym, ap, ◌∙◌, List, length, Float, Result, Ok, Err}
use Rattle.std.specs.Prelude.{⊤}
use Rattle.common.specs.declared.Refusal.{Refusal}
use Rattle.seeds.specs.Layout.{written}
use Rattle.search.specs.declared.run.Run.{Run}
use Rattle.search.specs.Start.{start_refusal, opening, start_seeds, start_checks}
use Rattle.search.specs.StartLaws.{start_refused, start_accepted}
use Rattle.book.specs.Book.{Inputs, first_list}
use Rattle.book.specs.Conditions.{conditions}
use Rattle.book.specs.Theorem.{options_of, start_of, started_list, Starts}
use Rattle.book.proofs.Cases.{case_result}
use Rattle.book.proofs.Refusals.{first_refused_holds, first_holding_refused, none_refused_where_none_holds, start_decided}

module _ (i : Inputs) (l : List Float) where
  abbrev pub refusal : Result ⊤ Refusal
  refusal = start_refusal i.views (options_of i) i.xs i.ys i.decomposition (length l)

  abbrev pub opening_run : Run
  opening_run = opening i.views (options_of i) i.xs i.ys i.decomposition i.base i.center (length (start_seeds i.views (options_of i) i.xs i.ys i.decomposition i.base i.center))

  -- ---- the reply by the refusal
  start_accepts_where_not_refused : refusal ≡ Ok tt → start_of i l ≡ Ok opening_run
  start_accepts_where_not_refused z = (start_accepted i.views (options_of i) i.xs i.ys i.decomposition i.base i.center l z).0

  start_refuses_where_refused : (r : Refusal) → refusal ≡ Err r → start_of i l ≡ Err r
  start_refuses_where_refused r z = (start_refused i.views (options_of i) i.xs i.ys i.decomposition i.base i.center l r z).0

  pub accepted_start_opens_run : (r : Run) → start_of i l ≡ Ok r → (refusal ≡ Ok tt) × (opening_run ≡ r)
  accepted_start_opens_run r h =
      case_result refusal
      (λ u z. let k : ◌≡◌ {A = Result Run Refusal} (Ok opening_run) (Ok r) = sym (start_accepts_where_not_refused z) ∙ h in (z, cc))
      (λ s z. let k : ◌≡◌ {A = Result Run Refusal} (Err s) (Ok r) = sym (start_refuses_where_refused s z) ∙ h in cc)

  refused_start_has_refusal : (r : Refusal) → start_of i l ≡ Err r → refusal ≡ Err r
  refused_start_has_refusal r h =
      case_result refusal
      (λ u z. let k : ◌≡◌ {A = Result Run Refusal} (Ok opening_run) (Err r) = sym (start_accepts_where_not_refused z) ∙ h in cc)
      (λ s z. let k : ◌≡◌ {A = Result Run Refusal} (Err s) (Err r) = sym (start_refuses_where_refused s z) ∙ h in let e : s ≡ r = cc in z ∙ ap Err e)

  pub accepted_start_writes_list : refusal ≡ Ok tt → started_list i l ≡ written (first_list i) l
  unfolding first_list
  accepted_start_writes_list z = (start_accepted i.views (options_of i) i.xs i.ys i.decomposition i.base i.center l z).1

  refused_start_keeps_list : (r : Refusal) → refusal ≡ Err r → started_list i l ≡ l
  refused_start_keeps_list r z = (start_refused i.views (options_of i) i.xs i.ys i.decomposition i.base i.center l r z).1

  pub starts : Starts i l
  starts =
      let d = start_decided i (length l) in
      let ts = start_checks i.views (options_of i) i.xs i.ys i.decomposition (length l) in
      let cs = conditions i (length l) in
      record {
        refuses_rightly = λ r h. first_refused_holds ts cs d r (refused_start_has_refusal r h);
        refuses_all = λ r h. start_refuses_where_refused r (first_holding_refused ts cs d r h);
        leaves_list = λ r h. refused_start_keeps_list r (refused_start_has_refusal r h);
        accepts_others = λ h. (opening_run, start_accepts_where_not_refused (none_refused_where_none_holds ts cs d h));
      }
