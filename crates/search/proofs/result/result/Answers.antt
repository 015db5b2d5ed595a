-- `search::result::result` meets its contract, by whether the run has a best. Assumes nothing.
use Rattle.std.proofs.Common.{◌≡◌, true, sym, ◌∙◌}
use Rattle.std.specs.Option.{ok_or}
use borrow.Author.Tests.{not-false}
use Rattle.common.specs.declared.Refusal.TheVariants.{NothingScored}
use Rattle.common.specs.Tests.{case}
use Rattle.score.specs.Best.{best_candidate}
use Rattle.search.specs.Record.{sound}
use Rattle.search.specs.declared.run.Run.{Run}
use Rattle.search.specs.Result.{result_def}
use Rattle.search.proofs.result.result.Goals as goal

result_of_over_run : (r : Run) → sound r ≡ true → r.place.over ≡ true → ok_or (best_candidate r.run_best) NothingScored ≡ result_def r
unfolding result_def
result_of_over_run r s o = case r.run_best.found (λ f. simp (result_def, s, o, f)) (λ f. simp (result_def, s, o, f))

pub returns : goal.returns
returns c =
    c.ok_or.ensures.value
    ∙ rw c.candidate.ensures (result_of_over_run c.args.run (sym c.is_sound.ensures ∙ c.if-not-is_sound.false) (not-false _ c.if-not-run.false))
