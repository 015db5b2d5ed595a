-- `search::next::next` meets its contract: the list is long enough where no refusal holds. Assumes nothing.
use Rattle.std.proofs.Common.{sym, ◌∙◌}
use Rattle.search.specs.NextLaws.{next_seed_within_list, next_if_refused, next_if_over, next_gives_candidate}
use Rattle.search.proofs.next.next.Goals as goal

pub returns-in-Err : goal.returns-in-Err
returns-in-Err c = sym (next_if_refused _ _ _ (sym c.next_refusal.ensures ∙ c.in-Err.is))

pub returns-then-run : goal.returns-then-run
returns-then-run c = sym (next_if_over _ _ (sym c.next_refusal.ensures ∙ c.in_default.is) c.if-run.true)

pub seed_at-requires : goal.seed_at-requires
seed_at-requires c = next_seed_within_list _ _ (sym c.next_refusal.ensures ∙ c.in_default.is) c.if-run.false

pub returns : goal.returns
returns c = rw (c.awaiting.ensures, c.seed_at.ensures) (sym (next_gives_candidate _ _ (sym c.next_refusal.ensures ∙ c.in_default.is) c.if-run.false))
