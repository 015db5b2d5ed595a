-- `search::next::seed` meets its contract: the part lies within the list, since a seed waits. Assumes nothing.
use Rattle.std.proofs.Common.{◌+◌, ◌*◌, ◌≤◌, ◌<◌, sym, ◌∙◌, arith, rules, length}
use Rattle.std.proofs.Math.Nat.{add-sub_cancel_left}
use Rattle.search.specs.Next.{seed_part}
use Rattle.search.specs.NextLaws.{lent_seed_within_list}
use Rattle.search.proofs.next.seed.Goals as goal

lent_seed_in_list : (c : goal.After-struct_known-1) → 6 * c.args.run.place.at + 6 ≤ length c.args.list.now
lent_seed_in_list c = lent_seed_within_list _ _ (sym c.is_seed_lent.ensures ∙ c.if-not-is_seed_lent.false)

pub returns-then-not-is_seed_lent : goal.returns-then-not-is_seed_lent
unfolding seed_part
returns-then-not-is_seed_lent c = simp (sym c.is_seed_lent.ensures ∙ c.if-not-is_seed_lent.true)

pub overflow_mul-from : goal.overflow_mul-from
overflow_mul-from c = omega (arith, lent_seed_in_list c, c.well_formed)

pub overflow_add-to : goal.overflow_add-to
overflow_add-to c = omega (arith, lent_seed_in_list c, c.well_formed)

pub offset_bounds-list-from : goal.offset_bounds-list-from
offset_bounds-list-from c =
    let h : 6 * c.args.run.place.at < length c.args.list.now = omega (arith, lent_seed_in_list c) in
    search rules

pub slice_bounds-result-end-2 : goal.slice_bounds-result-end-2
slice_bounds-result-end-2 c = omega (arith, lent_seed_in_list c)

pub returns : goal.returns
unfolding seed_part
returns c = simp (sym c.is_seed_lent.ensures ∙ c.if-not-is_seed_lent.false) (rw (add-sub_cancel_left (6 * c.args.run.place.at) 6))
