-- `search::start::start` meets its contract: the list is long enough where no refusal holds. Assumes nothing.
use Rattle.std.proofs.Common.{◌≡◌, sym, ◌∙◌, le_trans, length, rules, Err}
use Rattle.search.specs.StartLaws.{start_passed, demand_covers_round_0, options_refused, options_passed, sizes_if_options_pass, start_refused, start_accepted}
use Rattle.search.specs.Start.{start_refusal}
use Rattle.search.proofs.start.start.Goals.{After-lists_refusal}
use Rattle.search.proofs.start.start.Goals as goal

-- where the options pass, the lists decide
refusal_of_lists : (c : After-lists_refusal) → let i = c.args.inputs in start_refusal i.views i.options i.tilt_x_seeds.now i.tilt_y_seeds.now i.decomposition.now (length c.args.list.now) ≡ c.lists_refusal.result
refusal_of_lists c =
    let i = c.args.inputs in
    options_passed i.views i.options i.tilt_x_seeds.now i.tilt_y_seeds.now i.decomposition.now _ (sym c.options_refusal.ensures ∙ c.in_ok-options_refusal.was) ∙ sym c.lists_refusal.ensures

pub returns-in_err-options_refusal : goal.returns-in_err-options_refusal
returns-in_err-options_refusal c =
    let i = c.args.inputs in
    let l = c.args.list.now in
    let e : c.from_residual.result ≡ Err c.in_err-options_refusal.field-0.0 = search rules in
    let r = options_refused i.views i.options i.tilt_x_seeds.now i.tilt_y_seeds.now i.decomposition.now (length l) _ (sym c.options_refusal.ensures ∙ c.in_err-options_refusal.was) in
    let h = start_refused i.views i.options i.tilt_x_seeds.now i.tilt_y_seeds.now i.decomposition.now i.base i.center l _ r in
    record { value = e ∙ sym h.0; list_after = sym h.1 }

pub demand-demand-requires : goal.demand-demand-requires
demand-demand-requires c =
    let i = c.args.inputs in
    sizes_if_options_pass i.views i.options i.tilt_x_seeds.now i.tilt_y_seeds.now i.decomposition.now (length c.args.list.now) (sym c.options_refusal.ensures ∙ c.in_ok-options_refusal.was)

pub returns-in_err-lists_refusal : goal.returns-in_err-lists_refusal
returns-in_err-lists_refusal c =
    let i = c.args.inputs in
    let l = c.args.list.now in
    let e : c.from_residual-in_err-lists_refusal.result ≡ Err c.in_err-lists_refusal.field-0.0 = search rules in
    let p = refusal_of_lists (goal.at.returns-in_err-lists_refusal c).After-lists_refusal in
    let h = start_refused i.views i.options i.tilt_x_seeds.now i.tilt_y_seeds.now i.decomposition.now i.base i.center l _ (p ∙ c.in_err-lists_refusal.was) in
    record { value = e ∙ sym h.0; list_after = sym h.1 }

pub initial_seed_grid-len-requires : goal.initial_seed_grid-len-requires
initial_seed_grid-len-requires c =
    let i = c.args.inputs in
    let p = refusal_of_lists (goal.at.initial_seed_grid-len-requires c).After-lists_refusal in
    let h = start_passed i.views i.options i.tilt_x_seeds.now i.tilt_y_seeds.now i.decomposition.now _ (p ∙ c.in_ok-lists_refusal.was) in
    record { x_seeds_len_bound = (h.sizes.x_max, h.sizes.y_max); y_seeds_in_bounds = le_trans (demand_covers_round_0 _ _ _) h.demand_fits }

pub returns : goal.returns
returns c =
    let i = c.args.inputs in
    let p = refusal_of_lists (goal.at.returns c).After-lists_refusal in
    let h = start_accepted i.views i.options i.tilt_x_seeds.now i.tilt_y_seeds.now i.decomposition.now i.base i.center c.args.list.now (p ∙ c.in_ok-lists_refusal.was) in
    record { value = rw (c.opening.ensures, c.demand-demand.ensures, c.initial_seed_grid-len.ensures.count_is) (sym h.0); list_after = c.initial_seed_grid-len.ensures.list_is ∙ sym h.1 }
