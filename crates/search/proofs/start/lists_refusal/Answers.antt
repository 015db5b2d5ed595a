-- `search::start::lists_refusal` meets its contract: each answer with the tests that led to it, then the further refusals. Assumes nothing.
use Rattle.std.proofs.Common.{◌≡◌, tests, refl, sym, ◌∙◌, cond, le-ltb, lt-ltb, ltb, ap, not, ◌&&◌, rules, Err}
use Rattle.common.specs.Checks.{first_refusal}
use Rattle.common.specs.declared.Refusal.TheVariants.{TiltNotFinite, ListTooShort}
use Rattle.float.specs.Float.{is_finite}
use Rattle.search.specs.Start.{good_seed, lists_checks, further_checks}
use Rattle.search.proofs.Seeds.{list_all_every}
use Rattle.search.proofs.start.lists_refusal.Goals.{After-all_finite-2}
use Rattle.search.proofs.start.lists_refusal.Goals as goal

-- where each seed is good, the checks that are left
refusals_after_good_seeds : (c : After-all_finite-2) → let i = c.args.inputs in
    first_refusal (lists_checks i.views i.options i.tilt_x_seeds.now i.tilt_y_seeds.now i.decomposition.now c.args.list_len)
    ≡ cond (not (c.all_finite.result && c.all_finite-2.result)) (Err TiltNotFinite)
    (cond (ltb c.args.list_len c.args.demand) (Err ListTooShort) (first_refusal (further_checks i.options i.tilt_y_seeds.now i.decomposition.now)))
refusals_after_good_seeds c =
    let i = c.args.inputs in
    rw (
      sym (c.all_seeds.ensures (good_seed i.options.max_abs_tilt) (λ s b h. search (rules, tests))) ∙ c.if-not-all_seeds.false,
      sym (c.all_finite.ensures ∙ list_all_every is_finite i.tilt_x_seeds.now),
      sym (c.all_finite-2.ensures ∙ list_all_every is_finite i.tilt_y_seeds.now),
      sym c.requires,
    )
    refl

pub returns-then-not-all_finite : goal.returns-then-not-all_finite
returns-then-not-all_finite c = sym (refusals_after_good_seeds (goal.at.returns-then-not-all_finite c).After-all_finite-2 ∙ rw (ap not c.if-not-all_finite.true) refl)

pub returns-then-list_len-demand : goal.returns-then-list_len-demand
returns-then-list_len-demand c =
    sym (refusals_after_good_seeds (goal.at.returns-then-list_len-demand c).After-all_finite-2 ∙ rw (ap not c.if-not-all_finite.false, lt-ltb _ _ c.if-list_len-demand.true) refl)

pub returns : goal.returns
returns c =
    sym
    (refusals_after_good_seeds (goal.at.returns c).After-all_finite-2 ∙ rw (ap not c.if-not-all_finite.false, le-ltb _ _ c.if-list_len-demand.false) (sym c.further_refusal.ensures))
