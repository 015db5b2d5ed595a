-- `search::stop::stop` meets its contract, by the four ways that the call goes. Assumes nothing.
use Rattle.std.proofs.Common.{◌≤◌, ◌≡◌, arith, rules, sym, ap, ◌∙◌, true, length, Ok, Err}
use Rattle.std.specs.Prelude.{Option}
use Rattle.score.specs.declared.best.Candidate.{Candidate}
use Rattle.search.specs.Laws.{bounds_of_sound, accepted_list_has_demand, refused_list_is_short}
use Rattle.search.specs.Record.{sound}
use Rattle.search.specs.Stop.{best_so_far, nothing_left, with_floor}
use Rattle.search.proofs.StopLaws.{stop_unsound, stop_short, stop_with_no_seed_left, stop_with_seeds_left}
use Rattle.search.proofs.stop.stop.Goals.{In_ok-list_refusal}
use Rattle.search.proofs.stop.stop.Goals as goal

-- the run is sound, and the list long enough
sound_and_list_long_enough : (c : In_ok-list_refusal) → (sound c.args.run ≡ true) × (c.args.run.place.demand ≤ length c.args.list.now)
sound_and_list_long_enough c = (sym c.is_sound.ensures ∙ c.if-not-is_sound.false, accepted_list_has_demand c.args.run _ (sym c.list_refusal.ensures ∙ c.in_ok-list_refusal.was))

pub returns-then-not-is_sound : goal.returns-then-not-is_sound
returns-then-not-is_sound c = ap Ok c.nothing_left.ensures ∙ sym (stop_unsound _ _ (sym c.is_sound.ensures ∙ c.if-not-is_sound.true))

pub returns-in_err-list_refusal : goal.returns-in_err-list_refusal
returns-in_err-list_refusal c =
    let e : c.from_residual.result ≡ Err c.in_err-list_refusal.field-0.0 = search rules in
    let h = refused_list_is_short c.args.run _ _ (sym c.list_refusal.ensures ∙ c.in_err-list_refusal.was) in
    e ∙ ap Err h.1 ∙ sym (stop_short _ _ (sym c.is_sound.ensures ∙ c.if-not-is_sound.false) h.0)

pub returns-then-run : goal.returns-then-run
returns-then-run c =
    let p = sound_and_list_long_enough (goal.at.returns-then-run c).In_ok-list_refusal in
    ap Ok (c.nothing_left-then-run.ensures ∙ ap nothing_left c.best_so_far-best.ensures) ∙ sym (stop_with_no_seed_left _ _ p.0 p.1 c.if-run.true)

pub floor_left-requires : goal.floor_left-requires
floor_left-requires c =
    let p = sound_and_list_long_enough (goal.at.floor_left-requires c).In_ok-list_refusal in
    let h = bounds_of_sound _ p.0 in
    (c.if-run.false, omega (arith, h.list_fits, p.1))

pub returns : goal.returns
returns c =
    let p = sound_and_list_long_enough (goal.at.returns c).In_ok-list_refusal in
    let b = ap (λ (x : Option Candidate). with_floor x c.floor_left.result) c.best_so_far-best.ensures in
    ap Ok (c.with_floor.ensures ∙ b ∙ ap (with_floor (best_so_far c.args.run)) c.floor_left.ensures)
    ∙ sym (stop_with_seeds_left _ _ p.0 p.1 c.if-run.false)
