-- How a run ends, from any book between the calls on: the calls leave a sound record, an accepted Answer leaves less to
-- do, and a host whose answers are accepted reaches the end, whatever list each call is lent. Assumes nothing.
use Rattle.std.proofs.Common.{ℕ, zero, suc, ◌+◌, ◌-◌, ◌*◌, ◌≤◌, ◌<◌, arith, ◌≡◌, refl, sym, ap, subst, ◌∙◌, true, false, true≢false, List, [], ◌∷◌, ltb-true, ltb-false, lt-ltb, le-ltb, le-leb, ltb, length, length-append, Float, Ok, Err}
use Rattle.common.specs.declared.Refusal.{Refusal}
use Rattle.common.specs.declared.Refusal.TheVariants.{NoSeedWaiting}
use Rattle.common.specs.Tests.{case}
use Rattle.seeds.specs.declared.CandidateSeed.{CandidateSeed}
use Rattle.seeds.specs.Layout.{seed_at}
use Rattle.seeds.proofs.AnyOffsets.{most_seeds_le_nine, later_list_le_most_seeds}
use Rattle.score.specs.declared.outcome.Finding.{Finding}
use Rattle.score.specs.Reasons.{Outcome}
use Rattle.score.specs.Evaluation.{outcome_of, finding_refusal}
use Rattle.score.specs.Best.{or_best}
use Rattle.score.specs.declared.best.Candidate.{Candidate}
use Rattle.journal.proofs.CountLaws.{total_with_count}
use Rattle.journal.specs.Outcome.{recorded_as}
use Rattle.journal.specs.Report.{total}
use Rattle.search.specs.declared.run.Options.{Options}
use Rattle.search.specs.declared.run.Place.{Place}
use Rattle.search.specs.declared.run.Run.{Run}
use Rattle.search.specs.Laws.{add_up_true}
use Rattle.search.specs.Record.{sound, has_place, awaiting, entered, next_step, round_opened, ended}
use Rattle.search.specs.declared.next.Handed.TheVariants as handed-as
use Rattle.search.specs.Next.{next_refusal, next_def}
use Rattle.search.specs.Answer as ans
use Rattle.search.specs.NextLaws.{next_if_refused, next_if_over, next_gives_candidate}
use Rattle.search.specs.AnswerLaws.{answer_passed}
use Rattle.book.specs.Book.{Inputs, demand, Book, entries, number}
use Rattle.book.specs.Lent.{Lent, next_with, answer_with, after_lent_call, through, accepted_by, accepted, still_left, Turn, AnswerAccepted, AllAccepted, turns}
use Rattle.book.specs.Theorem.{Ends}
use Rattle.book.proofs.Cases.{case_list, case_result}
use Rattle.book.proofs.Good.{Core, Good, answered_le_list}
use Rattle.book.proofs.Tally.{tally_total}
use Rattle.book.specs.RunOf.{run_of}
use Rattle.book.proofs.RunOf.{run_number}

-- ---- what stays true of the record
-- the limits of its numbers
pub record Sizes (i : Inputs) (r : Run) : Type 0 where
  pub small_share : r.options.min_counted ≤ 100
  pub few_rounds : r.options.refine_rounds ≤ 16
  pub in_rounds : r.place.round ≤ r.options.refine_rounds
  pub demand_is : r.place.demand ≡ demand i
  pub least : 54 ≤ demand i
  pub most : demand i ≤ 3072
  pub list_fits : 6 * r.place.len ≤ demand i
  pub few : r.place.number + still_left r ≤ 656
  pub adds_up : total r.counts ≡ r.place.number

-- the record between the calls: a seed is left unless the run is over, and none waits once it is
pub record BetweenCalls (i : Inputs) (r : Run) : Type 0 where
  pub sizes : Sizes i r
  pub room : r.place.over ≡ false → r.place.at < r.place.len
  pub calm : r.place.over ≡ true → r.waiting.is_waiting ≡ false

between_calls_sound : (i : Inputs) (r : Run) → BetweenCalls i r → sound r ≡ true
unfolding sound has_place
between_calls_sound i r h =
    let s = h.sizes in
    let f = s.few in
    let d = s.demand_is in
    let m = s.most in
    let l = s.least in
    let q = s.list_fits in
    simp (
      le-leb r.options.min_counted 100 s.small_share,
      le-leb r.options.refine_rounds 16 s.few_rounds,
      le-leb r.place.round r.options.refine_rounds s.in_rounds,
      add_up_true r.counts r.place.number (omega arith) s.adds_up,
      le-leb r.place.len 512 (omega arith),
      le-leb (6 * r.place.len) r.place.demand (omega arith),
      le-leb 54 r.place.demand (omega arith),
      le-leb r.place.demand 3072 (omega arith),
    )
    (case r.place.over (λ o. simp (o, h.calm o)) (λ o. simp (o, lt-ltb r.place.at r.place.len (h.room o))))

-- ---- Next
awaiting_keeps_between_calls : (i : Inputs) (r : Run) (s : CandidateSeed) → r.place.over ≡ false → BetweenCalls i r → BetweenCalls i (awaiting r s)
unfolding awaiting
awaiting_keeps_between_calls i r s o h = record { sizes = same h.sizes; room = h.room; calm = λ e. absurd (true≢false (sym e ∙ o)) }
  where
    same : Sizes i r → Sizes i (awaiting r s)
    same z = unfold awaiting in record { small_share = z.small_share; few_rounds = z.few_rounds; in_rounds = z.in_rounds; demand_is = z.demand_is; least = z.least; most = z.most; list_fits = z.list_fits; few = z.few; adds_up = z.adds_up }

-- Next leaves the run as it is, or lets a seed wait
next_stays_or_awaits : (P : Run → Type 0) (r : Run) (l : List Float) → P r → ((s : CandidateSeed) → r.place.over ≡ false → P (awaiting r s)) → P (next_def r l).run
next_stays_or_awaits P r l p q =
    case_result (next_refusal r (length l))
    (λ u z. case r.place.over (λ o. rw (next_if_over r l z o) p) (λ o. rw (next_gives_candidate r l z o) (q (seed_at l r.place.at) o)))
    (λ e z. rw (next_if_refused r l e z) p)

next_keeps_between_calls : (i : Inputs) (r : Run) (l : List Float) → BetweenCalls i r → BetweenCalls i (next_def r l).run
next_keeps_between_calls i r l h = next_stays_or_awaits (BetweenCalls i) r l h (λ s o. awaiting_keeps_between_calls i r s o h)

awaiting_keeps_place_and_options : (r : Run) (s : CandidateSeed) → ((awaiting r s).place ≡ r.place) × ((awaiting r s).options ≡ r.options)
unfolding awaiting
awaiting_keeps_place_and_options r s = (refl, refl)

next_keeps_place_and_options : (r : Run) (l : List Float) → ((next_def r l).run.place ≡ r.place) × ((next_def r l).run.options ≡ r.options)
next_keeps_place_and_options r l = next_stays_or_awaits (λ s. (s.place ≡ r.place) × (s.options ≡ r.options)) r l (refl, refl) (λ s o. awaiting_keeps_place_and_options r s)

-- ---- the end of a round
-- the record when a round ends: all seeds of its list are answered, and none waits
record RoundAnswered (i : Inputs) (r : Run) : Type 0 where
  sizes : Sizes i r
  answered : r.place.at ≡ r.place.len
  calm : r.waiting.is_waiting ≡ false
  going : r.place.over ≡ false

-- s comes from r by closing its round: no answer is added, and no more is left
record RoundClosed (i : Inputs) (r s : Run) : Type 0 where
  lasts : BetweenCalls i s
  same_number : s.place.number ≡ r.place.number
  no_more : still_left s ≤ still_left r

end_closes_round : (i : Inputs) (r : Run) → RoundAnswered i r → RoundClosed i r (ended r)
unfolding ended
end_closes_round i r f = record {
  lasts = record { sizes = same f.sizes; room = λ o. absurd (true≢false o); calm = λ o. f.calm };
  same_number = refl;
  no_more = omega arith;
}
  where
    same : Sizes i r → Sizes i (ended r)
    same z = unfold ended in record { small_share = z.small_share; few_rounds = z.few_rounds; in_rounds = z.in_rounds; demand_is = z.demand_is; least = z.least; most = z.most; list_fits = z.list_fits; few = z.few; adds_up = z.adds_up }

opened_round_sizes : (i : Inputs) (r : Run) (n : ℕ) → n ≤ 9 → r.place.round < r.options.refine_rounds → RoundAnswered i r → Sizes i (round_opened r n)
unfolding round_opened
opened_round_sizes i r n h k f =
    let z = f.sizes in
    let e = f.answered in
    let p = z.few in
    let q = z.least in
    record { small_share = z.small_share; few_rounds = z.few_rounds; in_rounds = omega arith; demand_is = z.demand_is; least = z.least; most = z.most; list_fits = omega arith; few = omega arith; adds_up = z.adds_up }

opened_round_closes_round : (i : Inputs) (r : Run) (n : ℕ) → 0 < n → n ≤ 9 → r.place.round < r.options.refine_rounds → RoundAnswered i r → RoundClosed i r (round_opened r n)
opened_round_closes_round i r n p h k f = record { lasts = record { sizes = opened_round_sizes i r n h k f; room = room r n p; calm = calm r n f.calm }; same_number = number r n; no_more = less r n h k }
  where
    room : (r : Run) (n : ℕ) → 0 < n → (round_opened r n).place.over ≡ false → (round_opened r n).place.at < (round_opened r n).place.len
    room r n p o = unfold round_opened in p

    calm : (r : Run) (n : ℕ) → r.waiting.is_waiting ≡ false → (round_opened r n).place.over ≡ true → (round_opened r n).waiting.is_waiting ≡ false
    calm r n w o = unfold round_opened in w

    number : (r : Run) (n : ℕ) → (round_opened r n).place.number ≡ r.place.number
    number r n = unfold round_opened in refl

    less : (r : Run) (n : ℕ) → n ≤ 9 → r.place.round < r.options.refine_rounds → still_left (round_opened r n) ≤ still_left r
    less r n h k = unfold round_opened in omega arith

empty_round_is_answered : (i : Inputs) (r : Run) → r.place.round < r.options.refine_rounds → RoundAnswered i r → RoundAnswered i (round_opened r 0)
empty_round_is_answered i r k f = record { sizes = opened_round_sizes i r 0 (omega arith) k f; answered = at r; calm = calm r f.calm; going = going r f.going }
  where
    at : (r : Run) → (round_opened r 0).place.at ≡ (round_opened r 0).place.len
    at r = unfold round_opened in refl

    calm : (r : Run) → r.waiting.is_waiting ≡ false → (round_opened r 0).waiting.is_waiting ≡ false
    calm r w = unfold round_opened in w

    going : (r : Run) → r.place.over ≡ false → (round_opened r 0).place.over ≡ false
    going r o = unfold round_opened in o

empty_round_then_closed : (i : Inputs) (r s : Run) → r.place.round < r.options.refine_rounds → RoundClosed i (round_opened r 0) s → RoundClosed i r s
unfolding round_opened
empty_round_then_closed i r s k f = record { lasts = f.lasts; same_number = f.same_number; no_more = let n = f.no_more in omega arith }

next_seeds_le_nine : (r : Run) (w : Candidate) → length (ans.next_seeds r w) ≤ 9
unfolding ans.next_seeds
next_seeds_le_nine r w = let h = later_list_le_most_seeds r.options.one_axis (next_step r) w.sensor w.camera.k r.options.max_abs_tilt in let n = most_seeds_le_nine r.options.one_axis in omega arith

abbrev Closes : ℕ → Type 0
Closes k = (i : Inputs) (r : Run) (l : List Float) → RoundAnswered i r → r.place.round + k ≡ r.options.refine_rounds → RoundClosed i r (ans.close_round k r l).run

opened_round_counts_on : (r : Run) (n : ℕ) → ((round_opened r n).place.round ≡ r.place.round + 1) × ((round_opened r n).options ≡ r.options)
unfolding round_opened
opened_round_counts_on r n = (refl, refl)

close_round_closes_suc : (k : ℕ) → Closes k → Closes (suc k)
unfolding ans.close_round
close_round_closes_suc k ih i r l f e =
    let b = or_best r.round_best r.run_best in
    case b.found
    (λ t. case_list (ans.next_seeds r b.candidate)
    (λ q. simp (ans.close_round, t, q) (empty_round_then_closed i r _ (omega arith) (ih i (round_opened r 0) l (empty_round_is_answered i r (omega arith) f) (rw ((opened_round_counts_on r 0).0, (opened_round_counts_on r 0).1) (omega arith)))))
    (λ s ss q. let n : length (s ∷ ss) ≤ 9 = rw q at (next_seeds_le_nine r b.candidate) in simp (ans.close_round, t, q) (opened_round_closes_round i r (length (s ∷ ss)) (omega arith) n (omega arith) f)))
    (λ t. simp (ans.close_round, t) (end_closes_round i r f))

close_round_closes_zero : Closes 0
unfolding ans.close_round
close_round_closes_zero i r l f e = end_closes_round i r f

close_round_closes : (k : ℕ) → Closes k
close_round_closes zero = close_round_closes_zero
close_round_closes (suc k) = close_round_closes_suc k (close_round_closes k)

-- ---- an accepted Answer adds one answer, and less is left
record OneMoreAnswer (i : Inputs) (r s : Run) : Type 0 where
  lasts : BetweenCalls i s
  counts : s.place.number ≡ r.place.number + 1
  less : still_left s < still_left r

entered_sizes : (i : Inputs) (r : Run) (o : Outcome) → r.place.at < r.place.len → Sizes i r → Sizes i (entered r o)
unfolding entered
entered_sizes i r o h z =
    let p = z.few in
    record { small_share = z.small_share; few_rounds = z.few_rounds; in_rounds = z.in_rounds; demand_is = z.demand_is; least = z.least; most = z.most; list_fits = z.list_fits; few = omega arith; adds_up = total_with_count r.counts (recorded_as o) ∙ ap (λ n. n + 1) z.adds_up }

module _ (r : Run) (o : Outcome) where
  none_waits_after_enter : (entered r o).waiting.is_waiting ≡ false
  unfolding entered
  none_waits_after_enter = refl

  enter_keeps_over : (entered r o).place.over ≡ r.place.over
  unfolding entered
  enter_keeps_over = refl

  enter_counts_in_round : ((entered r o).place.at ≡ r.place.at + 1) × ((entered r o).place.len ≡ r.place.len)
  unfolding entered
  enter_counts_in_round = (refl, refl)

  enter_counts_in_run : (entered r o).place.number ≡ r.place.number + 1
  unfolding entered
  enter_counts_in_run = refl

  enter_leaves_less : r.place.at < r.place.len → still_left (entered r o) < still_left r
  unfolding entered
  enter_leaves_less h = omega arith

closed_after_enter_is_one_more : (i : Inputs) (r : Run) (o : Outcome) (s : Run) → r.place.at < r.place.len → RoundClosed i (entered r o) s → OneMoreAnswer i r s
closed_after_enter_is_one_more i r o s h f = record { lasts = f.lasts; counts = f.same_number ∙ enter_counts_in_run r o; less = let p = f.no_more in let q = enter_leaves_less r o h in omega arith }

enter_is_one_more_answer : (i : Inputs) (r : Run) (l : List Float) (o : Outcome) → BetweenCalls i r → r.place.over ≡ false → OneMoreAnswer i r (ans.enter_def r l o).run
unfolding ans.enter_def
enter_is_one_more_answer i r l o h g =
    let e = entered r o in
    let room = h.room g in
    let z = entered_sizes i r o room h.sizes in
    case (ltb e.place.at e.place.len)
    (λ t. simp t (record {
      lasts = record { sizes = z; room = λ q. ltb-true e.place.at e.place.len t; calm = λ q. none_waits_after_enter r o };
      counts = enter_counts_in_run r o;
      less = enter_leaves_less r o room;
    }))
    (λ t.
    let p = ltb-false e.place.at e.place.len t in
    let x = (enter_counts_in_round r o).0 in
    let y = (enter_counts_in_round r o).1 in
    let n = z.in_rounds in
    let full : RoundAnswered i e = record { sizes = z; answered = omega arith; calm = none_waits_after_enter r o; going = enter_keeps_over r o ∙ g } in
    simp t (closed_after_enter_is_one_more i r o _ room (close_round_closes (e.options.refine_rounds - e.place.round) i e l full (omega arith))))

-- where a seed waits the run isn't over
run_not_over_where_seed_waits : (i : Inputs) (r : Run) → BetweenCalls i r → r.waiting.is_waiting ≡ true → r.place.over ≡ false
run_not_over_where_seed_waits i r h w = case r.place.over (λ o. absurd (true≢false (sym w ∙ h.calm o))) (λ o. o)

module _ (i : Inputs) (r : Run) (h : BetweenCalls i r) (l : List Float) (f : Finding) (rows : List Float) (flags : List ℕ) where
  accepted_answer_is_one_more : ans.answer_refusal r (length l) f rows flags ≡ Ok tt → OneMoreAnswer i r (ans.answer_def r f rows flags l).reply.run
  unfolding ans.answer_def ans.outcome_for
  accepted_answer_is_one_more z =
      let p = answer_passed r (length l) f rows flags z in
      rw (z, ans.answer_def) (enter_is_one_more_answer i r l (outcome_of r.options.min_counted f r.waiting.seed.sensor r.center rows flags) h (run_not_over_where_seed_waits i r h p.waits))

  refused_answer_keeps_run : (e : Refusal) → ans.answer_refusal r (length l) f rows flags ≡ Err e → (ans.answer_def r f rows flags l).reply.run ≡ r
  unfolding ans.answer_def
  refused_answer_keeps_run e z = rw (z, ans.answer_def)

-- ---- a whole list of calls
call_keeps_between_calls : (i : Inputs) (r : Run) (c : Lent) → BetweenCalls i r → BetweenCalls i (after_lent_call r c) × ((after_lent_call r c).place.number ≡ r.place.number + accepted_by r c)
unfolding after_lent_call accepted_by
call_keeps_between_calls i r (next_with l) h = (next_keeps_between_calls i r l h, ap (λ p. p.number) (next_keeps_place_and_options r l).0 ∙ sym (plus_zero_lem r.place.number))
  where
    plus_zero_lem : (n : ℕ) → n + 0 ≡ n
    plus_zero_lem n = omega arith
call_keeps_between_calls i r (answer_with l f rows flags) h =
    case_result (ans.answer_refusal r (length l) f rows flags)
    (λ u z. let a = accepted_answer_is_one_more i r h l f rows flags z in rw (z, accepted_by) (a.lasts, a.counts))
    (λ e z. let k = refused_answer_keeps_run i r h l f rows flags e z in rw (z, k, accepted_by) (h, omega arith))

calls_keep_between_calls : (i : Inputs) (r : Run) (cs : List Lent) → BetweenCalls i r → BetweenCalls i (through r cs) × ((through r cs).place.number ≡ r.place.number + accepted r cs)
unfolding through accepted
calls_keep_between_calls i r [] h = (h, omega arith)
calls_keep_between_calls i r (c ∷ cs) h =
    let a = call_keeps_between_calls i r c h in
    let b = calls_keep_between_calls i (after_lent_call r c) cs a.0 in
    let x = a.1 in
    let y = b.1 in
    (b.0, omega arith)

-- ---- which calls are accepted
module _ (i : Inputs) (r : Run) (h : BetweenCalls i r) where
  next_hands_out : r.place.over ≡ false → r.waiting.is_waiting ≡ false → (l : List Float) → demand i ≤ length l
      → next_def r l ≡ record { reply = Ok (handed-as.Candidate r.place.number); run = awaiting r (seed_at l r.place.at) }
  unfolding next_def
  next_hands_out o w l d = let e = h.sizes.demand_is in simp (next_def, between_calls_sound i r h, w, le-ltb (length l) r.place.demand (omega arith), o)

  answer_accepted_where_seed_waits : r.waiting.is_waiting ≡ true → (l : List Float) (f : Finding) (rows : List Float) (flags : List ℕ) → demand i ≤ length l
      → finding_refusal f r.waiting.seed.sensor rows flags ≡ Ok tt → ans.answer_refusal r (length l) f rows flags ≡ Ok tt
  answer_accepted_where_seed_waits w l f rows flags d z = let e = h.sizes.demand_is in simp (ans.answer_refusal, between_calls_sound i r h, w, le-ltb (length l) r.place.demand (omega arith), z)

  -- after Next a seed waits
  seed_waits_after_next : r.place.over ≡ false → (l : List Float) → demand i ≤ length l → (next_def r l).run.waiting.is_waiting ≡ true
  seed_waits_after_next o l d = case r.waiting.is_waiting (λ w. stays w) (λ w. rw (next_hands_out o w l d) (waits r (seed_at l r.place.at)))
    where
      waits : (r : Run) (s : CandidateSeed) → (awaiting r s).waiting.is_waiting ≡ true
      waits r s = unfold awaiting in refl

      stays : r.waiting.is_waiting ≡ true → (next_def r l).run.waiting.is_waiting ≡ true
      stays w = next_stays_or_awaits (λ s. s.waiting.is_waiting ≡ true) r l w (λ s q. waits r s)

  -- a run that is over stays as it is
  over_run_stays : r.place.over ≡ true → (c : Lent) → after_lent_call r c ≡ r
  unfolding after_lent_call
  over_run_stays o (next_with l) = next_stays_or_awaits (λ s. s ≡ r) r l refl (λ s q. absurd (true≢false (sym o ∙ q)))
  over_run_stays o (answer_with l f rows flags) = refused_answer_keeps_run i r h l f rows flags NoSeedWaiting (simp (ans.answer_refusal, between_calls_sound i r h, h.calm o))

calls_keep_over : (i : Inputs) (r : Run) (cs : List Lent) → BetweenCalls i r → r.place.over ≡ true → (through r cs).place.over ≡ true
unfolding through
calls_keep_over i r [] h o = o
calls_keep_over i r (c ∷ cs) h o = subst (λ (s : Run). (through s cs).place.over ≡ true) (sym (over_run_stays i r h o c)) (calls_keep_over i r cs h o)

-- ---- a host whose answers are accepted
-- two records with the same place and options have as much left
same_place_leaves_as_much : (r s : Run) → s.place ≡ r.place → s.options ≡ r.options → still_left s ≡ still_left r
same_place_leaves_as_much r s p o =
    ap (λ (x : Place). x.len - x.at + 9 * (s.options.refine_rounds - x.round)) p
    ∙ ap (λ (x : Options). r.place.len - r.place.at + 9 * (x.refine_rounds - r.place.round)) o

turn_is_one_more_answer : (i : Inputs) (r : Run) (t : Turn) → BetweenCalls i r → r.place.over ≡ false → AnswerAccepted i r t
    → OneMoreAnswer i r (after_lent_call (after_lent_call r (next_with t.to_next)) (answer_with t.to_answer t.finding t.rows t.flags))
unfolding after_lent_call
turn_is_one_more_answer i r t h o k =
    let s = (next_def r t.to_next).run in
    let n = next_keeps_between_calls i r t.to_next h in
    let w = seed_waits_after_next i r h o t.to_next k.0 in
    let a = accepted_answer_is_one_more i s n t.to_answer t.finding t.rows t.flags (answer_accepted_where_seed_waits i s n w t.to_answer t.finding t.rows t.flags k.1 k.2) in
    let p = next_keeps_place_and_options r t.to_next in
    record { lasts = a.lasts; counts = a.counts ∙ ap (λ (x : Place). x.number + 1) p.0; less = let e = same_place_leaves_as_much r s p.0 p.1 in let q = a.less in omega arith }

accepted_turns_reach_end : (i : Inputs) (r : Run) (ts : List Turn) → BetweenCalls i r → AllAccepted i r ts → still_left r ≤ length ts → (through r (turns ts)).place.over ≡ true
unfolding through turns AllAccepted
accepted_turns_reach_end i r [] h k n = case r.place.over (λ o. o) (λ o. absurd (let p = h.room o in omega arith))
accepted_turns_reach_end i r (t ∷ ts) h k n =
    case r.place.over
    (λ o. calls_keep_over i r (turns (t ∷ ts)) h o)
    (λ o. let a = turn_is_one_more_answer i r t h o k.0 in accepted_turns_reach_end i (after_lent_call (after_lent_call r (next_with t.to_next)) (answer_with t.to_answer t.finding t.rows t.flags)) ts a.lasts k.1 (let p = a.less in omega arith))

-- ---- the run that goes with a book between the calls
run_of_between_calls : (i : Inputs) (b : Book) → Good i b → BetweenCalls i (run_of b)
unfolding run_of
run_of_between_calls i b g = record { sizes = subst (λ (j : Inputs). Sizes j (run_of b)) g.inputs_are (sizes b g.core (answered_le_list i b g)); room = g.room; calm = λ o. rw (g.calm o) }
  where
    sizes : (b : Book) → Core b → length b.answered ≤ length b.list → Sizes b.inputs (run_of b)
    sizes b h m = unfold run_of in
        let z = h.sized in
        let c = h.few in
        let r = z.few_rounds in
        let q = h.in_rounds in
        let n = length-append b.earlier b.answered in
        let t = tally_total (entries b) in
        record { small_share = z.small_share; few_rounds = z.few_rounds; in_rounds = q; demand_is = refl; least = z.least; most = z.most; list_fits = h.fits; few = omega arith; adds_up = t }

pub run_ends : (i : Inputs) (b : Book) (cs : List Lent) → Good i b → Ends i (number b) (run_of b) cs (through (run_of b) cs)
unfolding finding_refusal
run_ends i b cs g =
    let r = through (run_of b) cs in
    let a = calls_keep_between_calls i (run_of b) cs (run_of_between_calls i b g) in
    let s = a.0 in
    let n : r.place.number ≡ number b + accepted (run_of b) cs = a.1 ∙ ap (λ (m : ℕ). m + accepted (run_of b) cs) (run_number b) in
    let q = s.sizes.few in
    record {
      is_sound = between_calls_sound i r s;
      number_is = n;
      few = omega arith;
      next_accepted = λ o w l d. ap (λ x. x.reply) (next_hands_out i r s o w l d);
      answer_accepted = answer_accepted_where_seed_waits i r s;
      failed_taken = λ t rows flags. refl;
      reaches_end = λ ts. accepted_turns_reach_end i r ts s;
    }
