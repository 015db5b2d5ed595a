-- An accepted Start opens the book: its run, the list that it writes, and what holds of them. Assumes nothing.
use Rattle.std.proofs.Common.{ℕ, ◌+◌, ◌*◌, ◌/◌, ◌≤◌, ◌<◌, mul-le-mul, arith, ◌≡◌, refl, sym, ◌∙◌, inl, ⊎_elim, Bool, true, false, ◌&&◌, cond, true≢false, List, [], ◌∷◌, ltb-true, ltb-false, ltb, eqb, length, Float, Ok}
use Rattle.std.specs.Float.Ieee.{eq}
use mathlib.Core.List.Memᴰ
use mathlib.Core.List.{Memᴰ}
use lib.Dec.{eqb-suc-zero}
use Rattle.common.specs.Tests.{case, both_true}
use Rattle.common.specs.Each.{All, every}
use Rattle.float.specs.Float.{is_finite}
use Rattle.float.specs.Literals.{plus_zero}
use Rattle.seeds.specs.declared.CandidateSeed.{CandidateSeed}
use Rattle.seeds.specs.Merge.{keep}
use Rattle.seeds.specs.Rules.{in_bound, untilted_y}
use Rattle.seeds.proofs.RulesLaws.{initial_list_length_le}
use Rattle.seeds.specs.Layout.{all_seeds, seed_at, written}
use Rattle.seeds.specs.LayoutLaws.{read_length}
use Rattle.seeds.proofs.Facts.{initial_list_all}
use Rattle.score.specs.Best.{best_of, first_unbeaten}
use Rattle.search.specs.declared.run.Run.{Run}
use Rattle.search.specs.Start.{positive, good_seed, only_zero, untilted_seed, demand_of, opening_of, start_checks}
use Rattle.search.specs.StartLaws.{StartPassed, start_passed}
use Rattle.journal.specs.Counts.{count_in}
use Rattle.book.specs.Book.{Inputs, demand, scored_of, round_best_of, run_best_of, step_of, first_list, is_empty, opened, last_of, tally}
use Rattle.book.specs.Conditions.{conditions}
use Rattle.book.specs.Trace.{handed_in_round}
use Rattle.book.specs.Theorem.{options_of, start_of, started_list}
use Rattle.book.proofs.Refusals.{none_holds_where_none_refused, decides_only_zero, start_decided}
use Rattle.book.proofs.Starts.{refusal, opening_run, accepted_start_opens_run, accepted_start_writes_list}
use Rattle.book.proofs.Lists.{Front, front_of_written}
use Rattle.book.proofs.Planned.{opened_planned}
use Rattle.book.proofs.Seeds.{Seeded}
use Rattle.book.proofs.Made.{opened_list_by_rule}
use Rattle.book.proofs.Good.{Core}
use Rattle.book.specs.RunOf.{run_of}
use Rattle.book.proofs.RunOf.{State}

length_zero_is_empty : (ss : List CandidateSeed) → eqb (length ss) 0 ≡ is_empty ss
length_zero_is_empty [] = refl
length_zero_is_empty (s ∷ ss) = eqb-suc-zero (length ss)

opening_is_run_of_opened : (i : Inputs) → opening_of (options_of i) i.center (demand_of (length i.decomposition / 6) (length i.xs) (length i.ys)) (length (first_list i)) ≡ run_of (opened i)
unfolding opening_of run_of opened demand demand_of step_of round_best_of run_best_of scored_of best_of first_unbeaten last_of tally count_in
opening_is_run_of_opened i = rw (length_zero_is_empty (first_list i))

-- ---- the demand
demand_of_is_demand : (i : Inputs) → demand_of (length i.decomposition / 6) (length i.xs) (length i.ys) ≡ demand i
unfolding demand_of demand
demand_of_is_demand i = refl

at_least_54_bounds : (n : ℕ) → (54 ≤ cond (ltb n 54) 54 n) × (n ≤ cond (ltb n 54) 54 n) × ((m : ℕ) → 54 ≤ m → n ≤ m → cond (ltb n 54) 54 n ≤ m)
at_least_54_bounds n = case (ltb n 54)
    (λ e. let p = ltb-true n 54 e in simp e (omega arith, omega arith, λ m a b. a))
    (λ e. let p = ltb-false n 54 e in simp e (p, omega arith, λ m a b. b))

-- ---- every seed of the decomposition lies within the bound
all_of_every : {A : Type 0} (p : A → Bool) (xs : List A) → every p xs ≡ true → All (λ x. p x ≡ true) xs
unfolding every
all_of_every p [] h = tt
all_of_every p (x ∷ xs) h = go (p x) refl (all_of_every p xs) h
  where
    go : (c : Bool) → p x ≡ c → (every p xs ≡ true → All (λ y. p y ≡ true) xs) → (c && every p xs) ≡ true → (p x ≡ true) × All (λ y. p y ≡ true) xs
    go true e f k = (e, f k)
    go false e f k = absurd (true≢false (sym k))

good_seed_within_bound : (max : Float) (s : CandidateSeed) → good_seed max s ≡ true → in_bound max s.sensor ≡ true
unfolding good_seed
good_seed_within_bound max s h =
    let k = s.reference_k in
    let t = s.sensor in
    (both_true (positive k.fx && positive k.fy && is_finite k.cx && is_finite k.cy && is_finite t.tilt_x && is_finite t.tilt_y) (in_bound max t) h).1

good_seeds_seeded : (i : Inputs) (ss : List CandidateSeed) → All (λ s. good_seed i.max s ≡ true) ss
    → (i.one_axis ≡ true → All (λ s. untilted_seed s ≡ true) ss) → All (Seeded i 0) ss
good_seeds_seeded i [] h u = tt
good_seeds_seeded i (s ∷ ss) h u =
    (record { within = good_seed_within_bound i.max s h.0; untilted = λ one. (u one).0; later = λ one p. absurd (omega arith) }, good_seeds_seeded i ss h.1 (λ one. (u one).1))

only_zero_members : (ys : List Float) → only_zero ys ≡ true → (y : Float) → Memᴰ y ys → eq y plus_zero ≡ true
only_zero_members ys h y m =
    let z = (decides_only_zero ys).holds h in
    ⊎_elim
    (λ e. rw e z.2)
    (λ n. absurd (Memᴰ.not-nil n))
    (Memᴰ.cases_cons (rw z.1 at m))

module _ (i : Inputs) (l : List Float) (z : refusal i l ≡ Ok tt) where
  abbrev decomposition_seeds : ℕ
  decomposition_seeds = length i.decomposition / 6

  abbrev x_tilts : ℕ
  x_tilts = length i.xs

  abbrev y_tilts : ℕ
  y_tilts = length i.ys

  accepted_start_passed : StartPassed i.views (options_of i) i.xs i.ys i.decomposition (length l)
  accepted_start_passed = start_passed i.views (options_of i) i.xs i.ys i.decomposition (length l) z

  first_list_length_le : length (first_list i) ≤ decomposition_seeds + x_tilts * y_tilts
  unfolding first_list
  first_list_length_le =
      let e : length (all_seeds i.decomposition) ≡ decomposition_seeds = read_length (λ m. seed_at m 0) 6 decomposition_seeds i.decomposition in
      rw e at (initial_list_length_le (all_seeds i.decomposition) i.xs i.ys i.base i.max)

  first_seeds_le_512 : decomposition_seeds + x_tilts * y_tilts ≤ 512
  first_seeds_le_512 =
      let s = accepted_start_passed.sizes in
      let d = s.decomposition_max in
      let p : x_tilts * y_tilts ≤ 16 * 16 = mul-le-mul s.x_max s.y_max in
      omega arith

  demand_covers_first_seeds : (54 ≤ demand i) × (6 * (decomposition_seeds + x_tilts * y_tilts) ≤ demand i)
  unfolding demand
  demand_covers_first_seeds = let m = at_least_54_bounds (6 * (decomposition_seeds + x_tilts * y_tilts)) in (m.0, m.1)

  demand_le_3072 : demand i ≤ 3072
  unfolding demand
  demand_le_3072 = let p = first_seeds_le_512 in (at_least_54_bounds (6 * (decomposition_seeds + x_tilts * y_tilts))).2 3072 (omega arith) (omega arith)

  demand_le_lent : demand i ≤ length l
  demand_le_lent = rw demand_of_is_demand at accepted_start_passed.demand_fits

  first_list_in_front : Front (demand i) (first_list i) (written (first_list i) l)
  first_list_in_front = front_of_written (demand i) (first_list i) l demand_le_lent (let p = first_list_length_le in let q = demand_covers_first_seeds.1 in omega arith)

  -- in a one-axis run the typed tilts about y, and those of the decomposition, are zeros
  typed_y_tilts_zero : i.one_axis ≡ true → (y : Float) → Memᴰ y i.ys → eq y plus_zero ≡ true
  typed_y_tilts_zero one y m = only_zero_members i.ys (accepted_start_passed.one_y one) y m

  first_list_seeded : All (Seeded i 0) (first_list i)
  unfolding first_list
  first_list_seeded =
      let ds = all_seeds i.decomposition in
      initial_list_all (Seeded i 0) ds i.xs i.ys i.base i.max
      (good_seeds_seeded i ds (all_of_every (good_seed i.max) ds accepted_start_passed.good_seeds) (λ one. all_of_every untilted_seed ds (accepted_start_passed.untilted_seeds one)))
      (λ x y m n b. record { within = b; untilted = λ one. unfold untilted_y in typed_y_tilts_zero one y n; later = λ one p. absurd (omega arith) })

  nonempty_list_has_length : (ss : List CandidateSeed) → is_empty ss ≡ false → 0 < length ss
  nonempty_list_has_length [] h = absurd (true≢false h)
  nonempty_list_has_length (s ∷ ss) h = omega arith

  -- the bound is finite, since refusal 3 doesn't hold
  bound_finite : is_finite i.max ≡ true
  bound_finite =
      let n = none_holds_where_none_refused (start_checks i.views (options_of i) i.xs i.ys i.decomposition (length l)) (conditions i (length l)) (start_decided i (length l)) z in
      case (is_finite i.max) (λ e. e) (λ e. absurd (n.1.1.0 (inl e)))

  opened_core : Core (opened i)
  unfolding opened
  opened_core = record {
    sized = record { few_rounds = accepted_start_passed.sizes.rounds_max; least = demand_covers_first_seeds.0; most = demand_le_3072; finite_bound = bound_finite; small_bound = accepted_start_passed.bound_small; small_share = accepted_start_passed.share_most };
    in_rounds = omega arith;
    few = let p = first_list_length_le in let q = first_seeds_le_512 in omega arith;
    fits = let p = first_list_length_le in let q = demand_covers_first_seeds.1 in omega arith;
    seeds = first_list_seeded;
    proper = tt;
    numbered = tt;
    planned = opened_planned i;
    per_round = record { listed = λ p. absurd (omega arith); before = λ k. unfold handed_in_round keep in omega arith };
    made = opened_list_by_rule i;
  }

  empty_list_has_no_length : (ss : List CandidateSeed) → is_empty ss ≡ true → 0 ≡ length ss
  empty_list_has_no_length [] h = refl
  empty_list_has_no_length (s ∷ ss) h = absurd (true≢false (sym h))

  pub opened_state : State i (opened i) (written (first_list i) l)
  unfolding opened run_best_of scored_of best_of first_unbeaten
  opened_state = record {
    good = record { inputs_are = refl; core = opened_core; room = λ o. nonempty_list_has_length (first_list i) o; full = λ o. empty_list_has_no_length (first_list i) o; calm = λ o. refl; finished = λ o. inl refl };
    there = first_list_in_front;
  }

-- ---- an accepted Start
pub record Opens (i : Inputs) (l : List Float) (r : Run) : Type 0 where
  pub run_is : r ≡ run_of (opened i)
  pub state : State i (opened i) (started_list i l)

pub start_opens_book : (i : Inputs) (l : List Float) (r : Run) → start_of i l ≡ Ok r → Opens i l r
start_opens_book i l r h =
    let a = accepted_start_opens_run i l r h in
    record { run_is = sym a.1 ∙ same i; state = rw (accepted_start_writes_list i l a.0) (opened_state i l a.0) }
  where
    same : (i : Inputs) → opening_run i l ≡ run_of (opened i)
    same i = unfold first_list in opening_is_run_of_opened i
