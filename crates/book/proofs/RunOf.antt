-- The run's record is a function of the book, and it is sound. Assumes nothing.
use Rattle.std.proofs.Common.{◌+◌, ◌*◌, ◌≤◌, arith, ◌≡◌, refl, Bool, true, false, not, List, lt-ltb, le-leb, length, length-append, Float}
use Rattle.common.specs.Tests.{case}
use Rattle.seeds.specs.declared.CandidateSeed.{CandidateSeed}
use Rattle.score.specs.Best.{Chosen, nothing, chosen, no_best, held}
use Rattle.search.specs.Record.{has_place, sound}
use Rattle.search.specs.Laws.{add_up_true}
use Rattle.book.specs.Book.{Inputs, demand, Book, entries, number, current, round_best_of, run_best_of, is_nothing, last_of, tally}
use Rattle.book.proofs.Lists.{Front}
use Rattle.book.proofs.Good.{Good}
use Rattle.book.proofs.Tally.{tally_total}
use Rattle.book.specs.RunOf.{run_of, waiting_of, last_in}

-- a book between the calls and the lent list, in front of which the book's list stands
pub record State (i : Inputs) (b : Book) (l : List Float) : Type 0 where
  pub good : Good i b
  pub there : Front (demand b.inputs) b.list l

-- ---- the fields of the record that the tests read
module _ (b : Book) where
  pub run_demand : (run_of b).place.demand ≡ demand b.inputs
  unfolding run_of
  run_demand = refl

  pub run_over : (run_of b).place.over ≡ b.over
  unfolding run_of
  run_over = refl

  pub run_len : (run_of b).place.len ≡ length b.list
  unfolding run_of
  run_len = refl

  pub run_at : (run_of b).place.at ≡ length b.answered
  unfolding run_of
  run_at = refl

  pub run_number : (run_of b).place.number ≡ number b
  unfolding run_of
  run_number = refl

  pub run_round : (run_of b).place.round ≡ b.round
  unfolding run_of
  run_round = refl

  pub run_rounds : (run_of b).options.refine_rounds ≡ b.inputs.rounds
  unfolding run_of
  run_rounds = refl

  pub run_center : (run_of b).center ≡ b.inputs.center
  unfolding run_of
  run_center = refl

  pub run_waiting : (run_of b).waiting ≡ waiting_of b.waits (current b)
  unfolding run_of
  run_waiting = refl

  pub run_round_best : (run_of b).round_best ≡ held (round_best_of b)
  unfolding run_of
  run_round_best = refl

  pub run_run_best : (run_of b).run_best ≡ held (run_best_of b)
  unfolding run_of
  run_run_best = refl

  pub run_last : (run_of b).last ≡ last_in (last_of (entries b))
  unfolding run_of
  run_last = refl

  pub run_counts : (run_of b).counts ≡ tally (entries b)
  unfolding run_of
  run_counts = refl

  pub run_max : (run_of b).options.max_abs_tilt ≡ b.inputs.max
  unfolding run_of
  run_max = refl

  pub run_one_axis : (run_of b).options.one_axis ≡ b.inputs.one_axis
  unfolding run_of
  run_one_axis = refl

  pub run_share : (run_of b).options.min_counted ≡ b.inputs.share
  unfolding run_of
  run_share = refl

pub is_waiting_of_waiting_of : (x : Bool) (s : CandidateSeed) → (waiting_of x s).is_waiting ≡ x
is_waiting_of_waiting_of true s = refl
is_waiting_of_waiting_of false s = refl

pub found_of_held : (c : Chosen) → (held c).found ≡ not (is_nothing c)
unfolding no_best
found_of_held nothing = refl
found_of_held (chosen w) = refl

pub ruleset run-fields = (run_demand, run_over, run_len, run_at, run_number, run_round, run_rounds, run_center, run_waiting, run_counts, run_max, run_one_axis, run_share, is_waiting_of_waiting_of)

pub ruleset run-bests = (run_round_best, run_run_best, found_of_held)

-- ---- the record is sound
module _ (i : Inputs) (b : Book) (g : Good i b) where
  pub number_le_656 : number b ≤ 656
  number_le_656 =
      let h = g.core in
      let n : number b ≡ length b.earlier + length b.answered = length-append b.earlier b.answered in
      let p = h.few in
      let q = h.in_rounds in
      let r = h.sized.few_rounds in
      case b.over (λ o. let m = g.full o in omega arith) (λ o. let m = g.room o in omega arith)

  pub run_of_sound : sound (run_of b) ≡ true
  unfolding sound has_place
  run_of_sound =
      let h = g.core in
      let z = h.sized in
      let q = h.fits in
      let m = z.most in
      simp (
        run-fields,
        le-leb b.inputs.share 100 z.small_share,
        le-leb b.inputs.rounds 16 z.few_rounds,
        le-leb b.round b.inputs.rounds h.in_rounds,
        add_up_true (tally (entries b)) (number b) number_le_656 (tally_total (entries b)),
        le-leb (length b.list) 512 (omega arith),
        le-leb (6 * length b.list) (demand b.inputs) q,
        le-leb 54 (demand b.inputs) z.least,
        le-leb (demand b.inputs) 3072 m,
      )
      (case b.over (λ o. simp (o, g.calm o)) (λ o. simp (o, lt-ltb (length b.answered) (length b.list) (g.room o))))
