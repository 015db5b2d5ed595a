-- The theorem about every list of calls at three runs: the run through three rounds, with what was handed out and the
-- winner; a run that is over with 11, in which a negative tilt was tried; and a one-axis run. Assumes nothing.
use Rattle.std.proofs.Common.{◌≤◌, ◌≡◌, refl, inr, true, List, length, Float, Ok}
use Rattle.std.specs.Float.Ieee.{of_bits, add, sub, neg, lt, le, eq}
use mathlib.Core.List.Memᴰ
use Rattle.common.specs.Each.{All, every}
use Rattle.float.specs.Float.{abs_of, is_finite, within}
use Rattle.float.specs.Literals.{plus_zero}
use Rattle.seeds.specs.Merge.{keep, has_near, push, merged_into}
use Rattle.seeds.specs.Rules.{closer, tilt_near, camera_near, near, in_bound, untilted_y, pairs, tilts, seed_grid, initial_list}
use Rattle.seeds.specs.Layout.{read_from}
use Rattle.search.specs.Start.{good_seed, only_zero, too_many, demand_of, start_reply}
use Rattle.book.specs.Trace.{tilt_y_of, handed_in_round, handed, answers}
use Rattle.book.specs.Named.{outcomes_in, handings}
use Rattle.book.specs.Theorem.{start_of, started_list, Wins, TiltTried, Follows}
use Rattle.book.proofs.Theorem.{search_is_book}
use Rattle.cases.specs.Numbers.{bits, quarter}
use Rattle.cases.specs.Words.{f0, sixty}
use Rattle.cases.specs.Lost.{all_lost_inputs, all_lost_run, all_lost_calls}
use Rattle.cases.specs.OneAxis.{starts_so, merged_to_the_first, axis_inputs, axis_run, axis_calls, axis_winner}
use Rattle.cases.specs.Whole.{whole_inputs, whole_run, whole_calls, whole_winner}
use Rattle.cases.proofs.OnWalk.{on_walk}
use Rattle.cases.proofs.OnBook.{on_book}
use Rattle.cases.specs.Theorem.{CasesHold}
use Rattle.cases.specs.Table.{all_hold}

whole_accepted : start_of whole_inputs sixty ≡ Ok whole_run
unfolding start_reply every good_seed too_many demand_of initial_list seed_grid pairs keep merged_into push has_near tilt_near camera_near near closer within in_bound read_from abs_of is_finite add sub neg lt le of_bits
whole_accepted = refl

abbrev whole_started_list : List Float
whole_started_list = started_list whole_inputs sixty

pub whole_follows : Follows whole_inputs whole_run whole_started_list whole_calls
whole_follows = (search_is_book whole_inputs sixty).follows whole_run whole_accepted whole_calls

-- so the three rounds handed out what the rules name, and the twelfth candidate has all that holds of a winner
pub whole_handed : handed whole_run whole_started_list whole_calls ≡ handings whole_inputs (outcomes_in (answers whole_run whole_started_list whole_calls)) 3
whole_handed = whole_follows.handed_out whole_winner on_walk.whole_result

pub whole_wins : Wins whole_inputs (answers whole_run whole_started_list whole_calls) whole_winner
whole_wins = whole_follows.wins whole_winner on_walk.whole_result

-- ---- the run whose scores are all NaN: it is over with 11, and the negative tilt was tried
all_lost_accepted : start_of all_lost_inputs sixty ≡ Ok all_lost_run
unfolding start_reply every good_seed too_many demand_of initial_list seed_grid pairs keep merged_into push has_near tilt_near camera_near near closer within in_bound read_from abs_of is_finite add sub neg lt le of_bits
all_lost_accepted = refl

-- −0.25 is at least −0.25 and at most 0.25, and so is 0
zero_and_quarter_within_bound : (le (neg quarter) (neg quarter) ≡ true) × (le (neg quarter) quarter ≡ true) × (le (neg quarter) f0 ≡ true) × (le f0 quarter ≡ true)
unfolding le neg of_bits
zero_and_quarter_within_bound = (refl, refl, refl, refl)

pub all_lost_tried : TiltTried all_lost_inputs (handed all_lost_run (started_list all_lost_inputs sixty) all_lost_calls) (answers all_lost_run (started_list all_lost_inputs sixty) all_lost_calls) (tilts (neg quarter) f0)
all_lost_tried =
    ((search_is_book all_lost_inputs sixty).follows all_lost_run all_lost_accepted all_lost_calls).every_tilt (inr on_walk.all_lost_result) (neg quarter) f0
    (Memᴰ.tail (Memᴰ.head negative)) (Memᴰ.head refl) zero_and_quarter_within_bound.0 zero_and_quarter_within_bound.1 zero_and_quarter_within_bound.2 zero_and_quarter_within_bound.3
  where
    negative : neg quarter ≡ bits 0xbfd0_0000_0000_0000
    negative = unfold neg of_bits in refl

-- ---- the one-axis run: its last round has at most three seeds, and neither a seed that was handed out nor the winner
-- is tilted about y
axis_accepted : start_of axis_inputs sixty ≡ Ok axis_run
unfolding start_reply every good_seed only_zero untilted_y too_many demand_of initial_list seed_grid pairs keep merged_into push has_near tilt_near camera_near near closer within in_bound read_from abs_of is_finite add sub neg lt le eq of_bits
axis_accepted = refl

pub axis_follows : Follows axis_inputs axis_run (started_list axis_inputs sixty) axis_calls
axis_follows = (search_is_book axis_inputs sixty).follows axis_run axis_accepted axis_calls

pub axis_few : length (handed_in_round 2 (handed axis_run (started_list axis_inputs sixty) axis_calls)) ≤ 3
axis_few = axis_follows.few_later 1

pub axis_untilted : All (λ h. eq (tilt_y_of h) plus_zero ≡ true) (handed axis_run (started_list axis_inputs sixty) axis_calls)
axis_untilted = axis_follows.untilted refl

pub axis_wins : Wins axis_inputs (answers axis_run (started_list axis_inputs sixty) axis_calls) axis_winner
axis_wins = axis_follows.wins axis_winner on_walk.one_axis_result

-- ---- all of it
pub cases_hold : CasesHold
cases_hold = record {
  all_hold = all_hold;
  on_walk = on_walk;
  on_book = on_book;
  starts_so = starts_so;
  merged_to_the_first = merged_to_the_first;
  whole_handed = whole_handed;
  whole_wins = whole_wins;
  all_lost_tried = all_lost_tried;
  axis_few = axis_few;
  axis_untilted = axis_untilted;
  axis_wins = axis_wins;
}
