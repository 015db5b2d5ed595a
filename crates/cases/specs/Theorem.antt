-- All worked cases as one type: the table, the worked runs by the entry points and by the reference model, what Start
-- refuses of one-axis runs, and the theorem about every list of calls at three of the runs. `proofs/Follows.antt`
-- proves it. Definitions only.
use Rattle.std.specs.Prelude.{◌≤◌, ◌≡◌, true, [], ◌∷◌, length, Ok, Err}
use Rattle.std.specs.Float.Ieee.{neg, eq}
use Rattle.common.specs.Each.{All}
use Rattle.common.specs.declared.Refusal.TheVariants.{NothingScored, ShareTooLarge}
use Rattle.float.specs.Literals.{plus_zero}
use Rattle.seeds.specs.Rules.{tilts, seed_with, offsets, y_offsets, next_list}
use Rattle.search.specs.Result.{result_def}
use Rattle.book.specs.Calls.{next, candidate, refused}
use Rattle.book.specs.Book.{opened, replies}
use Rattle.book.specs.Trace.{tilt_y_of, handed_in_round, handed, answers, run_after}
use Rattle.book.specs.Named.{outcomes_in, handings}
use Rattle.book.specs.Theorem.{started_list, Wins, TiltTried}
use Rattle.cases.specs.Case.{Holds}
use Rattle.cases.specs.Table.{table}
use Rattle.cases.specs.Numbers.{quarter}
use Rattle.cases.specs.Words.{f0, sixty, pinhole, walk_from}
use Rattle.cases.specs.Whole.{whole_inputs, whole_run, whole_calls, whole_winner, whole_replies}
use Rattle.cases.specs.Lost.{lost_inputs, first_calls, first_replies, between_calls, between_replies, all_lost_inputs, all_lost_run, all_lost_calls, all_lost_replies}
use Rattle.cases.specs.OneAxis.{Gives, starts, tiny, minus_zero, axis_inputs, axis_run, axis_calls, axis_winner, axis_replies}
use Rattle.cases.specs.Few.{few_inputs, few_calls, enough_replies, few_replies}
use Rattle.cases.specs.Asked.{asked_inputs, asked_calls, asked_replies}
use Rattle.cases.specs.Ended.{empty_inputs, empty_calls, empty_replies, failed_inputs, failed_calls, failed_replies}

-- ---- the replies of each run by the definitions of the entry points, from Start on
pub record OnWalk : Type 0 where
  pub empty : walk_from empty_inputs empty_calls ≡ empty_replies
  pub failed : walk_from failed_inputs failed_calls ≡ failed_replies
  pub whole : walk_from whole_inputs whole_calls ≡ whole_replies
  pub first_lost : walk_from lost_inputs first_calls ≡ first_replies
  pub between_lost : walk_from lost_inputs between_calls ≡ between_replies
  pub asked : walk_from asked_inputs asked_calls ≡ asked_replies
  pub all_lost : walk_from all_lost_inputs all_lost_calls ≡ all_lost_replies
  pub one_axis : walk_from axis_inputs axis_calls ≡ axis_replies
  pub enough_counted : walk_from (few_inputs 33) few_calls ≡ enough_replies
  pub few_counted : walk_from (few_inputs 34) few_calls ≡ few_replies
  -- a share of 100 per cent may be asked for, and one of 101 may not
  pub all_asked : walk_from (few_inputs 100) (next 54 ∷ []) ≡ candidate 0 ∷ []
  pub more_asked : walk_from (few_inputs 101) (next 54 ∷ []) ≡ refused ShareTooLarge ∷ []
  pub all_lost_result : result_def (run_after all_lost_run (started_list all_lost_inputs sixty) all_lost_calls) ≡ Err NothingScored
  pub one_axis_result : result_def (run_after axis_run (started_list axis_inputs sixty) axis_calls) ≡ Ok axis_winner
  pub whole_result : result_def (run_after whole_run (started_list whole_inputs sixty) whole_calls) ≡ Ok whole_winner

-- ---- the replies of each run by the reference model
pub record OnBook : Type 0 where
  pub empty : replies (opened empty_inputs) empty_calls ≡ empty_replies
  pub failed : replies (opened failed_inputs) failed_calls ≡ failed_replies
  pub whole : replies (opened whole_inputs) whole_calls ≡ whole_replies
  pub first_lost : replies (opened lost_inputs) first_calls ≡ first_replies
  pub between_lost : replies (opened lost_inputs) between_calls ≡ between_replies
  pub asked : replies (opened asked_inputs) asked_calls ≡ asked_replies
  pub all_lost : replies (opened all_lost_inputs) all_lost_calls ≡ all_lost_replies
  pub one_axis : replies (opened axis_inputs) axis_calls ≡ axis_replies
  pub enough_counted : replies (opened (few_inputs 33)) few_calls ≡ enough_replies
  pub few_counted : replies (opened (few_inputs 34)) few_calls ≡ few_replies

pub record CasesHold : Type 0 where
  pub all_hold : All Holds table
  pub on_walk : OnWalk
  pub on_book : OnBook
  -- what Start refuses of one-axis runs, and a step that is too small to tell seeds apart
  pub starts_so : All Gives starts
  pub merged_to_the_first : next_list (offsets tiny) (y_offsets true tiny) (tilts f0 minus_zero) pinhole quarter ≡ seed_with pinhole (tilts (neg tiny) f0) ∷ []
  -- the theorem at the run through three rounds
  pub whole_handed : handed whole_run (started_list whole_inputs sixty) whole_calls ≡ handings whole_inputs (outcomes_in (answers whole_run (started_list whole_inputs sixty) whole_calls)) 3
  pub whole_wins : Wins whole_inputs (answers whole_run (started_list whole_inputs sixty) whole_calls) whole_winner
  -- at a run that is over with 11, where a negative tilt was tried
  pub all_lost_tried : TiltTried all_lost_inputs (handed all_lost_run (started_list all_lost_inputs sixty) all_lost_calls) (answers all_lost_run (started_list all_lost_inputs sixty) all_lost_calls) (tilts (neg quarter) f0)
  -- and at a one-axis run
  pub axis_few : length (handed_in_round 2 (handed axis_run (started_list axis_inputs sixty) axis_calls)) ≤ 3
  pub axis_untilted : All (λ h. eq (tilt_y_of h) plus_zero ≡ true) (handed axis_run (started_list axis_inputs sixty) axis_calls)
  pub axis_wins : Wins axis_inputs (answers axis_run (started_list axis_inputs sixty) axis_calls) axis_winner
