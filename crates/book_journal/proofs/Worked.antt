-- The worked run and its journal, proved by computing. Assumes nothing.
use Rattle.std.specs.Prelude.{refl}
use Rattle.std.specs.Float.Ieee.{of_bits, to_bits, of_fields, of_int, add, sub, mul, div, neg, lt, le, eq, is_nan, sum, round, units, odd, size, span, climb}
use Rattle.common.specs.Each.{every}
use Rattle.float.specs.Float.{bits_of, abs_of, is_finite, min_of, max_of, within}
use Rattle.seeds.specs.Merge.{keep, has_near, push, merged_into}
use Rattle.seeds.specs.Rules.{closer, tilt_near, camera_near, near, in_bound, pairs, seed_grid, initial_list, offsets, y_offsets, next_list}
use Rattle.seeds.specs.Layout.{laid, read_from}
use Rattle.score.specs.Camera.{finite_intrinsics, finite_distortion, valid_camera}
use Rattle.score.specs.Penalties.{distortion_penalty, tilt_penalty, centre_penalty, score_of}
use Rattle.score.specs.Best.{beats, unbeaten, first_unbeaten, best_of}
use Rattle.search.specs.Start.{good_seed, too_many, demand_of}
use Rattle.journal.specs.Line.{digit_byte, digits, decimal_width, decimal, real, reason_letter, outcome_fields, rest_of_line, line_bytes, recordable, writable, journal_bytes}
use Rattle.journal.specs.Reading.{digit_of, number_at, decimal_width_at, real_at, reals, reason_of, outcome_at, from_round, from_seed, unchecked_line, begins, of_form, newlines, read_line, goes_on, read_all}
use Rattle.replay.specs.Stand.{same_real, same_reals, is_mean, can_be_scored}
use Rattle.replay.specs.Resume.{ended_by_of}
use Rattle.book.specs.Book.{demand, step_of, scored_of, round_best_of, run_best_of, first_list, list_around, opened, with_entry, with_round, with_end, close_round, book_enter}
use Rattle.book_journal.specs.Replay.{start_refused, follows, buffer_after, walk_from, walked, standing, replay_of}
use Rattle.book_journal.specs.Resume.{kept_lines_of}
use Rattle.book_journal.specs.Worked.{Replays, KeepsLines, WorkedRight}

pub replays : Replays
unfolding replay_of start_refused good_seed too_many demand_of every walked walk_from buffer_after follows is_mean can_be_scored same_real same_reals standing opened first_list book_enter close_round with_entry with_round with_end round_best_of run_best_of scored_of best_of first_unbeaten unbeaten beats demand step_of list_around offsets y_offsets next_list digit_byte digits decimal_width decimal bits_of real reason_letter outcome_fields rest_of_line line_bytes recordable writable journal_bytes digit_of number_at decimal_width_at real_at reals reason_of outcome_at from_round from_seed unchecked_line begins of_form newlines read_line goes_on read_all keep has_near push merged_into closer tilt_near camera_near near within in_bound pairs seed_grid initial_list laid read_from finite_intrinsics finite_distortion valid_camera distortion_penalty tilt_penalty centre_penalty score_of abs_of is_finite min_of max_of to_bits add sub mul div neg lt le eq is_nan of_bits of_fields of_int sum round units odd size span climb
replays = record {
  its_winner = refl;
  unfinished_run = refl;
  none_scored = refl;
  other_number = refl;
  other_round = refl;
  other_camera = refl;
  other_score = refl;
  mean_below = refl;
  line_behind = refl;
  bytes_behind = refl;
  next_seed = refl;
  next_list_lem = refl;
  first_list_lem = refl;
  too_short = refl;
}

pub keeps_lines : KeepsLines
unfolding kept_lines_of ended_by_of walked walk_from buffer_after follows is_mean can_be_scored same_real same_reals opened first_list book_enter close_round with_entry with_round with_end digit_byte digits decimal_width decimal bits_of real reason_letter outcome_fields rest_of_line line_bytes recordable writable journal_bytes digit_of number_at decimal_width_at real_at reals reason_of outcome_at from_round from_seed unchecked_line begins of_form newlines read_line goes_on read_all keep has_near push merged_into closer tilt_near camera_near near within in_bound pairs seed_grid initial_list laid read_from finite_intrinsics finite_distortion valid_camera distortion_penalty tilt_penalty centre_penalty score_of abs_of is_finite min_of max_of to_bits add sub mul div neg lt le eq is_nan of_bits of_fields of_int sum round units odd size span climb
keeps_lines = record { all_kept = refl; after_newline = refl; cut_line = refl; cut_line_again = refl; part_behind = refl; line_behind = refl; bytes_behind = refl }

pub worked_right : WorkedRight
worked_right = record { replays = replays; keeps_lines = keeps_lines }
