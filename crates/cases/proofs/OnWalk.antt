-- The replies of the worked runs by the entry points' definitions, from Start on, computed. Assumes nothing.
use Rattle.std.proofs.Common.{refl}
use Rattle.std.specs.Float.Ieee.{add, sub, mul, div, neg, lt, le, eq, is_nan, of_bits, of_int, sum, round, units, odd, size, span, climb}
use Rattle.common.specs.Each.{every}
use Rattle.float.specs.Float.{abs_of, is_finite, min_of, max_of, clamp_of, within}
use Rattle.root.specs.Root.{root_in, isqrt, root_of, root}
use Rattle.trig.specs.Series.{coefficient_of, horner_of, series_of}
use Rattle.trig.specs.Answer.{tilt_too_large}
use Rattle.camera.specs.Matrix.{product_of, first_other, second_other, minor_of, cofactor_of, determinant_of, inverse_of}
use Rattle.camera.specs.Sensor.{tilt_projection_matrix, forward_depth, inverse_depth, apply_homography, apply_homography_inverse}
use Rattle.camera.specs.Distortion.{radial_factor, tangential_x, tangential_y, distorted, jacobian_radial, radial_derivative, jacobian_at}
use Rattle.seeds.specs.Merge.{keep, has_near, push, merged_into}
use Rattle.seeds.specs.Rules.{closer, tilt_near, camera_near, near, in_bound, pairs, seed_grid, initial_list, untilted_y, offsets, y_offsets, next_list}
use Rattle.seeds.specs.Layout.{laid, read_from}
use Rattle.score.specs.Camera.{damped, finite_intrinsics, finite_distortion, valid_camera}
use Rattle.score.specs.Penalties.{distortion_penalty, tilt_penalty, centre_penalty, score_of}
use Rattle.score.specs.Rows.{rows_of, tilt_matrix, projected, row_error, is_counted, counted_errors, summed, error_sum, mean_of}
use Rattle.score.specs.Evaluation.{any_above_one, solved_refusal, finding_refusal, trig_of, errors_with, mean_with, enough, enough_with, scoring_of, scored_as, evaluated, outcome_of}
use Rattle.score.specs.Best.{beats, unbeaten, first_unbeaten, best_of, no_best, is_better, improved}
use Rattle.journal.specs.Report.{total}
use Rattle.search.specs.Record.{has_place, add_up, sound, awaiting, with_outcome, entered, next_step, round_opened, ended}
use Rattle.search.specs.Start.{good_seed, only_zero, too_many, demand_of, opening_of, start_reply, start_list}
use Rattle.search.specs.Next.{next_def, seed_lent, seed_part}
use Rattle.search.specs.Answer.{next_seeds, close_round, enter_def, outcome_for, answer_def}
use Rattle.search.specs.Result.{result_def}
use Rattle.search.specs.Progress.{progress_def}
use Rattle.search.specs.Counts.{counts_def}
use Rattle.search.specs.Stop.{left_seeds, best_so_far, outlook_of, stop_def}
use Rattle.score.specs.Floor.{counted_penalty, floor_of, seeds_from}
use Rattle.book.specs.Walk.{run_call, walk}
use Rattle.book.specs.Trace.{run_after}
use Rattle.cases.specs.Theorem.{OnWalk}

pub on_walk : OnWalk
unfolding coefficient_of horner_of series_of tilt_too_large trig_of every abs_of is_finite min_of max_of clamp_of root_in isqrt root_of root product_of first_other second_other minor_of cofactor_of determinant_of inverse_of tilt_projection_matrix forward_depth inverse_depth apply_homography apply_homography_inverse radial_factor tangential_x tangential_y distorted jacobian_radial radial_derivative jacobian_at keep has_near push merged_into closer tilt_near camera_near near within in_bound pairs seed_grid initial_list untilted_y offsets y_offsets next_list laid read_from damped finite_intrinsics finite_distortion valid_camera distortion_penalty tilt_penalty centre_penalty score_of rows_of tilt_matrix projected row_error is_counted counted_errors summed error_sum mean_of any_above_one solved_refusal finding_refusal errors_with mean_with enough enough_with scoring_of scored_as evaluated outcome_of beats unbeaten first_unbeaten best_of no_best is_better improved has_place sound awaiting with_outcome entered next_step round_opened ended good_seed only_zero too_many demand_of opening_of start_reply start_list next_def seed_lent seed_part next_seeds close_round enter_def outcome_for answer_def result_def progress_def left_seeds best_so_far outlook_of stop_def counted_penalty floor_of seeds_from run_call walk run_after add sub mul div neg lt le eq is_nan of_bits of_int sum round units odd size span climb total add_up counts_def
on_walk = record { empty = refl; failed = refl; whole = refl; first_lost = refl; between_lost = refl; asked = refl; all_lost = refl; one_axis = refl; enough_counted = refl; few_counted = refl; all_asked = refl; more_asked = refl; all_lost_result = refl; one_axis_result = refl; whole_result = refl }
