-- The replies of the worked runs by the reference model, computed. Assumes nothing.
use Rattle.std.proofs.Common.{refl}
use Rattle.std.specs.Float.Ieee.{add, sub, mul, div, neg, lt, le, eq, is_nan, of_bits, of_int, sum, round, units, odd, size, span, climb}
use Rattle.common.specs.Each.{every}
use Rattle.float.specs.Float.{abs_of, is_finite, min_of, max_of, clamp_of, within}
use Rattle.root.specs.Root.{root_in, isqrt, root_of, root}
use Rattle.trig.specs.Series.{coefficient_of, horner_of, series_of}
use Rattle.trig.specs.Answer.{tilt_too_large}
use Rattle.camera.specs.Matrix.{product_of, first_other, second_other, minor_of, cofactor_of, determinant_of, inverse_of}
use Rattle.camera.specs.Sensor.{tilt_projection_matrix, forward_depth, inverse_depth, apply_homography, apply_homography_inverse}
use Rattle.camera.specs.Distortion.{radial_factor, tangential_x, tangential_y, distorted, jacobian_radial, radial_derivative, jacobian_at}
use Rattle.seeds.specs.Merge.{keep, has_near, push, merged_into}
use Rattle.seeds.specs.Rules.{closer, tilt_near, camera_near, near, in_bound, pairs, seed_grid, initial_list, offsets, y_offsets, next_list}
use Rattle.seeds.specs.Layout.{laid, read_from}
use Rattle.score.specs.Camera.{damped, finite_intrinsics, finite_distortion, valid_camera}
use Rattle.score.specs.Penalties.{distortion_penalty, tilt_penalty, centre_penalty, score_of}
use Rattle.score.specs.Rows.{rows_of, tilt_matrix, projected, row_error, is_counted, counted_errors, summed, error_sum, mean_of}
use Rattle.score.specs.Evaluation.{any_above_one, solved_refusal, finding_refusal, trig_of, errors_with, mean_with, enough, enough_with, scoring_of, scored_as, evaluated, outcome_of}
use Rattle.score.specs.Best.{beats, unbeaten, first_unbeaten, best_of, no_best, is_better, improved}
use Rattle.score.specs.Floor.{counted_penalty, floor_of}
use Rattle.journal.specs.Counts.{count_in}
use Rattle.book.specs.Book.{demand, scored_of, round_best_of, run_best_of, step_of, first_list, list_around, opened, with_waiting, with_entry, with_round, with_end, close_round, book_enter, book_next, book_seed, book_answer, book_result, book_progress, rest_of, book_stop, book_call, replies, tally, book_counts}
use Rattle.cases.specs.Theorem.{OnBook}

pub on_book : OnBook
unfolding coefficient_of horner_of series_of tilt_too_large trig_of every abs_of is_finite min_of max_of clamp_of root_in isqrt root_of root product_of first_other second_other minor_of cofactor_of determinant_of inverse_of tilt_projection_matrix forward_depth inverse_depth apply_homography apply_homography_inverse radial_factor tangential_x tangential_y distorted jacobian_radial radial_derivative jacobian_at keep has_near push merged_into closer tilt_near camera_near near within in_bound pairs seed_grid initial_list offsets y_offsets next_list laid read_from damped finite_intrinsics finite_distortion valid_camera distortion_penalty tilt_penalty centre_penalty score_of rows_of tilt_matrix projected row_error is_counted counted_errors summed error_sum mean_of any_above_one solved_refusal finding_refusal errors_with mean_with enough enough_with scoring_of scored_as evaluated outcome_of beats unbeaten first_unbeaten best_of no_best is_better improved demand scored_of round_best_of run_best_of step_of first_list list_around opened with_waiting with_entry with_round with_end close_round book_enter book_next book_seed book_answer book_result book_progress rest_of book_stop book_call replies counted_penalty floor_of add sub mul div neg lt le eq is_nan of_bits of_int sum round units odd size span climb count_in tally book_counts
on_book = record { empty = refl; failed = refl; whole = refl; first_lost = refl; between_lost = refl; asked = refl; all_lost = refl; one_axis = refl; enough_counted = refl; few_counted = refl }
