-- `capi::scoring::jc_mean_reproj_error` meets its contract, by that of `mean_of_rows`. Assumes nothing.
use Rattle.score.specs.Rows.{tilt_matrix}
use Rattle.capi.proofs.scoring.jc_mean_reproj_error.Goals as goal

pub returns : goal.returns
unfolding tilt_matrix
returns c = c.mean_of_rows.ensures
