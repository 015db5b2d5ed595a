-- Why Answer has no 15: the tilts of a solved finding that is taken give a matrix with an inverse. Assumes nothing.
use Rattle.std.specs.Prelude.{ℕ, ◌*◌, ◌≡◌, false, not, ◌||◌, List, eqb, ltb, length, Float, Ok}
use Rattle.common.specs.Tests.{both_false}
use Rattle.common.specs.declared.Refusal.TheVariants.{BadRows, TiltTooLarge}
use Rattle.common.specs.ChecksLaws.{refuses_none}
use Rattle.trig.specs.Answer.{tilt_too_large}
use Rattle.camera.specs.Sensor.{tilt_verdict}
use Rattle.camera.specs.declared.sensor.ScheimpflugParams.{ScheimpflugParams}
use Rattle.camera.specs.Invertible.{never_singular}
use Rattle.score.specs.declared.pinhole.PinholeCamera.{PinholeCamera}
use Rattle.score.specs.Rows.{tilt_matrix}
use Rattle.score.specs.Evaluation.{any_above_one, trig_of, solved_refusal, finding_refusal}
use Rattle.score.specs.declared.outcome.Finding.TheVariants.{Solved}

taken_tilts_within_half : (t : ScheimpflugParams) (rows : List Float) (flags : List ℕ) → solved_refusal t rows flags ≡ Ok tt → (tilt_too_large t.tilt_x ≡ false) × (tilt_too_large t.tilt_y ≡ false)
unfolding solved_refusal
taken_tilts_within_half t rows flags h =
    let h1 = (refuses_none (ltb 1024 (length flags)) BadRows _ h).1 in
    let h2 = (refuses_none (not (eqb (length rows) (4 * length flags))) BadRows _ h1).1 in
    let h3 = (refuses_none (any_above_one flags) BadRows _ h2).1 in
    both_false (tilt_too_large t.tilt_x) (tilt_too_large t.tilt_y) (refuses_none (tilt_too_large t.tilt_x || tilt_too_large t.tilt_y) TiltTooLarge _ h3).0

pub taken_invertible : (c : PinholeCamera) (t : ScheimpflugParams) (rows : List Float) (flags : List ℕ) → finding_refusal (Solved c) t rows flags ≡ Ok tt → tilt_verdict (tilt_matrix (trig_of t)) ≡ Ok tt
unfolding finding_refusal tilt_matrix trig_of
taken_invertible c t rows flags h = let k = taken_tilts_within_half t rows flags h in never_singular t.tilt_x t.tilt_y k.0 k.1
