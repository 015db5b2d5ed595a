-- A sine, a cosine, matrices and a camera as flat records: a refusal's number, and zeros for what the refusal leaves
-- out. Definitions only.
use Rattle.std.specs.Prelude.{[], ◌∷◌, Float, Result, Ok, Err}
use Rattle.common.specs.declared.Refusal.{Refusal}
use Rattle.common.specs.Number.{number_of}
use Rattle.float.specs.Literals.{plus_zero}
use Rattle.camera.specs.declared.intrinsics.FxFyCxCy.{FxFyCxCy}
use Rattle.camera.specs.Matrix.{Matrix, at}
use Rattle.capi_records.specs.declared.cameras.SumReply.{SumReply}
use Rattle.capi_records.specs.declared.cameras.Matrix3.{Matrix3}
use Rattle.capi_records.specs.declared.cameras.InverseReply.{InverseReply}
use Rattle.capi_records.specs.declared.cameras.CameraReply.{CameraReply}

-- the sine or the cosine, or 27
abbrev pub flat_sum : Result Float Refusal → SumReply
flat_sum (Ok x) = record { number = 0; value = x }
flat_sum (Err r) = record { number = number_of r; value = plus_zero }

-- the nine numbers as three rows
abbrev pub matrix_of : Matrix3 → Matrix
matrix_of m = (m.m00 ∷ m.m01 ∷ m.m02 ∷ []) ∷ (m.m10 ∷ m.m11 ∷ m.m12 ∷ []) ∷ (m.m20 ∷ m.m21 ∷ m.m22 ∷ []) ∷ []

-- and back
abbrev pub flat_matrix : Matrix → Matrix3
flat_matrix h = record {
  m00 = at h 0 0;
  m01 = at h 0 1;
  m02 = at h 0 2;
  m10 = at h 1 0;
  m11 = at h 1 1;
  m12 = at h 1 2;
  m20 = at h 2 0;
  m21 = at h 2 1;
  m22 = at h 2 2;
}

abbrev pub no_matrix : Matrix3
no_matrix = record {
  m00 = plus_zero;
  m01 = plus_zero;
  m02 = plus_zero;
  m10 = plus_zero;
  m11 = plus_zero;
  m12 = plus_zero;
  m20 = plus_zero;
  m21 = plus_zero;
  m22 = plus_zero;
}

-- the inverse, or 15
abbrev pub flat_inverse : Result Matrix Refusal → InverseReply
flat_inverse (Ok h) = record { number = 0; inverse = flat_matrix h }
flat_inverse (Err r) = record { number = number_of r; inverse = no_matrix }

-- the camera, or 16
abbrev pub flat_estimate : Result FxFyCxCy Refusal → CameraReply
flat_estimate (Ok k) = record { number = 0; camera = k }
flat_estimate (Err r) = record { number = number_of r; camera = record { fx = plus_zero; fy = plus_zero; cx = plus_zero; cy = plus_zero } }
