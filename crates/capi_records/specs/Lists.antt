-- The replies of the operations on lists of points as flat records: a refusal's number, and zeros for what the refusal
-- leaves out. Definitions only.
use Rattle.std.specs.Prelude.{ℕ, Bool, Result, Ok, Err}
use Rattle.common.specs.declared.Refusal.{Refusal}
use Rattle.common.specs.Number.{number_of}
use Rattle.camera.specs.declared.math.Pt2.{Pt2}
use Rattle.float.specs.Literals.{plus_zero}
use Rattle.points.specs.declared.linalg.Transform.{Transform}
use Rattle.capi_records.specs.Record.{flag_of}
use Rattle.capi_records.specs.declared.lists.NormalizeReply.{NormalizeReply}
use Rattle.capi_records.specs.declared.lists.LineReply.{LineReply}
use Rattle.capi_records.specs.declared.lists.CenterReply.{CenterReply}

-- 0 where nothing is refused, else the refusal's number
abbrev pub refusal_number : {T : Type 0} → Result T Refusal → ℕ
refusal_number (Ok _) = 0
refusal_number (Err r) = number_of r

-- the transform's numbers that are neither 0 nor 1, or a refusal
abbrev pub flat_normalized : Result Transform Refusal → NormalizeReply
flat_normalized (Ok t) = record { number = 0; t00 = t.t00; t02 = t.t02; t12 = t.t12 }
flat_normalized (Err r) = record { number = number_of r; t00 = plus_zero; t02 = plus_zero; t12 = plus_zero }

-- whether the points are collinear, and the centre of pixels; or a refusal
abbrev pub flat_line_test : Result Bool Refusal → LineReply
flat_line_test (Ok b) = record { number = 0; collinear = flag_of b }
flat_line_test (Err r) = record { number = number_of r; collinear = 0 }

abbrev pub flat_centre : Result Pt2 Refusal → CenterReply
flat_centre (Ok p) = record { number = 0; center = p }
flat_centre (Err r) = record { number = number_of r; center = record { x = plus_zero; y = plus_zero } }
