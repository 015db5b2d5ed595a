-- Sum and count of a finding's errors as a flat record: a refusal's number, and zeros for what the refusal leaves out.
-- Definitions only.
use Rattle.float.specs.Literals.{plus_zero}
use Rattle.std.specs.Prelude.{Result, Ok, Err}
use Rattle.common.specs.declared.Refusal.{Refusal}
use Rattle.common.specs.Number.{number_of}
use Rattle.score.specs.declared.errors.ErrorSum.{ErrorSum}
use Rattle.capi_records.specs.declared.scoring.ErrorCountReply.{ErrorCountReply}

-- the sum and the count, or 13 or 27
abbrev pub flat_error_count : Result ErrorSum Refusal → ErrorCountReply
flat_error_count (Ok e) = record { number = 0; sum = e.sum; counted = e.count }
flat_error_count (Err e) = record { number = number_of e; sum = plus_zero; counted = 0 }
