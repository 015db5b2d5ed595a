-- A plate with a known answer as a flat record: a refusal's number, and zeros for what the refusal leaves out.
-- Definitions only.
use Rattle.float.specs.Literals.{plus_zero}
use Rattle.std.specs.Prelude.{Result, Ok, Err}
use Rattle.common.specs.declared.Refusal.{Refusal}
use Rattle.common.specs.Number.{number_of}
use Rattle.zhang.specs.declared.Conic.{Conic}
use Rattle.capi_records.specs.declared.plate.PlateReply.{PlateReply}

-- the six numbers of the conic, or 34
abbrev pub flat_plate : Result Conic Refusal → PlateReply
flat_plate (Ok b) = record { number = 0; conic = b }
flat_plate (Err r) = record { number = number_of r; conic = record { b11 = plus_zero; b12 = plus_zero; b22 = plus_zero; b13 = plus_zero; b23 = plus_zero; b33 = plus_zero } }
