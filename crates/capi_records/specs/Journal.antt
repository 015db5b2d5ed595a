-- A line of the journal as a flat record, the way back, and the replies of its writer and its reader. What a skipped
-- line or a refusal leaves out is 0. Definitions only.
use Rattle.std.specs.Prelude.{ℕ, cond, eqb, List, Result, Ok, Err}
use Rattle.common.specs.declared.Refusal.{Refusal}
use Rattle.common.specs.declared.Refusal.TheVariants as refusal
use Rattle.common.specs.Number.{number_of}
use Rattle.score.specs.Reasons.{reason_number}
use Rattle.float.specs.Literals.{plus_zero}
use Rattle.camera.specs.declared.intrinsics.FxFyCxCy.{FxFyCxCy}
use Rattle.seeds.specs.declared.CandidateSeed.{CandidateSeed}
use Rattle.journal.specs.declared.Line.{Line}
use Rattle.journal.specs.declared.NumberedLine.{NumberedLine}
use Rattle.journal.specs.declared.ScoredFields.{ScoredFields}
use Rattle.journal.specs.Outcome.{Recorded, recorded_with}
use Rattle.journal.specs.Writing.{write_reply, write_into}
use Rattle.journal.specs.declared.Read.{Read}
use Rattle.journal.specs.declared.Read.TheVariants as read
use Rattle.capi_records.specs.declared.journals.LineRecord.{LineRecord}
use Rattle.capi_records.specs.declared.journals.WriteReply.{WriteReply}
use Rattle.capi_records.specs.declared.journals.ReadReply.{ReadReply}

-- ---- a line: `skipped` is 0 for a scored one, and else the reason's number; with any other number it is a line that
-- can't be written
abbrev pub fields_in : LineRecord → ScoredFields
fields_in l = record { score = l.score; mean = l.mean; k = l.k; p1 = l.p1; p2 = l.p2 }

abbrev pub numbered_from : LineRecord → NumberedLine
numbered_from l = record { number = l.number; round = l.round; seed = l.seed; outcome = cond (eqb l.skipped 0) (Ok (fields_in l)) (Err l.skipped) }

abbrev pub recorded_from : LineRecord → Result Recorded Refusal
recorded_from l = recorded_with l.skipped (fields_in l)

abbrev pub line_from : LineRecord → Result Line Refusal
line_from l = elim (recorded_from l) [
  | Ok outcome ↦ Ok (record { number = l.number; round = l.round; seed = l.seed; outcome = outcome })
  | Err e ↦ Err e
]

abbrev pub no_intrinsics : FxFyCxCy
no_intrinsics = record { fx = plus_zero; fy = plus_zero; cx = plus_zero; cy = plus_zero }

abbrev pub flat_fields : ℕ → ℕ → CandidateSeed → Recorded → LineRecord
flat_fields n r s (Ok f) = record { number = n; round = r; seed = s; skipped = 0; score = f.score; mean = f.mean; k = f.k; p1 = f.p1; p2 = f.p2 }
flat_fields n r s (Err q) = record { number = n; round = r; seed = s; skipped = reason_number q; score = plus_zero; mean = plus_zero; k = no_intrinsics; p1 = plus_zero; p2 = plus_zero }

abbrev pub flat_line : Line → LineRecord
flat_line l = flat_fields l.number l.round l.seed l.outcome

abbrev pub no_line : LineRecord
no_line = record {
  number = 0;
  round = 0;
  seed = record { reference_k = no_intrinsics; sensor = record { tilt_x = plus_zero; tilt_y = plus_zero } };
  skipped = 0;
  score = plus_zero;
  mean = plus_zero;
  k = no_intrinsics;
  p1 = plus_zero;
  p2 = plus_zero;
}

-- the fields of a scored line, with 0 in the others
abbrev pub flat_scored : ScoredFields → LineRecord
flat_scored f = record { number = 0; round = 0; seed = no_line.seed; skipped = 0; score = f.score; mean = f.mean; k = f.k; p1 = f.p1; p2 = f.p2 }

-- ---- the replies
abbrev pub flat_written : Result ℕ Refusal → WriteReply
flat_written (Ok n) = record { number = 0; len = n }
flat_written (Err e) = record { number = number_of e; len = 0 }

-- what the writer says of a line as C hands it in, and the buffer afterwards
abbrev pub record_reply : LineRecord → List ℕ → Result ℕ Refusal
record_reply l out = elim (line_from l) [ Ok line ↦ write_reply line out | Err e ↦ Err e ]

abbrev pub record_into : LineRecord → List ℕ → List ℕ
record_into l out = elim (line_from l) [ Ok line ↦ write_into line out | Err e ↦ out ]

-- what was read at a place; at the end and after 29 the next place is the same one
abbrev pub flat_read : Read → ℕ → ReadReply
flat_read (read.Got l next) at = record { number = 0; end = 0; line_number = 0; line = flat_line l; next = next }
flat_read read.End at = record { number = 0; end = 1; line_number = 0; line = no_line; next = at }
flat_read (read.NotALine n) at = record { number = number_of refusal.NotALine; end = 0; line_number = n; line = no_line; next = at }
