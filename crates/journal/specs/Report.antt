-- The report of a run, on one line: how many candidates were scored, how many were skipped for reasons 1 to 4, and the
-- total. Definitions only.
use Rattle.std.specs.Prelude.{ℕ, ◌+◌, Bool, ◌||◌, cond, List, [], ◌∷◌, ◌++◌, map, ltb, length, drop, Option, Some, None, Result, Ok, Err}
use Rattle.common.specs.declared.Refusal.{Refusal}
use Rattle.common.specs.declared.Refusal.TheVariants.{NotWritable}
use Rattle.journal.specs.declared.Counts.{Counts}
use Rattle.journal.specs.Line.{decimal, line_of}

-- scored, then reasons 1 to 4
abbrev pub five : Counts → List ℕ
five c = c.scored ∷ c.host_failed ∷ c.bad_camera ∷ c.no_mean ∷ c.no_number ∷ []

-- a whole number, however large the counts are
unfoldable pub total : Counts → ℕ
total c = c.scored + c.host_failed + c.bad_camera + c.no_mean + c.no_number

-- the total up to 656, which is as many answers as a run has at most
abbrev pub small_total : Counts → Option ℕ
small_total c = cond (ltb 656 (total c)) None (Some (total c))

unfoldable pub report_bytes : Counts → List ℕ
report_bytes c = line_of (map decimal (five c ++ total c ∷ []))

-- refused: the buffer is below 24 bytes, or the total above 656
unfoldable pub refuses_report : Counts → List ℕ → Bool
refuses_report c out = ltb (length out) 24 || ltb 656 (total c)

unfoldable pub report_reply : Counts → List ℕ → Result ℕ Refusal
report_reply c out = cond (refuses_report c out) (Err NotWritable) (Ok (length (report_bytes c)))

-- the report's bytes at the buffer's front, its rest unchanged; where it is refused, the buffer as it was
unfoldable pub report_into : Counts → List ℕ → List ℕ
report_into c out = cond (refuses_report c out) out (report_bytes c ++ drop (length (report_bytes c)) out)
