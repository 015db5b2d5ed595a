-- What the writer replies, and what it leaves of the lent buffer. Definitions only.
use Rattle.std.specs.Prelude.{ℕ, Bool, not, ◌||◌, cond, List, ◌++◌, ltb, length, drop, Result, Ok, Err}
use Rattle.common.specs.declared.Refusal.{Refusal}
use Rattle.common.specs.declared.Refusal.TheVariants.{NotWritable}
use Rattle.journal.specs.declared.Line.{Line}
use Rattle.journal.specs.Line.{line_bytes, writable}

-- refused: the buffer is below 256 bytes, or the line can't be written
unfoldable pub refuses_line : Line → List ℕ → Bool
refuses_line l out = ltb (length out) 256 || not (writable l)

unfoldable pub write_reply : Line → List ℕ → Result ℕ Refusal
write_reply l out = cond (refuses_line l out) (Err NotWritable) (Ok (length (line_bytes l)))

-- the line's bytes at the buffer's front, its rest unchanged; where the line is refused, the buffer as it was
unfoldable pub write_into : Line → List ℕ → List ℕ
write_into l out = cond (refuses_line l out) out (line_bytes l ++ drop (length (line_bytes l)) out)
