-- The run that goes on from a journal, and the report, as a function of what Start takes. Definitions only.
use Rattle.std.specs.Prelude.{ℕ, Bool, false, cond, List, [], ◌∷◌, eqb, length, drop, Float, Result, Ok, Err}
use Rattle.common.specs.declared.Refusal.{Refusal}
use Rattle.camera.specs.declared.math.Pt2.{Pt2}
use Rattle.camera.specs.declared.intrinsics.FxFyCxCy.{FxFyCxCy}
use Rattle.journal.specs.Reading.{newlines}
use Rattle.search.specs.declared.run.Options.{Options}
use Rattle.search.specs.declared.run.Run.{Run}
use Rattle.search.specs.Start.{start_reply, start_list}
use Rattle.replay.specs.declared.WalkEnd.{WalkEnd}
use Rattle.replay.specs.declared.WalkEnd.TheVariants.{AllTaken, NotALine, NotTheRun}
use Rattle.replay.specs.declared.EndedBy.{EndedBy}
use Rattle.replay.specs.declared.EndedBy.TheVariants.{MissingNewline, WalkEnded}
use Rattle.replay.specs.declared.KeptLines.{KeptLines}
use Rattle.replay.specs.declared.Resumed.{Resumed}
use Rattle.replay.specs.declared.Walked.{Walked}
use Rattle.replay.specs.Walk.{walk_of, walked_as}

-- the number of what ended the kept lines: nothing behind them, a missing newline, 29, 30
abbrev pub ended_number : EndedBy → ℕ
ended_number MissingNewline = 1
ended_number (WalkEnded AllTaken) = 0
ended_number (WalkEnded NotALine) = 29
ended_number (WalkEnded NotTheRun) = 30

-- ---- something is left, and no newline in it: a line was cut off
abbrev pub is_cut_line : List ℕ → Bool
is_cut_line [] = false
is_cut_line (c ∷ cs) = eqb (newlines (c ∷ cs)) 0

-- a missing newline is looked for before 29 and 30
unfoldable pub ended_by_of : WalkEnd → List ℕ → EndedBy
ended_by_of e rest = cond (is_cut_line rest) MissingNewline (WalkEnded e)

-- Kept bytes are those of the taken lines, dropped ones those that stand behind them.
unfoldable pub kept_lines_of : Walked → List ℕ → KeptLines
kept_lines_of w bs =
    let rest = drop w.bytes bs in
    record { lines = w.lines; kept = w.bytes; dropped = length rest; ended_by = ended_by_of w.walk_end rest }

abbrev pub resumed_by : Walked → List ℕ → Resumed
resumed_by w bs = record { run = w.run; kept_lines = kept_lines_of w bs }

-- ---- the reply, and the lent list after it
pub record ResumeLeft : Type 0 where
  pub reply : Result Resumed Refusal
  pub list : List Float

-- Start's own refusals come first, and leave the lent list; l is the list as Start left it
abbrev pub resume_from : Result Run Refusal → List Float → List ℕ → ResumeLeft
resume_from (Ok r) l bs = let w = walk_of r l bs in record { reply = Ok (resumed_by (walked_as w) bs); list = w.list }
resume_from (Err why) l bs = record { reply = Err why; list = l }

-- of what Start takes
module _ (views : ℕ) (options : Options) (xs ys decomposition : List Float) (base : FxFyCxCy) (center : Pt2) where
  abbrev pub resume_def : List Float → List ℕ → ResumeLeft
  resume_def l bs = resume_from (start_reply views options xs ys decomposition base center l) (start_list views options xs ys decomposition base center l) bs
