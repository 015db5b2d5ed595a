-- A walk over a journal's lines, from a run's record on. Next hands out a seed, the line is compared with it, and what
-- it records is entered as Answer's outcome would be. Definitions only.
use Rattle.std.specs.Prelude.{ℕ, suc, ◌+◌, Bool, true, false, ◌&&◌, cond, List, [], ◌∷◌, eqb, length, Float, Option, Some, None, Result, Ok, Err}
use Rattle.common.specs.declared.Refusal.{Refusal}
use Rattle.seeds.specs.Layout.{six}
use Rattle.journal.specs.declared.Line.{Line}
use Rattle.journal.specs.Line.{line_bytes}
use Rattle.journal.specs.Outcome.{outcome_in}
use Rattle.journal.specs.Reading.{Ending, ended, refused, unread, read_journal}
use Rattle.search.specs.declared.run.Run.{Run}
use Rattle.search.specs.declared.next.Handed.{Handed}
use Rattle.search.specs.declared.next.Handed.TheVariants.{Candidate, Over}
use Rattle.search.specs.Next.{next_def}
use Rattle.search.specs.Answer.{Left, enter_def}
use Rattle.replay.specs.declared.WalkEnd.{WalkEnd}
use Rattle.replay.specs.declared.WalkEnd.TheVariants.{AllTaken, NotALine, NotTheRun}
use Rattle.replay.specs.declared.Walked.{Walked}
use Rattle.replay.specs.Stand.{same_reals, can_stand}

-- ---- one line
-- It can be the answer to the seed that waits: number, round and seed are the run's own, and what it records can stand.
unfoldable pub answers_waiting : Run → Line → Bool
answers_waiting r m =
    eqb m.number r.place.number
    && eqb m.round r.place.round
    && same_reals (six m.seed) (six r.waiting.seed)
    && can_stand r.center r.waiting.seed.sensor m.outcome

-- Next handed out a seed; no line can follow Over or a refusal
abbrev pub is_candidate : Result Handed Refusal → Bool
is_candidate (Ok (Candidate n)) = true
is_candidate (Ok Over) = false
is_candidate (Err refusal) = false

-- The line is taken for the answer to the seed that Next hands out, and what it records is entered; or it isn't.
unfoldable pub take_line : Run → List Float → Line → Option Left
take_line r l m =
    let a = next_def r l in
    cond (is_candidate a.reply && answers_waiting a.run m) (Some (enter_def a.run l (outcome_in m.outcome))) None

-- the run after a line that is taken; a line that isn't leaves the list as it is
abbrev pub run_left : Option Left → Option Run
run_left None = None
run_left (Some t) = Some t.run

abbrev pub list_left : Option Left → List Float → List Float
list_left None l = l
list_left (Some t) l = t.list

abbrev pub run_taken : Run → List Float → Line → Option Run
run_taken r l m = run_left (take_line r l m)

abbrev pub list_taken : Run → List Float → Line → List Float
list_taken r l m = list_left (take_line r l m) l

-- ---- line after line, as long as they are taken
-- the run and the list as the taken lines left them, how many they are and how many bytes they have, and what stopped the walk
pub record RunWalk : Type 0 where
  pub run : Run
  pub list : List Float
  pub lines : ℕ
  pub bytes : ℕ
  pub walk_end : WalkEnd

-- n lines of k bytes were taken; behind the last line of those that follow the walk stops by e
unfoldable pub walk_lines : Run → List Float → ℕ → ℕ → List Line → WalkEnd → RunWalk
walk_lines r l n k [] e = record { run = r; list = l; lines = n; bytes = k; walk_end = e }
walk_lines r l n k (m ∷ ms) e = elim (take_line r l m) [
  | None ↦ record { run = r; list = l; lines = n; bytes = k; walk_end = NotTheRun }
  | Some t ↦ walk_lines t.run t.list (suc n) (k + length (line_bytes m)) ms e
]

-- the reader's End, or its 29
abbrev pub walk_end_at : Ending → WalkEnd
walk_end_at ended = AllTaken
walk_end_at (refused k) = NotALine
walk_end_at unread = NotALine

-- the lines that the reader gives of a journal, from a run and its list on
unfoldable pub walk_of : Run → List Float → List ℕ → RunWalk
walk_of r l bs = let j = read_journal bs in walk_lines r l 0 0 j.lines (walk_end_at j.ending)

-- all but the list, which is lent
abbrev pub walked_as : RunWalk → Walked
walked_as w = record { run = w.run; lines = w.lines; bytes = w.bytes; walk_end = w.walk_end }
