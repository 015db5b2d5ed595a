-- What running a journal again replies, and what it leaves of the lent list, as a function of what Start takes.
-- Definitions only.
use Rattle.std.specs.Prelude.{ℕ, suc, List, Float, Result, Ok, Err}
use Rattle.common.specs.declared.Refusal.{Refusal}
use Rattle.common.specs.declared.Refusal.TheVariants as refusal
use Rattle.camera.specs.declared.math.Pt2.{Pt2}
use Rattle.camera.specs.declared.intrinsics.FxFyCxCy.{FxFyCxCy}
use Rattle.search.specs.declared.run.Options.{Options}
use Rattle.search.specs.declared.run.Run.{Run}
use Rattle.search.specs.Start.{start_reply, start_list}
use Rattle.search.specs.declared.next.Handed.{Handed}
use Rattle.search.specs.declared.next.Handed.TheVariants.{Candidate, Over}
use Rattle.search.specs.Next.{next_def}
use Rattle.replay.specs.declared.WalkEnd.{WalkEnd}
use Rattle.replay.specs.declared.WalkEnd.TheVariants.{AllTaken, NotALine, NotTheRun}
use Rattle.replay.specs.declared.Standing.{Standing}
use Rattle.replay.specs.declared.Standing.TheVariants.{Winner, Unfinished}
use Rattle.replay.specs.declared.ReplayRefusal.{ReplayRefusal}
use Rattle.replay.specs.declared.ReplayRefusal.TheVariants.{Refused, At}
use Rattle.replay.specs.Walk.{RunWalk, walk_of}

-- ---- where a run stands, by what Next would say: the seed that comes next, the winner's number and score, or 11
abbrev pub standing_by : Result Handed Refusal → Run → Run → Result Standing Refusal
standing_by (Ok (Candidate n)) awaiting r = Ok (Unfinished awaiting.waiting.seed)
standing_by (Ok Over) awaiting r = Ok (Winner r.run_best.candidate.number r.run_best.candidate.score)
standing_by (Err why) awaiting r = Err why

unfoldable pub standing_of : Run → List Float → Result Standing Refusal
standing_of r l = let a = next_def r l in standing_by a.reply a.run r

-- a refusal that is none of a line
abbrev pub of_no_line : Result Standing Refusal → Result Standing ReplayRefusal
of_no_line (Ok s) = Ok s
of_no_line (Err why) = Err (Refused why)

-- ---- the reply: 29 or 30 with the number of the line behind the taken ones, from 1
abbrev pub reply_by : WalkEnd → ℕ → Result Standing Refusal → Result Standing ReplayRefusal
reply_by AllTaken n s = of_no_line s
reply_by NotALine n s = Err (At refusal.NotALine (suc n))
reply_by NotTheRun n s = Err (At refusal.NotTheRun (suc n))

unfoldable pub reply_to : RunWalk → Result Standing ReplayRefusal
reply_to w = reply_by w.walk_end w.lines (standing_of w.run w.list)

-- the reply, and the lent list after it
pub record ReplayLeft : Type 0 where
  pub reply : Result Standing ReplayRefusal
  pub list : List Float

-- Start's own refusals come first, and leave the lent list; l is the list as Start left it
abbrev pub replay_from : Result Run Refusal → List Float → List ℕ → ReplayLeft
replay_from (Ok r) l bs = let w = walk_of r l bs in record { reply = reply_to w; list = w.list }
replay_from (Err why) l bs = record { reply = Err (Refused why); list = l }

-- of what Start takes
module _ (views : ℕ) (options : Options) (xs ys decomposition : List Float) (base : FxFyCxCy) (center : Pt2) where
  abbrev pub replay_def : List Float → List ℕ → ReplayLeft
  replay_def l bs = replay_from (start_reply views options xs ys decomposition base center l) (start_list views options xs ys decomposition base center l) bs
