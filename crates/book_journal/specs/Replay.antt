-- Running a journal again (docs/SPECIFICATION.md, 8.6): its lines are walked over the reference model, and the outcome
-- that each records is entered as Answer would enter it; then the reply, and the lent list afterwards. Definitions
-- only.
use Rattle.std.specs.Prelude.{ℕ, suc, Bool, true, false, not, ◌&&◌, cond, List, [], ◌∷◌, eqb, length, take, Float, Result, Ok, Err, ⊤}
use Rattle.common.specs.declared.Refusal.{Refusal}
use Rattle.common.specs.declared.Refusal.TheVariants.{NothingScored}
use Rattle.seeds.specs.Layout.{six, written}
use Rattle.score.specs.Best.{Chosen, nothing, chosen}
use Rattle.search.specs.Start.{start_refusal}
use Rattle.journal.specs.declared.Line.{Line}
use Rattle.journal.specs.Line.{journal_bytes}
use Rattle.journal.specs.Outcome.{outcome_in}
use Rattle.journal.specs.Reading.{read_journal}
use Rattle.replay.specs.declared.WalkEnd.{WalkEnd}
use Rattle.replay.specs.declared.WalkEnd.TheVariants.{NotTheRun}
use Rattle.replay.specs.declared.Standing.{Standing}
use Rattle.replay.specs.declared.Standing.TheVariants.{Winner, Unfinished}
use Rattle.replay.specs.declared.ReplayRefusal.{ReplayRefusal}
use Rattle.replay.specs.declared.ReplayRefusal.TheVariants.{Refused}
use Rattle.replay.specs.Stand.{same_reals, can_stand}
use Rattle.replay.specs.Walk.{walk_end_at}
use Rattle.replay.specs.Replay.{reply_by, ReplayLeft}
use Rattle.book.specs.Book.{Inputs, Book, number, current, run_best_of, first_list, opened, book_enter}
use Rattle.book.specs.Theorem.{options_of}

-- ---- Start's own refusals come first, where n numbers are lent
unfoldable pub start_refused : Inputs → ℕ → Result ⊤ Refusal
start_refused i n = start_refusal i.views (options_of i) i.xs i.ys i.decomposition n

-- ---- a line, and the book that it may follow
-- The line is the run's next answer: the run isn't over, number, round and seed are the book's, and what it records can
-- stand (docs/SPECIFICATION.md, 8.7).
unfoldable pub follows : Book → Line → Bool
follows b l =
    not b.over
    && eqb l.number (number b)
    && eqb l.round b.round
    && same_reals (six l.seed) (six (current b))
    && can_stand b.inputs.center (current b).sensor l.outcome

-- ---- the walk: the book and the lent list as the lines left them, how many lines it took, and why it stopped
pub record Walked : Type 0 where
  pub book : Book
  pub list : List Float
  pub taken : ℕ
  pub walk_end : WalkEnd

-- Where entering an outcome opened a round, the round's list is written to the front of the lent list.
unfoldable pub buffer_after : Book → Book → List Float → List Float
buffer_after b c l = cond (eqb b.round c.round) l (written c.list l)

-- walks the lines that the reader gives, one after the other; behind the last one it stops for the reader's reason
unfoldable pub walk_from : Book → List Float → ℕ → List Line → WalkEnd → Walked
walk_from b l n [] e = record { book = b; list = l; taken = n; walk_end = e }
walk_from b l n (m ∷ ms) e = elim (follows b m) [
  | true ↦ let c = book_enter b (outcome_in m.outcome) in walk_from c (buffer_after b c l) (suc n) ms e
  | false ↦ record { book = b; list = l; taken = n; walk_end = NotTheRun }
]

-- Before the first line, an accepted Start has written round 0's list to the front of the lent list.
unfoldable pub walked : Inputs → List Float → List ℕ → Walked
walked i l bs = let r = read_journal bs in walk_from (opened i) (written (first_list i) l) 0 r.lines (walk_end_at r.ending)

-- the bytes of the lines that the walk took
abbrev pub kept_of : List ℕ → Walked → List ℕ
kept_of bs w = journal_bytes (take w.taken (read_journal bs).lines)

-- ---- The reply: the winner's number and score; the seed that comes next in a run that isn't over; 11 where nothing is
-- scored; what Start refuses; or a refused line's number, counted from 1.
abbrev pub winner_or_none : Chosen → Result Standing Refusal
winner_or_none nothing = Err NothingScored
winner_or_none (chosen w) = Ok (Winner w.number w.score)

-- how a run stands: its winner, 11, or the seed that comes next
unfoldable pub standing : Book → Result Standing Refusal
standing b = cond b.over (winner_or_none (run_best_of b)) (Ok (Unfinished (current b)))

abbrev pub reply_to : Walked → Result Standing ReplayRefusal
reply_to w = reply_by w.walk_end w.taken (standing w.book)

-- The lent list afterwards is as the lines taken left it. After Start's own refusals it is as it was.
unfoldable pub replay_of : Inputs → List Float → List ℕ → ReplayLeft
replay_of i l bs =
    let w = walked i l bs in
    elim (start_refused i (length l)) [
      | Ok nothing_refused ↦ record { reply = reply_to w; list = w.list }
      | Err refusal ↦ record { reply = Err (Refused refusal); list = l }
    ]
