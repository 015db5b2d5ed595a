-- How a run opens, by Start or by Resume, and its histories: an opening and any calls after it. Definitions only.
use Rattle.std.specs.Prelude.{ℕ, false, List, [], ◌∷◌, ◌++◌, Float}
use Rattle.common.specs.Each.{All}
use Rattle.camera.specs.declared.intrinsics.FxFyCxCy.{FxFyCxCy}
use Rattle.score.specs.declared.outcome.Finding.{Finding}
use Rattle.score.specs.declared.outcome.Finding.TheVariants.{Failed, Solved}
use Rattle.journal.specs.Line.{Fits}
use Rattle.book.specs.Calls.{Call, next, seed, answer, ask, progress, stop, last, counts}
use Rattle.book.specs.Book.{Inputs, Entry, Book, first_list, opened, book_enter, book_call, after}
use Rattle.book.specs.Conditions.{NoneHolds, conditions}
use Rattle.seeds.specs.Layout.{written}
use Rattle.book_journal.specs.Replay.{buffer_after, walked}

-- ---- Start's book, or the book in which the kept lines' outcomes were entered; which list is lent makes no difference
-- to it (`walked_ignores_list`)
pub data Opening : Type 0 where
  fresh : Opening
  from : List ℕ → Opening

abbrev pub opened_by : Inputs → Opening → Book
opened_by i fresh = opened i
opened_by i (from bs) = (walked i [] bs).book

-- ---- a history: an accepted Start or Resume, where n numbers were lent, and any calls after it
pub record History (i : Inputs) : Type 0 where
  pub room : ℕ
  pub accepted : NoneHolds (conditions i room)
  pub opening : Opening
  pub calls : List Call

abbrev pub book_at : {i : Inputs} → History i → Book
book_at {i} h = after (opened_by i h.opening) h.calls

-- ---- The numbers that the host sends are those of binary64, as every f64 of a program is. A journal holds no others.
abbrev pub AllFit : List Float → Type 0
AllFit xs = All Fits xs

abbrev pub four : FxFyCxCy → List Float
four k = k.fx ∷ k.fy ∷ k.cx ∷ k.cy ∷ []

abbrev pub InputsFit : Inputs → Type 0
InputsFit i = AllFit (four i.base ++ i.xs ++ i.ys ++ i.decomposition)

abbrev pub FindingFits : Finding → Type 0
FindingFits Failed = Unit {0}
FindingFits (Solved c) = AllFit (four c.k ++ (c.dist.p1 ∷ c.dist.p2 ∷ []))

abbrev pub CallFits : Call → Type 0
CallFits (next n) = Unit {0}
CallFits (seed n) = Unit {0}
CallFits (answer n f rows flags) = FindingFits f
CallFits ask = Unit {0}
CallFits progress = Unit {0}
CallFits (stop n) = Unit {0}
CallFits last = Unit {0}
CallFits counts = Unit {0}

-- ---- a book with no seed waiting; and outcomes entered one after the other
unfoldable pub at_rest : Book → Book
at_rest b = record { inputs = b.inputs; round = b.round; list = b.list; earlier = b.earlier; answered = b.answered; waits = false; over = b.over }

unfoldable pub entered_in : Book → List Entry → Book
entered_in b [] = b
entered_in b (e ∷ es) = entered_in (book_enter b e.outcome) es

-- ---- the lent list that goes with them, where Start or Resume was lent l
abbrev pub opened_list : Inputs → List Float → Opening → List Float
opened_list i l fresh = written (first_list i) l
opened_list i l (from bs) = (walked i l bs).list

unfoldable pub list_under : Book → List Float → List Call → List Float
list_under b l [] = l
list_under b l (c ∷ cs) = let d = (book_call b c).book in list_under d (buffer_after b d l) cs

abbrev pub list_at : {i : Inputs} → History i → List Float → List Float
list_at {i} h l = list_under (opened_by i h.opening) (opened_list i l h.opening) h.calls
