-- How many candidates were scored, and how many were skipped for each reason: counted over the lines of the journal,
-- over the replies, and by the call Counts. That the three agree, as types (docs/SPECIFICATION.md, 6.10). Definitions
-- only.
use Rattle.std.specs.Prelude.{ℕ, ◌+◌, ◌≤◌, ◌≡◌, cond, List, [], ◌∷◌, Some, None}
use Rattle.common.specs.declared.Refusal.{Refusal}
use Rattle.journal.specs.Counts.{Kind, one_if_of_kind, count_in, counts_in}
use Rattle.journal.specs.Reading.{read_journal}
use Rattle.journal.specs.Report.{total}
use Rattle.book.specs.Calls.{Call, Reply, candidate, over, part, scored, skipped, result, bar, stopped, line, no_line, refused, counts, counted}
use Rattle.book.specs.Book.{Inputs, number, book_call, replies}
use Rattle.book_journal.specs.Lines.{lines_of, journal_of}
use Rattle.book_journal.specs.History.{opened_by, History, book_at}

-- ---- counted over the replies: the answers of kind k, all answers, and the seeds handed out
abbrev pub said : Kind → Reply → ℕ
said k (candidate n) = 0
said k over = 0
said k (part xs) = 0
said k (scored s) = one_if_of_kind k None
said k (skipped reason) = one_if_of_kind k (Some reason)
said k (result w) = 0
said k (bar p) = 0
said k (stopped c r) = 0
said k (line l) = 0
said k no_line = 0
said k (counted c) = 0
said k (refused r) = 0

unfoldable pub said_in : Kind → List Reply → ℕ
said_in k [] = 0
said_in k (r ∷ rs) = said k r + said_in k rs

abbrev pub is_answer : Reply → ℕ
is_answer (candidate n) = 0
is_answer over = 0
is_answer (part xs) = 0
is_answer (scored s) = 1
is_answer (skipped reason) = 1
is_answer (result w) = 0
is_answer (bar p) = 0
is_answer (stopped c r) = 0
is_answer (line l) = 0
is_answer no_line = 0
is_answer (counted c) = 0
is_answer (refused r) = 0

unfoldable pub answers_in : List Reply → ℕ
answers_in [] = 0
answers_in (r ∷ rs) = is_answer r + answers_in rs

abbrev pub is_handing : Reply → ℕ
is_handing (candidate n) = 1
is_handing over = 0
is_handing (part xs) = 0
is_handing (scored s) = 0
is_handing (skipped reason) = 0
is_handing (result w) = 0
is_handing (bar p) = 0
is_handing (stopped c r) = 0
is_handing (line l) = 0
is_handing no_line = 0
is_handing (counted c) = 0
is_handing (refused r) = 0

unfoldable pub handed_in : List Reply → ℕ
handed_in [] = 0
handed_in (r ∷ rs) = is_handing r + handed_in rs

-- ---- the counts of a history; those of a resumed one begin with the kept lines
pub record CountsAgree (i : Inputs) (h : History i) : Type 0 where
  -- each count is that of the replies
  pub tallied : (k : Kind) → count_in k (lines_of (book_at h)) ≡ count_in k (lines_of (opened_by i h.opening)) + said_in k (replies (opened_by i h.opening) h.calls)
  -- the call Counts replies with them
  pub replied : (book_call (book_at h) counts).reply ≡ counted (counts_in (lines_of (book_at h)))
  -- together they are the number of answers
  pub answers : total (counts_in (lines_of (book_at h))) ≡ number (opened_by i h.opening) + answers_in (replies (opened_by i h.opening) h.calls)
  -- Next handed out one seed for each of them, and one more where a seed waits
  pub handed_out : number (opened_by i h.opening) + handed_in (replies (opened_by i h.opening) h.calls) ≡ total (counts_in (lines_of (book_at h))) + cond (book_at h).waits 1 0
  -- so the report is never refused for its total
  pub few : total (counts_in (lines_of (book_at h))) ≤ 656
  -- a refused call enters nothing
  pub refused_nowhere : (c : Call) (r : Refusal) → (book_call (book_at h) c).reply ≡ refused r → (book_call (book_at h) c).book ≡ book_at h

-- and each count is that of the lines that the reader gives of the run's journal
abbrev pub InJournal : {i : Inputs} → History i → Type 0
InJournal h = (k : Kind) → count_in k (lines_of (book_at h)) ≡ count_in k (read_journal (journal_of (book_at h))).lines
