-- Calls that are given the run as the calls before left it, each with a lent list of its own. Only Next and Answer are
-- among them, since the other calls return no run. Definitions only.
use Rattle.std.specs.Prelude.{ℕ, ◌+◌, ◌-◌, ◌*◌, ◌≤◌, ◌≡◌, List, [], ◌∷◌, length, Float, Ok, Err}
use Rattle.score.specs.declared.outcome.Finding.{Finding}
use Rattle.score.specs.Evaluation.{finding_refusal}
use Rattle.search.specs.declared.run.Run.{Run}
use Rattle.search.specs.Next.{next_def}
use Rattle.search.specs.Answer.{answer_refusal, answer_def}
use Rattle.book.specs.Book.{Inputs, demand}

-- a call with the list that it is lent
pub data Lent : Type 0 where
  next_with : List Float → Lent
  answer_with : List Float → Finding → List Float → List ℕ → Lent

unfoldable pub after_lent_call : Run → Lent → Run
after_lent_call r (next_with l) = (next_def r l).run
after_lent_call r (answer_with l f rows flags) = (answer_def r f rows flags l).reply.run

-- the run after such calls, and how many of them were accepted answers
unfoldable pub through : Run → List Lent → Run
through r [] = r
through r (c ∷ cs) = through (after_lent_call r c) cs

unfoldable pub accepted_by : Run → Lent → ℕ
accepted_by r (next_with l) = 0
accepted_by r (answer_with l f rows flags) = elim (answer_refusal r (length l) f rows flags) [ Ok nothing_refused ↦ 1 | Err refusal ↦ 0 ]

unfoldable pub accepted : Run → List Lent → ℕ
accepted r [] = 0
accepted r (c ∷ cs) = accepted_by r c + accepted (after_lent_call r c) cs

-- the seeds of the round's list that aren't answered, and nine for each later round still asked for
abbrev pub still_left : Run → ℕ
still_left r = r.place.len - r.place.at + 9 * (r.options.refine_rounds - r.place.round)

-- ---- Next, and an Answer after it
pub record Turn : Type 0 where
  pub to_next : List Float
  pub to_answer : List Float
  pub finding : Finding
  pub rows : List Float
  pub flags : List ℕ

unfoldable pub turns : List Turn → List Lent
turns [] = []
turns (t ∷ ts) = next_with t.to_next ∷ answer_with t.to_answer t.finding t.rows t.flags ∷ turns ts

-- The lists are long enough, and the finding isn't refused with the tilts of the seed that waits after Next.
abbrev pub AnswerAccepted : Inputs → Run → Turn → Type 0
AnswerAccepted i r t =
    (demand i ≤ length t.to_next)
    × (demand i ≤ length t.to_answer)
    × (finding_refusal t.finding (next_def r t.to_next).run.waiting.seed.sensor t.rows t.flags ≡ Ok tt)

-- each Answer of these is accepted, one turn after the other
unfoldable pub AllAccepted : Inputs → Run → List Turn → Type 0
AllAccepted i r [] = Unit {0}
AllAccepted i r (t ∷ ts) = AnswerAccepted i r t × AllAccepted i (through r (turns (t ∷ []))) ts
