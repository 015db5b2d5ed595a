-- Winners of stretches of a run's entries and of a journal's lines (docs/SPECIFICATION.md, chapter 10), as types.
-- Definitions only.
use Rattle.std.specs.Prelude.{◌≡◌, Ok, Err}
use mathlib.Core.List.{List, [], ◌∷◌, map, foldr}
use Rattle.common.specs.Each.{All}
use Rattle.score.specs.declared.best.Candidate.{Candidate}
use Rattle.score.specs.Best.{Chosen, nothing, best_of, held, candidate_of}
use Rattle.score.specs.Winners.{winner_of_two, winner_of_bests, winner_of, joined}
use Rattle.score.specs.Theorem.{IsNumber}
use Rattle.journal.specs.declared.Line.{Line}
use Rattle.journal.specs.Reading.{read_journal}
use Rattle.journal.specs.Outcome.{scoring_in}
use Rattle.book.specs.Book.{Entry, Book, entries, scored_of, run_best_of}
use Rattle.book_journal.specs.Lines.{journal_of}

-- ---- the winner of a stretch of entries: the earliest with the lowest score, or none where none is scored
abbrev pub stretch_winner : List Entry → Chosen
stretch_winner es = best_of (scored_of es)

-- the scored candidates of a stretch of lines, and the winner of the stretch
unfoldable pub scored_in : List Line → List Candidate
scored_in [] = []
scored_in (l ∷ ls) = elim l.outcome [ Ok m ↦ candidate_of l.number l.seed.sensor (scoring_in m) ∷ scored_in ls | Err reason ↦ scored_in ls ]

abbrev pub line_winner : List Line → Chosen
line_winner ls = best_of (scored_in ls)

-- ---- The winner of two is associative, with none as its unit. The best of a list is the winner of its candidates,
-- taken two at a time, and so is the winner of any number of bests whose scores are numbers. Records of two bests have
-- the same winner.
pub record Groups : Type 0 where
  pub unit_left : (c : Chosen) → winner_of_two nothing c ≡ c
  pub unit_right : (c : Chosen) → winner_of_two c nothing ≡ c
  pub associative : (a b c : Chosen) → winner_of_two (winner_of_two a b) c ≡ winner_of_two a (winner_of_two b c)
  pub of_list : (ws : List Candidate) → best_of ws ≡ foldr winner_of_two nothing (map (λ w. best_of (w ∷ [])) ws)
  pub of_any : (cs : List Chosen) → All IsNumber cs → winner_of cs ≡ foldr winner_of_two nothing cs
  pub as_records : (a b : Chosen) → winner_of_bests (held a) (held b) ≡ held (winner_of_two a b)

-- ---- Wherever the entries are cut into stretches, and however these are grouped, the winner of their winners, in
-- order, is the run's best. This holds for every book: however it was opened, whatever its inputs, whether its run is
-- over or not.
pub record StretchesRight (b : Book) : Type 0 where
  pub any_cutting : (ss : List (List Entry)) → joined ss ≡ entries b → winner_of (map stretch_winner ss) ≡ run_best_of b
  pub any_grouping : (gs : List (List (List Entry))) → joined (joined gs) ≡ entries b → winner_of (map (λ ss. winner_of (map stretch_winner ss)) gs) ≡ run_best_of b

-- the same of the lines that the reader gives of the book's journal
pub record LineStretchesRight (b : Book) : Type 0 where
  pub any_cutting : (ss : List (List Line)) → joined ss ≡ (read_journal (journal_of b)).lines → winner_of (map line_winner ss) ≡ run_best_of b
  pub any_grouping : (gs : List (List (List Line))) → joined (joined gs) ≡ (read_journal (journal_of b)).lines → winner_of (map (λ ss. winner_of (map line_winner ss)) gs) ≡ run_best_of b
