-- The winner of the stretches' winners is the run's best, however its entries or its journal's lines are cut and
-- grouped. Assumes nothing.
use Rattle.std.proofs.Common.{◌≡◌, refl, sym, ap, ◌∙◌, List, [], ◌∷◌, ◌++◌, map, Ok, Err}
use mathlib.Core.List.{flat_map}
use Rattle.common.specs.Each.{All}
use Rattle.common.specs.Results.{ok_values_equal}
use Rattle.score.specs.declared.outcome.Scoring.{Scoring}
use Rattle.score.specs.declared.best.Candidate.{Candidate}
use Rattle.score.specs.Best.{Chosen, best_of, candidate_of}
use Rattle.score.specs.Winners.{winner_of, joined}
use Rattle.score.proofs.WinnerLaws as law
use Rattle.journal.specs.Outcome.{Recorded}
use Rattle.journal.specs.declared.Line.{Line}
use Rattle.journal.specs.Reading.{Lines, read_journal}
use Rattle.journal.specs.Outcome.{fields_of, scoring_in}
use Rattle.book.specs.Book.{Inputs, Entry, Book, entries, scored_of, run_best_of, line_of}
use Rattle.book.proofs.Cases.{case_result}
use Rattle.book.proofs.Simulation.{scored_of_append}
use Rattle.book.proofs.Good.{Proper}
use Rattle.book_journal.specs.Lines.{journal_of}
use Rattle.book_journal.specs.History.{History, book_at, InputsFit, CallFits}
use Rattle.book_journal.specs.Stretches.{stretch_winner, scored_in, line_winner, Groups, StretchesRight, LineStretchesRight}
use Rattle.book_journal.proofs.Standing.{outcome_comes_back}
use Rattle.book_journal.proofs.Kept.{history_book_has_trail}
use Rattle.book_journal.proofs.Again.{history_sound, sound_lines_read_back}

pub groups : Groups
groups = record { unit_left = law.none_first; unit_right = law.none_second; associative = law.associative; of_list = law.best_fold; of_any = law.winner_fold; as_records = law.winner_of_held_bests }

-- ---- any list whose elements, one after the other, have their candidates one after the other
module _ {A : Type 0} (scored : List A → List Candidate) (none : scored [] ≡ []) (in_a_row : (xs ys : List A) → scored (xs ++ ys) ≡ scored xs ++ scored ys) where
  scored_joined : (ss : List (List A)) → joined (map scored ss) ≡ scored (joined ss)
  unfolding flat_map
  scored_joined [] = sym none
  scored_joined (s ∷ ss) = ap (λ (z : List Candidate). scored s ++ z) (scored_joined ss) ∙ sym (in_a_row s (joined ss))

  each_stretch_best : (ss : List (List A)) → map (λ s. best_of (scored s)) ss ≡ map best_of (map scored ss)
  each_stretch_best [] = refl
  each_stretch_best (s ∷ ss) = ap (λ (z : List Chosen). best_of (scored s) ∷ z) (each_stretch_best ss)

  winner_of_any_cutting : (ss : List (List A)) → winner_of (map (λ s. best_of (scored s)) ss) ≡ best_of (scored (joined ss))
  winner_of_any_cutting ss = ap winner_of (each_stretch_best ss) ∙ law.cut_anywhere (map scored ss) ∙ ap best_of (scored_joined ss)

  each_group_winner : (gs : List (List (List A))) → map (λ ss. winner_of (map (λ s. best_of (scored s)) ss)) gs ≡ map (λ s. best_of (scored s)) (map joined gs)
  each_group_winner [] = refl
  each_group_winner (g ∷ gs) = rw (winner_of_any_cutting g) (ap (λ (z : List Chosen). best_of (scored (joined g)) ∷ z) (each_group_winner gs))

  winner_of_any_grouping : (gs : List (List (List A))) → winner_of (map (λ ss. winner_of (map (λ s. best_of (scored s)) ss)) gs) ≡ best_of (scored (joined (joined gs)))
  winner_of_any_grouping gs = ap winner_of (each_group_winner gs) ∙ winner_of_any_cutting (map joined gs) ∙ ap (λ (z : List A). best_of (scored z)) (law.joined_twice gs)

-- ---- a run's entries
scored_of_no_entries : scored_of [] ≡ []
unfolding scored_of
scored_of_no_entries = refl

pub stretches_right : (b : Book) → StretchesRight b
unfolding run_best_of
stretches_right b = record {
  any_cutting = λ ss e. winner_of_any_cutting scored_of scored_of_no_entries scored_of_append ss ∙ ap stretch_winner e;
  any_grouping = λ gs e. winner_of_any_grouping scored_of scored_of_no_entries scored_of_append gs ∙ ap stretch_winner e;
}

-- ---- a journal's lines
scored_in_no_lines : scored_in [] ≡ []
unfolding scored_in
scored_in_no_lines = refl

scored_in_append : (ls ms : List Line) → scored_in (ls ++ ms) ≡ scored_in ls ++ scored_in ms
scored_in_append [] ms = rw scored_in_no_lines
scored_in_append (l ∷ ls) ms = more l.outcome refl (scored_in_append ls ms)
  where
    more : (r : Recorded) → l.outcome ≡ r → scored_in (ls ++ ms) ≡ scored_in ls ++ scored_in ms → scored_in (l ∷ (ls ++ ms)) ≡ scored_in (l ∷ ls) ++ scored_in ms
    more (Err reason) e ih = unfold scored_in in simp (scored_in, e) ih
    more (Ok m) e ih = unfold scored_in in simp (scored_in, e) (ap (λ (z : List Candidate). candidate_of l.number l.seed.sensor (scoring_in m) ∷ z) ih)

-- the lines of a run have the candidates of its entries
scored_in_lines_of_entries : (i : Inputs) (es : List Entry) → All (Proper i) es → scored_in (map line_of es) ≡ scored_of es
unfolding scored_in scored_of
scored_in_lines_of_entries i [] p = refl
scored_in_lines_of_entries i (e ∷ es) p =
    let ih = scored_in_lines_of_entries i es p.1 in
    let back = outcome_comes_back i e.seed.sensor e.outcome p.0.stands in
    case_result e.outcome
    (λ g q.
    let b : scoring_in (fields_of g) ≡ g = ok_values_equal (scoring_in (fields_of g)) g (rw q at back) in
    simp (scored_in, scored_of, q)
    (ap (λ (x : Scoring). candidate_of e.number e.seed.sensor x ∷ scored_in (map line_of es)) b ∙ ap (λ (z : List Candidate). candidate_of e.number e.seed.sensor g ∷ z) ih))
    (λ reason q. simp (scored_in, scored_of, q) ih)

pub line_stretches_right : (i : Inputs) (h : History i) → InputsFit i → All CallFits h.calls → LineStretchesRight (book_at h)
unfolding run_best_of
line_stretches_right i h f k =
    let b = book_at h in
    let g = (history_book_has_trail i h).good in
    let same : line_winner (read_journal (journal_of b)).lines ≡ best_of (scored_of (entries b)) =
    ap (λ (z : Lines). line_winner z.lines) (sound_lines_read_back i b (history_sound i h f k)).read_back ∙ ap best_of (scored_in_lines_of_entries b.inputs (entries b) g.core.proper) in
    record {
      any_cutting = λ ss e. winner_of_any_cutting scored_in scored_in_no_lines scored_in_append ss ∙ ap line_winner e ∙ same;
      any_grouping = λ gs e. winner_of_any_grouping scored_in scored_in_no_lines scored_in_append gs ∙ ap line_winner e ∙ same;
    }
