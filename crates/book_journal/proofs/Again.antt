-- The writer takes every line of a run, the reader gives the lines back, and walking them leads to the run's book
-- again. Assumes nothing.
use Rattle.std.proofs.Common.{ℕ, suc, ◌+◌, ◌≤◌, arith, ◌≡◌, refl, sym, ap, ◌∙◌, true, false, not, List, [], ◌∷◌, ◌++◌, map, append-nil, le-leb, length, length-append, Float, Ok, Err}
use Rattle.replay.specs.Replay.{of_no_line}
use Rattle.common.specs.Each.{All}
use Rattle.camera.specs.declared.sensor.ScheimpflugParams.{ScheimpflugParams}
use Rattle.seeds.specs.Layout.{written}
use Rattle.score.specs.Reasons.{Outcome}
use Rattle.journal.specs.declared.Line.{Line}
use Rattle.journal.specs.Line.{recordable, writable, Writable, LineFits}
use Rattle.journal.proofs.Whole.{written_journal_is_read}
use Rattle.journal.specs.Outcome.{recorded_as}
use Rattle.replay.specs.declared.WalkEnd.{WalkEnd}
use Rattle.replay.specs.declared.WalkEnd.TheVariants.{AllTaken}
use Rattle.book.specs.Book.{Inputs, Entry, Book, entries, number, current, run_best_of, first_list, opened, book_enter, line_of}
use Rattle.book.specs.Conditions.{NoneHolds, conditions}
use Rattle.book.proofs.Moves.{entry, Stands}
use Rattle.book.proofs.Good.{Good, calls_keep_good}
use Rattle.book_journal.specs.Lines.{lines_of, journal_of}
use Rattle.book_journal.specs.Replay.{follows, buffer_after, walk_from, walked, standing, replay_of}
use Rattle.book_journal.specs.History.{History, book_at, InputsFit, CallFits, at_rest}
use Rattle.book_journal.specs.ReplayLaw.{LinesOfRun}
use Rattle.book_journal.proofs.Opening.{opened_book_good, start_not_refused}
use Rattle.book_journal.proofs.Standing.{outcome_comes_back, entry_follows}
use Rattle.book_journal.proofs.Walk.{walk_end, walk_from_no_lines, walk_from_taken_line}
use Rattle.book_journal.proofs.Kept.{Trail, GoodTrail, history_book_has_trail}
use Rattle.book_journal.proofs.Held.{SeedFits, OutcomeFits, EntryFits, BookFits, current_fits, opened_book_fits, enter_keeps_book_fits, history_book_fits}

-- ---- the numbers of a run stay within their limits
pub number_le_655 : (i : Inputs) (b : Book) → Good i b → b.over ≡ false → number b ≤ 655
number_le_655 i b g o =
    let n : number b ≡ length b.earlier + length b.answered = length-append b.earlier b.answered in
    let r = g.room o in
    let c = g.core in
    let f = c.few in
    let k = c.in_rounds in
    let s = c.sized.few_rounds in
    omega arith

round_le_16 : (i : Inputs) (b : Book) → Good i b → b.round ≤ 16
round_le_16 i b g = let k = g.core.in_rounds in let s = g.core.sized.few_rounds in omega arith

outcome_recordable : (i : Inputs) (t : ScheimpflugParams) (o : Outcome) → Stands i t o → recordable (recorded_as o) ≡ true
unfolding recordable
outcome_recordable i t (Ok g) s = ap not s.score_number
outcome_recordable i t (Err reason) s = refl

-- ---- the writer takes the line of each entry of a trail
pub entry_line_writable : (i : Inputs) (b : Book) (o : Outcome) → Good i b → b.over ≡ false → Stands b.inputs (current b).sensor o → Writable (line_of (entry b o))
unfolding writable
entry_line_writable i b o g v s = rw (le-leb (number b) 655 (number_le_655 i b g v), le-leb b.round 16 (round_le_16 i b g)) (outcome_recordable b.inputs (current b).sensor o s)

trail_lines_writable : (i : Inputs) (b c : Book) (es : List Entry) → Good i b → Trail b es c → All Writable (map line_of es)
trail_lines_writable i b c [] g t = tt
trail_lines_writable i b c (e ∷ es) g t = (
  rw t.1 (entry_line_writable i b e.outcome g t.0 t.2),
  trail_lines_writable i (book_enter b e.outcome) c es ((calls_keep_good i).enters_by b e.outcome t.0 t.2 g) t.3,
)

entry_line_fits : (b : Book) (o : Outcome) → SeedFits (current b) → OutcomeFits o → LineFits (line_of (entry b o))
entry_line_fits b o s h = record { seed_fits = s; outcome_fits = h }

trail_lines_fit : (i : Inputs) (b c : Book) (es : List Entry) → Good i b → BookFits b → All EntryFits es → Trail b es c → All LineFits (map line_of es)
trail_lines_fit i b c [] g h k t = tt
trail_lines_fit i b c (e ∷ es) g h k t = (
  rw t.1 (entry_line_fits b e.outcome (current_fits i b g t.0 h) k.0),
  trail_lines_fit i (book_enter b e.outcome) c es ((calls_keep_good i).enters_by b e.outcome t.0 t.2 g) (enter_keeps_book_fits b e.outcome k.0 h) k.1 t.3,
)

-- ---- a book of a run whose numbers are those of binary64, from inputs that are
pub record Sound (i : Inputs) (b : Book) : Type 0 where
  pub start : Good i (opened i)
  pub start_holds : BookFits (opened i)
  pub kept : GoodTrail i b
  pub holds : BookFits b

pub history_sound : (i : Inputs) (h : History i) → InputsFit i → All CallFits h.calls → Sound i (book_at h)
history_sound i h f k = record { start = opened_book_good i h.room h.accepted; start_holds = opened_book_fits i f; kept = history_book_has_trail i h; holds = history_book_fits i h f k }

pub kept_lines_writable : (i : Inputs) (b : Book) → Good i (opened i) → GoodTrail i b → All Writable (lines_of b)
kept_lines_writable i b g k = trail_lines_writable i (opened i) (at_rest b) (entries b) g k.trail

pub lines_taken : (i : Inputs) (h : History i) → All Writable (lines_of (book_at h))
lines_taken i h = kept_lines_writable i (book_at h) (opened_book_good i h.room h.accepted) (history_book_has_trail i h)

pub sound_lines_read_back : (i : Inputs) (b : Book) → Sound i b → LinesOfRun b
sound_lines_read_back i b s =
    let fit = trail_lines_fit i (opened i) (at_rest b) (entries b) s.start s.start_holds s.holds.held s.kept.trail in
    record { lines_fit = fit; read_back = written_journal_is_read (lines_of b) fit (kept_lines_writable i b s.start s.kept) }

-- ---- the lent list as the entries leave it
unfoldable pub list_along : Book → List Float → List Entry → List Float
list_along b l [] = l
list_along b l (e ∷ es) = let c = book_enter b e.outcome in list_along c (buffer_after b c l) es

-- ---- the lines of a trail are walked to its end, and then the lines behind them
pub walk_of_trail : (b c : Book) (l : List Float) (n : ℕ) (es : List Entry) (ms : List Line) (x : WalkEnd) → Trail b es c
    → walk_from b l n (map line_of es ++ ms) x ≡ walk_from c (list_along b l es) (n + length es) ms x
unfolding list_along
walk_of_trail b c l n [] ms x t = rw t (ap (λ (k : ℕ). walk_from c l k ms x) (omega arith))
walk_of_trail b c l n (e ∷ es) ms x t =
    let d = book_enter b e.outcome in
    let f : follows b (line_of e) ≡ true = rw t.1 (entry_follows b e.outcome t.0 t.2) in
    let s : walk_from b l n (line_of e ∷ (map line_of es ++ ms)) x ≡ walk_from d (buffer_after b d l) (suc n) (map line_of es ++ ms) x =
    rw (outcome_comes_back b.inputs (current b).sensor e.outcome t.2) at (walk_from_taken_line b l n x (line_of e) (map line_of es ++ ms) f) in
    s ∙ walk_of_trail d c (buffer_after b d l) (suc n) es ms x t.3 ∙ ap (λ (k : ℕ). walk_from c (list_along d (buffer_after b d l) es) k ms x) (omega arith)

pub walk_of_whole_trail : (b c : Book) (l : List Float) (n : ℕ) (es : List Entry) (x : WalkEnd) → Trail b es c → walk_from b l n (map line_of es) x ≡ walk_end c (list_along b l es) (n + length es) x
walk_of_whole_trail b c l n es x t = ap (λ (z : List Line). walk_from b l n z x) (sym (append-nil (map line_of es))) ∙ walk_of_trail b c l n es [] x t ∙ walk_from_no_lines c (list_along b l es) (n + length es) x

pub walked_again : (i : Inputs) (b : Book) (l : List Float) → Sound i b
    → walked i l (journal_of b) ≡ walk_end (at_rest b) (list_along (opened i) (written (first_list i) l) (entries b)) (length (entries b)) AllTaken
unfolding walked
walked_again i b l s = rw (sound_lines_read_back i b s).read_back (walk_of_whole_trail (opened i) (at_rest b) (written (first_list i) l) 0 (entries b) AllTaken s.kept.trail ∙ ap (λ (k : ℕ). walk_end (at_rest b) (list_along (opened i) (written (first_list i) l) (entries b)) k AllTaken) (omega arith))

at_rest_keeps_standing : (b : Book) → standing (at_rest b) ≡ standing b
unfolding standing at_rest run_best_of
at_rest_keeps_standing b = refl

pub replayed_standing : (i : Inputs) (b : Book) (l : List Float) → Sound i b → NoneHolds (conditions i (length l)) → (replay_of i l (journal_of b)).reply ≡ of_no_line (standing b)
unfolding replay_of
replayed_standing i b l s a = simp (replay_of, start_not_refused i (length l) a, walked_again i b l s) (ap of_no_line (at_rest_keeps_standing b))

pub replayed_list : (i : Inputs) (b : Book) (l : List Float) → Sound i b → NoneHolds (conditions i (length l))
    → (replay_of i l (journal_of b)).list ≡ list_along (opened i) (written (first_list i) l) (entries b)
unfolding replay_of
replayed_list i b l s a = simp (replay_of, start_not_refused i (length l) a, walked_again i b l s)
