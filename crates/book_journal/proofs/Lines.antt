-- The walk of a journal's lines over the run's record that goes with a book is the walk over the book: one line, and
-- then any lines. Assumes nothing.
use Rattle.std.proofs.Common.{ℕ, suc, ◌+◌, arith, ◌≡◌, refl, sym, ap, ◌∙◌, Bool, true, false, ◌&&◌, true≢false, List, [], ◌∷◌, le-ltb, eqb, length, take, length-append, Float, Some, None, Ok, Err}
use Rattle.common.specs.declared.Refusal.TheVariants.{NothingScored}
use Rattle.common.specs.Tests.{case}
use Rattle.common.specs.Each.{All}
use Rattle.seeds.specs.Layout.{six}
use Rattle.score.specs.Reasons.{Outcome}
use Rattle.score.specs.declared.best.Candidate.{Candidate}
use Rattle.score.specs.Best.{nothing, chosen}
use Rattle.journal.specs.declared.Line.{Line}
use Rattle.journal.specs.Line.{line_bytes, LineFits, Writable, journal_bytes}
use Rattle.journal.specs.Outcome.{outcome_in}
use Rattle.search.specs.declared.run.Run.{Run}
use Rattle.search.specs.declared.next.Handed.TheVariants as handed
use Rattle.search.specs.Next.{next_def}
use Rattle.search.specs.Answer.{Left, left, enter_def}
use Rattle.replay.specs.declared.WalkEnd.{WalkEnd}
use Rattle.replay.specs.declared.WalkEnd.TheVariants.{NotTheRun}
use Rattle.replay.specs.Stand.{same_reals, can_stand}
use Rattle.replay.specs.Walk.{answers_waiting, take_line, RunWalk, walk_lines}
use Rattle.replay.specs.Replay.{standing_of}
use Rattle.book.specs.Book.{Inputs, demand, Book, number, current, run_best_of, with_waiting, with_entry, book_enter}
use Rattle.book.proofs.Cases.{case_chosen}
use Rattle.book.proofs.Moves.{enter_adds_entry, waiting_keeps_entries}
use Rattle.book.proofs.Good.{calls_keep_good}
use Rattle.book.specs.RunOf.{run_of}
use Rattle.book.proofs.RunOf.{State, run-fields, run-bests, run_of_sound}
use Rattle.book.proofs.Simulation.{awaiting_run_of, waiting_keeps_list_in_front, seed_at_is_current, GoesWith, enter_agrees}
use Rattle.book_journal.specs.Replay.{follows, Walked, buffer_after, walk_from, standing}
use Rattle.book_journal.proofs.Standing.{following_line_is_of_entry}
use Rattle.book_journal.proofs.Walk.{walk_from_no_lines, walk_from_taken_line, walk_from_refused_line}
use Rattle.book_journal.proofs.Live.{enter_list_is_buffer_after}

-- ---- Next, where no seed waits
module _ (i : Inputs) (b : Book) (l : List Float) (f : State i b l) (w : b.waits ≡ false) where
  pub next_hands_out_seed : b.over ≡ false → next_def (run_of b) l ≡ record { reply = Ok (handed.Candidate (number b)); run = run_of (with_waiting b) }
  unfolding next_def
  next_hands_out_seed o =
      simp (next_def, run-fields, run_of_sound i b f.good, w, o, le-ltb (length l) (demand b.inputs) f.there.long, seed_at_is_current b l f.there (f.good.room o), awaiting_run_of b)

  next_nothing_scored : b.over ≡ true → run_best_of b ≡ nothing → next_def (run_of b) l ≡ record { reply = Err NothingScored; run = run_of b }
  unfolding next_def
  next_nothing_scored o e = simp (next_def, run-fields, run-bests, run_of_sound i b f.good, w, o, e, le-ltb (length l) (demand b.inputs) f.there.long)

  next_over : (v : Candidate) → b.over ≡ true → run_best_of b ≡ chosen v → next_def (run_of b) l ≡ record { reply = Ok handed.Over; run = run_of b }
  unfolding next_def
  next_over v o e = simp (next_def, run-fields, run-bests, run_of_sound i b f.good, w, o, e, le-ltb (length l) (demand b.inputs) f.there.long)

-- ---- a line is the next answer of the record exactly where it is that of the book
abbrev is_next : Book → Line → Bool
is_next b m = eqb m.number (number b) && eqb m.round b.round && same_reals (six m.seed) (six (current b)) && can_stand b.inputs.center (current b).sensor m.outcome

answers_waiting_is_next : (b : Book) (m : Line) → answers_waiting (run_of (with_waiting b)) m ≡ is_next b m
unfolding answers_waiting run_of with_waiting
answers_waiting_is_next b m = refl

follows_is_next : (b : Book) (m : Line) → b.over ≡ false → follows b m ≡ is_next b m
unfolding follows
follows_is_next b m o = simp o

none_follows_over : (b : Book) (m : Line) → b.over ≡ true → follows b m ≡ false
unfolding follows
none_follows_over b m o = simp o

-- ---- entering an outcome; whether the seed waits before it makes no difference
module _ (b : Book) where
  waiting_keeps_inputs : (with_waiting b).inputs ≡ b.inputs
  unfolding with_waiting
  waiting_keeps_inputs = refl

  pub waiting_seed_of_run : (run_of (with_waiting b)).waiting.seed ≡ current b
  unfolding run_of with_waiting
  waiting_seed_of_run = refl

  enter_after_waiting : (o : Outcome) → book_enter (with_waiting b) o ≡ book_enter b o
  unfolding book_enter with_entry with_waiting
  enter_after_waiting o = refl

  buffer_after_waiting : (c : Book) (l : List Float) → buffer_after (with_waiting b) c l ≡ buffer_after b c l
  unfolding buffer_after with_waiting
  buffer_after_waiting c l = refl

module _ (i : Inputs) (b : Book) (l : List Float) (f : State i b l) (o : Outcome) where
  abbrev entered : Left
  entered = enter_def (run_of (with_waiting b)) l o

  entered_goes_with_enter : GoesWith entered (book_enter b o)
  entered_goes_with_enter = rw (enter_after_waiting b o) at (enter_agrees (with_waiting b) o l (waiting_keeps_entries b).1 (waiting_keeps_list_in_front b l f.there) (rw (waiting_keeps_inputs b) f.good.core.sized.least))

  entered_leaves_book : entered ≡ left (run_of (book_enter b o)) (buffer_after b (book_enter b o) l)
  entered_leaves_book =
      let m : entered.list ≡ buffer_after b (book_enter b o) l =
      enter_list_is_buffer_after (with_waiting b) o l (waiting_keeps_entries b).1 ∙ ap (λ (c : Book). buffer_after (with_waiting b) c l) (enter_after_waiting b o) ∙ buffer_after_waiting b (book_enter b o) l in
      ap (λ (x : Run). left x entered.list) entered_goes_with_enter.run ∙ ap (left (run_of (book_enter b o))) m

-- ---- one line is taken exactly where it follows
module _ (i : Inputs) (b : Book) (l : List Float) (f : State i b l) (w : b.waits ≡ false) (m : Line) where
  abbrev next : Book
  next = book_enter b (outcome_in m.outcome)

  line_taken : follows b m ≡ true → take_line (run_of b) l m ≡ Some (left (run_of next) (buffer_after b next l))
  unfolding take_line
  line_taken t =
      case b.over
      (λ o. absurd (true≢false (sym t ∙ none_follows_over b m o)))
      (λ o. simp (next_hands_out_seed i b l f w o, answers_waiting_is_next b m, sym (follows_is_next b m o) ∙ t, entered_leaves_book i b l f (outcome_in m.outcome)))

  line_refused : follows b m ≡ false → take_line (run_of b) l m ≡ None
  unfolding take_line
  line_refused t =
      case b.over
      (λ o. case_chosen (run_best_of b) (λ e. simp (next_nothing_scored i b l f w o e)) (λ v e. simp (next_over i b l f w v o e)))
      (λ o. simp (next_hands_out_seed i b l f w o, answers_waiting_is_next b m, sym (follows_is_next b m o) ∙ t))

  line_state : LineFits m → Writable m → follows b m ≡ true → State i next (buffer_after b next l)
  line_state ok can t =
      let s = following_line_is_of_entry b m ok can t in
      record {
        good = (calls_keep_good i).enters_by b (outcome_in m.outcome) s.going s.stands f.good;
        there = rw (entered_leaves_book i b l f (outcome_in m.outcome)) at (entered_goes_with_enter i b l f (outcome_in m.outcome)).there;
      }

-- ---- any lines
walk_lines_refused : (r : Run) (l : List Float) (n k : ℕ) (m : Line) (ms : List Line) (e : WalkEnd) → take_line r l m ≡ None
    → walk_lines r l n k (m ∷ ms) e ≡ record { run = r; list = l; lines = n; bytes = k; walk_end = NotTheRun }
unfolding walk_lines
walk_lines_refused r l n k m ms e t = simp (walk_lines, t)

walk_lines_taken : (r : Run) (l : List Float) (n k : ℕ) (m : Line) (ms : List Line) (e : WalkEnd) (x : Left) → take_line r l m ≡ Some x
    → walk_lines r l n k (m ∷ ms) e ≡ walk_lines x.run x.list (suc n) (k + length (line_bytes m)) ms e
unfolding walk_lines
walk_lines_taken r l n k m ms e x t = simp (walk_lines, t)

-- the walk over the record, where w is the book's walk and the lines taken have k bytes
abbrev pub record_walk : Walked → ℕ → RunWalk
record_walk w k = record { run = run_of w.book; list = w.list; lines = w.taken; bytes = k; walk_end = w.walk_end }

pub record WalksAsBook (b : Book) (l : List Float) (n k : ℕ) (ms : List Line) (e : WalkEnd) : Type 0 where
  pub count : ℕ
  pub taken_is : (walk_from b l n ms e).taken ≡ n + count
  pub walk_is : walk_lines (run_of b) l n k ms e ≡ record_walk (walk_from b l n ms e) (k + length (journal_bytes (take count ms)))

walks_as_book_end : (b : Book) (l : List Float) (n k : ℕ) (e : WalkEnd) → WalksAsBook b l n k [] e
unfolding walk_lines journal_bytes
walks_as_book_end b l n k e =
    let w = walk_from_no_lines b l n e in
    record {
      count = 0;
      taken_is = ap (λ (x : Walked). x.taken) w ∙ omega arith;
      walk_is = rw w (ap (λ (z : ℕ). record { run = run_of b; list = l; lines = n; bytes = z; walk_end = e }) (omega arith));
    }

walks_as_book_stop : (i : Inputs) (b : Book) (l : List Float) (n k : ℕ) (m : Line) (ms : List Line) (e : WalkEnd) → State i b l → b.waits ≡ false → follows b m ≡ false → WalksAsBook b l n k (m ∷ ms) e
unfolding journal_bytes
walks_as_book_stop i b l n k m ms e f v t =
    let w = walk_from_refused_line b l n e m ms t in
    record {
      count = 0;
      taken_is = ap (λ (x : Walked). x.taken) w ∙ omega arith;
      walk_is = walk_lines_refused (run_of b) l n k m ms e (line_refused i b l f v m t) ∙ rw w (ap (λ (z : ℕ). record { run = run_of b; list = l; lines = n; bytes = z; walk_end = NotTheRun }) (omega arith));
    }

walks_as_book_taken : (i : Inputs) (b : Book) (l : List Float) (n k : ℕ) (m : Line) (ms : List Line) (e : WalkEnd) (f : State i b l) → b.waits ≡ false → follows b m ≡ true
    → (let c = book_enter b (outcome_in m.outcome) in WalksAsBook c (buffer_after b c l) (suc n) (k + length (line_bytes m)) ms e) → WalksAsBook b l n k (m ∷ ms) e
unfolding journal_bytes
walks_as_book_taken i b l n k m ms e f v t ih =
    let c = book_enter b (outcome_in m.outcome) in
    let w = walk_from_taken_line b l n e m ms t in
    let z = length-append (line_bytes m) (journal_bytes (take ih.count ms)) in
    record {
      count = suc ih.count;
      taken_is = ap (λ (x : Walked). x.taken) w ∙ ih.taken_is ∙ omega arith;
      walk_is =
          walk_lines_taken (run_of b) l n k m ms e (left (run_of c) (buffer_after b c l)) (line_taken i b l f v m t)
          ∙ ih.walk_is
          ∙ rw w (ap (record_walk (walk_from c (buffer_after b c l) (suc n) ms e)) (omega arith));
    }

pub lines_walk_as_book : (i : Inputs) (b : Book) (l : List Float) (n k : ℕ) (ms : List Line) (e : WalkEnd) → State i b l → b.waits ≡ false → All LineFits ms → All Writable ms → WalksAsBook b l n k ms e
lines_walk_as_book i b l n k [] e f v ok can = walks_as_book_end b l n k e
lines_walk_as_book i b l n k (m ∷ ms) e f v ok can =
    case (follows b m)
    (λ t.
    let c = book_enter b (outcome_in m.outcome) in
    walks_as_book_taken i b l n k m ms e f v t
    (lines_walk_as_book i c (buffer_after b c l) (suc n) (k + length (line_bytes m)) ms e (line_state i b l f v m ok.0 can.0 t) (enter_adds_entry b (outcome_in m.outcome)).1 ok.1 can.1))
    (λ t. walks_as_book_stop i b l n k m ms e f v t)

-- ---- where a run stands
pub standing_of_run : (i : Inputs) (b : Book) (l : List Float) → State i b l → b.waits ≡ false → standing_of (run_of b) l ≡ standing b
unfolding standing_of standing
standing_of_run i b l f w =
    case b.over
    (λ o. case_chosen (run_best_of b) (λ e. simp (next_nothing_scored i b l f w o e, o, e)) (λ v e. simp (next_over i b l f w v o e, o, e, run-bests)))
    (λ o. simp (next_hands_out_seed i b l f w o, o, waiting_seed_of_run b))
