-- What replay replies. Whatever journal gives a winner: all its lines are read, they are the book's entries, and the
-- winner is the earliest S line with the lowest score, with all that holds of Result's winner. Assumes nothing.
use Rattle.std.proofs.Common.{ℕ, suc, ◌≡◌, refl, sym, ap, ◌∙◌, ◌⊎◌, inl, inr, ⊎_elim, List, length, Float, Result, Ok, Err}
use Rattle.common.specs.declared.Refusal.{Refusal}
use Rattle.common.specs.declared.Refusal.TheVariants as refusal
use lib.ListN.{length-map}
use Rattle.common.specs.Tests.{case}
use Rattle.score.specs.declared.best.Candidate.{Candidate}
use Rattle.score.specs.Best.{chosen}
use Rattle.journal.specs.Line.{journal_bytes}
use Rattle.journal.specs.Reading.{ended, refused, Lines, read_journal}
use Rattle.journal.proofs.Whole.{lines_read_to_the_end_were_written}
use Rattle.replay.specs.declared.WalkEnd.{WalkEnd}
use Rattle.replay.specs.declared.WalkEnd.TheVariants.{AllTaken, NotALine, NotTheRun}
use Rattle.replay.specs.declared.Standing.{Standing}
use Rattle.replay.specs.declared.Standing.TheVariants.{Winner, Unfinished}
use Rattle.replay.specs.declared.ReplayRefusal.{ReplayRefusal}
use Rattle.replay.specs.declared.ReplayRefusal.TheVariants.{Refused, At}
use Rattle.replay.specs.Replay.{of_no_line, reply_by}
use Rattle.book.specs.Book.{Inputs, Book, entries, current, run_best_of, line_of}
use Rattle.book.specs.Conditions.{NoneHolds, conditions}
use Rattle.book.specs.Theorem.{Wins}
use Rattle.book.proofs.Cases.{case_chosen, case_result}
use Rattle.book.proofs.Good.{Good}
use Rattle.book.proofs.Winner.{run_best_wins as best-wins}
use Rattle.book_journal.specs.Lines.{lines_of}
use Rattle.book_journal.specs.Replay.{start_refused, Walked, walked, standing, reply_to, replay_of}
use Rattle.book_journal.specs.History.{InputsFit}
use Rattle.book_journal.specs.ReplayLaw.{StartRefuses, Declines, SameAsReader, Accepted}
use Rattle.book_journal.proofs.Opening.{start_not_refused, start_refused_by_conditions}
use Rattle.book_journal.proofs.Kept.{walked_book_has_trail}
use Rattle.book_journal.proofs.Beside.{same_as_reader}

-- ---- the reply
case_walk_end : (x : WalkEnd) {P : Type 0} → (x ≡ AllTaken → P) → (x ≡ NotALine → P) → (x ≡ NotTheRun → P) → P
case_walk_end AllTaken a b c = a refl
case_walk_end NotALine a b c = b refl
case_walk_end NotTheRun a b c = c refl

-- a walk that took all lines replies as its book stands
standing_of_reply : (s : Result Standing Refusal) (w : Standing) → of_no_line s ≡ Ok w → s ≡ Ok w
standing_of_reply (Ok v) w h = cc
standing_of_reply (Err r) w h = cc

winner_reply_all_taken : (w : Walked) (n : ℕ) (s : Float) → reply_to w ≡ Ok (Winner n s) → (w.walk_end ≡ AllTaken) × (standing w.book ≡ Ok (Winner n s))
winner_reply_all_taken w n s h =
    case_walk_end w.walk_end
    (λ e. (e, standing_of_reply (standing w.book) (Winner n s) (simp (reply_by, e) at h)))
    (λ e. let q : ◌≡◌ {A = Result Standing ReplayRefusal} (Err (At refusal.NotALine (suc w.taken))) (Ok (Winner n s)) = simp (reply_by, e) at h in cc)
    (λ e. let q : ◌≡◌ {A = Result Standing ReplayRefusal} (Err (At refusal.NotTheRun (suc w.taken))) (Ok (Winner n s)) = simp (reply_by, e) at h in cc)

record WonBy (b : Book) (n : ℕ) (s : Float) : Type 0 where
  best : Candidate
  chosen_is : run_best_of b ≡ chosen best
  number_is : best.number ≡ n
  score_is : best.score ≡ s

standing_winner_won : (b : Book) (n : ℕ) (s : Float) → standing b ≡ Ok (Winner n s) → WonBy b n s
unfolding standing
standing_winner_won b n s h =
    case b.over
    (λ o.
    case_chosen (run_best_of b)
    (λ e. let q : ◌≡◌ {A = Result Standing Refusal} (Err refusal.NothingScored) (Ok (Winner n s)) = simp (o, e) at h in cc)
    (λ w e. let q : ◌≡◌ {A = Result Standing Refusal} (Ok (Winner w.number w.score)) (Ok (Winner n s)) = simp (o, e) at h in record { best = w; chosen_is = e; number_is = cc; score_is = cc }))
    (λ o. let q : ◌≡◌ {A = Result Standing Refusal} (Ok (Unfinished (current b))) (Ok (Winner n s)) = simp o at h in cc)

-- ---- Start's own refusals
pub start_refuses : (i : Inputs) (l : List Float) (bs : List ℕ) → StartRefuses i l bs
unfolding replay_of
start_refuses i l bs r h = rw (((start_refused_by_conditions i (length l)).refuses r).1 h, replay_of)

-- ---- a refused line
line_refusal_injective : (r s : Refusal) (k j : ℕ) → ◌≡◌ {A = Result Standing ReplayRefusal} (Err (At r k)) (Err (At s j)) → (r ≡ s) × (k ≡ j)
line_refusal_injective r s k j h = (cc, cc)

standing_names_no_line : (s : Result Standing Refusal) (r : Refusal) (k : ℕ) → of_no_line s ≡ Err (At r k) → ⊥
standing_names_no_line (Ok w) r k h = cc
standing_names_no_line (Err s) r k h = cc

abbrev AtLine : Walked → Refusal → ℕ → Type 0
AtLine w r k = ((r ≡ refusal.NotALine) × (w.walk_end ≡ NotALine) × (k ≡ suc w.taken)) ⊎ ((r ≡ refusal.NotTheRun) × (w.walk_end ≡ NotTheRun) × (k ≡ suc w.taken))

line_refusal_at_line : (w : Walked) (r : Refusal) (k : ℕ) → reply_to w ≡ Err (At r k) → AtLine w r k
line_refusal_at_line w r k h =
    case_walk_end w.walk_end
    (λ e. absurd (standing_names_no_line (standing w.book) r k (simp (reply_by, e) at h)))
    (λ e. let q = line_refusal_injective refusal.NotALine r (suc w.taken) k (simp (reply_by, e) at h) in inl (sym q.0, e, sym q.1))
    (λ e. let q = line_refusal_injective refusal.NotTheRun r (suc w.taken) k (simp (reply_by, e) at h) in inr (sym q.0, e, sym q.1))

line_refusal_after_start : (i : Inputs) (l : List Float) (bs : List ℕ) (r : Refusal) (k : ℕ) → (replay_of i l bs).reply ≡ Err (At r k) → (start_refused i (length l) ≡ Ok tt) × AtLine (walked i l bs) r k
unfolding replay_of
line_refusal_after_start i l bs r k h =
    case_result (start_refused i (length l))
    (λ u e. (e, line_refusal_at_line (walked i l bs) r k (rw (e, replay_of) at h)))
    (λ s e. let q : ◌≡◌ {A = Result Standing ReplayRefusal} (Err (Refused s)) (Err (At r k)) = rw (e, replay_of) at h in cc)

-- any other reply: no line was refused
other_reply_reads_all : (i : Inputs) (l : List Float) (bs : List ℕ) → SameAsReader i l bs → NoneHolds (conditions i (length l)) → ((r : Refusal) (k : ℕ) → (replay_of i l bs).reply ≡ Err (At r k) → ⊥)
    → (read_journal bs ≡ record { lines = lines_of (walked i l bs).book; ending = ended }) × ((replay_of i l bs).reply ≡ of_no_line (standing (walked i l bs).book))
unfolding replay_of
other_reply_reads_all i l bs r a never =
    let w = walked i l bs in
    let z = start_not_refused i (length l) a in
    case_walk_end w.walk_end
    (λ e. (r.all_read e, simp (replay_of, reply_by, z, e)))
    (λ e. absurd (never refusal.NotALine (suc w.taken) (simp (replay_of, reply_by, z, e))))
    (λ e. absurd (never refusal.NotTheRun (suc w.taken) (simp (replay_of, reply_by, z, e))))

pub declines : (i : Inputs) (l : List Float) (bs : List ℕ) → InputsFit i → Declines i l bs
declines i l bs f = record {
  at_29 = λ k h.
      let s = line_refusal_after_start i l bs refusal.NotALine k h in
      ⊎_elim
      (λ p. ap (λ (z : Lines). z.ending) ((reading s.0).not_read p.1) ∙ ap refused (sym p.2))
      (λ p. absurd (not_both p.0))
      s.1;
  at_30 = λ k h.
      let s = line_refusal_after_start i l bs refusal.NotTheRun k h in
      ⊎_elim
      (λ p. absurd (not_both (sym p.0)))
      (λ p.
      let r = reading s.0 in
      let c = r.not_following p.1 in
      let n : length (lines_of (walked i l bs).book) ≡ (walked i l bs).taken = length-map (entries (walked i l bs).book) line_of ∙ sym r.taken_is in
      (c.0, c.1, c.2, c.3, p.2 ∙ ap suc (sym n)))
      s.1;
  no_others = λ r k h. ⊎_elim (λ p. inl p.0) (λ p. inr p.0) (line_refusal_after_start i l bs r k h).1;
  else_all_read = λ a. other_reply_reads_all i l bs (same_as_reader i (length l) a f l bs) a;
}
  where
    not_both : refusal.NotALine ≡ refusal.NotTheRun → ⊥
    not_both h = cc

    reading : start_refused i (length l) ≡ Ok tt → SameAsReader i l bs
    reading z = same_as_reader i (length l) ((start_refused_by_conditions i (length l)).accepts.0 z) f l bs

-- ---- a winner
winner_reply_after_start : (i : Inputs) (l : List Float) (bs : List ℕ) (n : ℕ) (s : Float) → (replay_of i l bs).reply ≡ Ok (Winner n s) → (start_refused i (length l) ≡ Ok tt) × (reply_to (walked i l bs) ≡ Ok (Winner n s))
unfolding replay_of
winner_reply_after_start i l bs n s h =
    case_result (start_refused i (length l))
    (λ u e. (e, rw (e, replay_of) at h))
    (λ r e. let q : ◌≡◌ {A = Result Standing ReplayRefusal} (Err (Refused r)) (Ok (Winner n s)) = rw (e, replay_of) at h in cc)

-- ---- the book's best is its winner
book_best_wins : (i : Inputs) (b : Book) (w : Candidate) → Good i b → run_best_of b ≡ chosen w → Wins i (entries b) w
unfolding run_best_of
book_best_wins i b w g e = rw g.inputs_are at (best-wins b.inputs (entries b) w g.core.numbered g.core.proper e)

pub accepted : (i : Inputs) (l : List Float) (bs : List ℕ) → InputsFit i → (n : ℕ) (s : Float) → (replay_of i l bs).reply ≡ Ok (Winner n s) → Accepted i l bs n s
accepted i l bs f n s h =
    let r = winner_reply_after_start i l bs n s h in
    let a = (start_refused_by_conditions i (length l)).accepts.0 r.0 in
    let b = (walked i l bs).book in
    let t = winner_reply_all_taken (walked i l bs) n s r.1 in
    let w = standing_winner_won b n s t.1 in
    let reading = (same_as_reader i (length l) a f l bs).all_read t.0 in
    let ends = ap (λ (z : Lines). z.ending) reading in
    let lines = ap (λ (z : Lines). z.lines) reading in
    record {
      best = w.best;
      number_is = w.number_is;
      score_is = w.score_is;
      wins = book_best_wins i b w.best (walked_book_has_trail i (length l) a l bs).good w.chosen_is;
      read_through = ends;
      lines_are = sym lines;
      bytes_are = (lines_read_to_the_end_were_written bs ends).bytes_are ∙ ap journal_bytes lines;
    }
