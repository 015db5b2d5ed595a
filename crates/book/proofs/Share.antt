-- A candidate that is scored after some calls was scored by one of them, so that its mean rests on the share, or stood
-- in the book before. Assumes nothing.
use Rattle.std.proofs.Common.{ℕ, ◌≡◌, refl, ap, ◌∙◌, ◌⊎◌, inl, inr, ⊎_elim, true, List, [], ◌∷◌, ltb, Float, Ok, Err}
use mathlib.Core.List.{Memᴰ}
use Rattle.common.specs.Tests.{case}
use Rattle.score.specs.declared.pinhole.PinholeCamera.{PinholeCamera}
use Rattle.score.specs.declared.outcome.Finding.{Finding}
use Rattle.score.specs.declared.outcome.Finding.TheVariants.{Failed, Solved}
use Rattle.score.specs.Reasons.{Outcome}
use Rattle.score.specs.Evaluation.{solved_at, evaluated, outcome_of, finding_refusal}
use Rattle.score.specs.Share.{RestsOn}
use Rattle.score.proofs.Share.{scored_rests}
use Rattle.score.specs.declared.best.Candidate.{Candidate}
use Rattle.score.specs.Best.{candidate_of}
use Rattle.search.specs.declared.run.Run.{Run}
use Rattle.book.specs.Calls.{Call, next, seed, answer, ask, scored}
use Rattle.book.specs.Book.{Inputs, demand, Entry, Book, entries, number, current, scored_of, reply_to, book_outcome, book_answer, book_call, after}
use Rattle.book.specs.Walk.{run_call}
use Rattle.book.specs.Trace.{run_after, list_after}
use Rattle.book.specs.Share.{AnsweredBy, Rests}
use Rattle.book.proofs.Cases.{case_result}
use Rattle.book.proofs.Moves.{entry, entered_by, call_adds_entries, call_keeps}
use Rattle.book.proofs.Good.{calls_keep_good}
use Rattle.book.specs.RunOf.{run_of}
use Rattle.book.proofs.RunOf.{State, run-fields}
use Rattle.book.proofs.Simulation.{scored_of_append, call_agrees}

-- ---- of one answer
module _ (b : Book) (n : ℕ) (rows : List Float) (flags : List ℕ) (w : Candidate) where
  -- what `AnsweredBy` says, of the book alone
  pub record ScoredByAnswer (f : Finding) : Type 0 where
    pub camera : PinholeCamera
    pub finding_is : f ≡ Solved camera
    pub waited : b.waits ≡ true
    pub number_is : w.number ≡ number b
    pub sensor_is : w.sensor ≡ (current b).sensor
    pub replied : (book_answer b n f rows flags).reply ≡ scored w.score
    pub rests_on : RestsOn b.inputs.share (solved_at camera w.sensor) rows flags w.mean_reproj_error

  -- a solved finding with this outcome
  solved_answer_scored : (c : PinholeCamera) (o : Outcome) → evaluated b.inputs.share (solved_at c (current b).sensor) (current b).sensor b.inputs.center rows flags ≡ o
      → b.waits ≡ true → (book_answer b n (Solved c) rows flags).reply ≡ reply_to o → Memᴰ w (scored_of (entry b o ∷ [])) → ScoredByAnswer (Solved c)
  unfolding scored_of
  solved_answer_scored c (Err reason) e v q m = absurd (mathlib.Core.List.Memᴰ.not-nil m)
  solved_answer_scored c (Ok s) e v q m =
      let is : w ≡ candidate_of (number b) (current b).sensor s = ⊎_elim (λ h. h) (λ h. absurd (mathlib.Core.List.Memᴰ.not-nil h)) (mathlib.Core.List.Memᴰ.cases_cons m) in
      rw is (record {
        camera = c;
        finding_is = refl;
        waited = v;
        number_is = refl;
        sensor_is = refl;
        replied = q;
        rests_on = scored_rests b.inputs.share (solved_at c (current b).sensor) (current b).sensor b.inputs.center rows flags s e;
      })

  entered_answer_scored : (f : Finding) → b.waits ≡ true
      → (book_answer b n f rows flags).reply ≡ reply_to (book_outcome b f rows flags)
      → Memᴰ w (scored_of (entry b (book_outcome b f rows flags) ∷ [])) → ScoredByAnswer f
  unfolding outcome_of scored_of
  entered_answer_scored Failed v q m = absurd (mathlib.Core.List.Memᴰ.not-nil m)
  entered_answer_scored (Solved c) v q m = solved_answer_scored c (evaluated b.inputs.share (solved_at c (current b).sensor) (current b).sensor b.inputs.center rows flags) refl v q m

  scored_entry_by_answer : (f : Finding) → Memᴰ w (scored_of (entered_by b (answer n f rows flags))) → ScoredByAnswer f
  unfolding entered_by book_answer scored_of
  scored_entry_by_answer f m =
      case b.waits
      (λ v. case (ltb n (demand b.inputs))
      (λ s. absurd (mathlib.Core.List.Memᴰ.not-nil (simp (v, s, scored_of) at m)))
      (λ s. case_result (finding_refusal f (current b).sensor rows flags)
      (λ u z. entered_answer_scored f v (simp (v, s, z)) (simp (v, s, z) at m))
      (λ r z. absurd (mathlib.Core.List.Memᴰ.not-nil (simp (v, s, z, scored_of) at m)))))
      (λ v. absurd (mathlib.Core.List.Memᴰ.not-nil (simp (v, scored_of) at m)))

-- ---- of one call, beside the run
module _ (i : Inputs) (b : Book) (l : List Float) (t : State i b l) where
  -- the candidate of the first call, an Answer
  answered_by_first_call : (n : ℕ) (f : Finding) (rows : List Float) (flags : List ℕ) (cs : List Call) (w : Candidate) → ScoredByAnswer b n rows flags w f → AnsweredBy i.share (run_of b) l (answer n f rows flags ∷ cs) w
  unfolding run_after list_after book_call
  answered_by_first_call n f rows flags cs w o =
      let reply : (run_call (run_of b) l (answer n (Solved o.camera) rows flags)).reply ≡ scored w.score = rw o.finding_is at ((call_agrees i b l (answer n f rows flags) t).reply ∙ o.replied) in
      record {
        before = [];
        behind = cs;
        room = n;
        camera = o.camera;
        rows = rows;
        flags = flags;
        calls_are = ap (λ (g : Finding). answer n g rows flags ∷ cs) o.finding_is;
        waited = simp run-fields o.waited;
        number_is = simp run-fields o.number_is;
        sensor_is = simp (run-fields, o.waited) o.sensor_is;
        replied = reply;
        rests_on = rw t.good.inputs_are at o.rests_on;
      }

  scored_by_first_call : (c : Call) (cs : List Call) (w : Candidate) → Memᴰ w (scored_of (entered_by b c)) → AnsweredBy i.share (run_of b) l (c ∷ cs) w
  unfolding entered_by scored_of
  scored_by_first_call (next n) cs w m = absurd (mathlib.Core.List.Memᴰ.not-nil m)
  scored_by_first_call (seed n) cs w m = absurd (mathlib.Core.List.Memᴰ.not-nil m)
  scored_by_first_call (answer n f rows flags) cs w m = answered_by_first_call n f rows flags cs w (scored_entry_by_answer b n rows flags w f m)
  scored_by_first_call ask cs w m = absurd (mathlib.Core.List.Memᴰ.not-nil m)
  scored_by_first_call Rattle.book.specs.Calls.progress cs w m = elim m [ ]
  scored_by_first_call (Rattle.book.specs.Calls.stop _) cs w m = elim m [ ]
  scored_by_first_call Rattle.book.specs.Calls.last cs w m = elim m [ ]
  scored_by_first_call Rattle.book.specs.Calls.counts cs w m = elim m [ ]

  answered_by_later_call : (c : Call) (cs : List Call) (w : Candidate) → AnsweredBy i.share (run_call (run_of b) l c).run (run_call (run_of b) l c).list cs w → AnsweredBy i.share (run_of b) l (c ∷ cs) w
  unfolding run_after list_after
  answered_by_later_call c cs w a = record {
    before = c ∷ a.before;
    behind = a.behind;
    room = a.room;
    camera = a.camera;
    rows = a.rows;
    flags = a.flags;
    calls_are = ap (λ (z : List Call). c ∷ z) a.calls_are;
    waited = a.waited;
    number_is = a.number_is;
    sensor_is = a.sensor_is;
    replied = a.replied;
    rests_on = a.rests_on;
  }

-- ---- over any list of calls: w was scored by one of them, or before
pub scored_by_calls_or_before : (i : Inputs) (b : Book) (l : List Float) (cs : List Call) (w : Candidate) → State i b l → Memᴰ w (scored_of (entries (after b cs)))
    → AnsweredBy i.share (run_of b) l cs w ⊎ Memᴰ w (scored_of (entries b))
unfolding after
scored_by_calls_or_before i b l [] w t m = inr m
scored_by_calls_or_before i b l (c ∷ cs) w t m =
    let a = call_agrees i b l c t in
    let k = (book_call b c).book in
    let u : State i k (run_call (run_of b) l c).list = record { good = call_keeps (calls_keep_good i) b c t.good; there = a.there } in
    let split : Memᴰ w (scored_of (entries k)) → AnsweredBy i.share (run_of b) l (c ∷ cs) w ⊎ Memᴰ w (scored_of (entries b)) =
    λ p. ⊎_elim (λ q. inr q) (λ q. inl (scored_by_first_call i b l t c cs w q)) (mathlib.Core.List.Memᴰ.append_cases (scored_of (entries b)) (rw (call_adds_entries b c, scored_of_append) at p)) in
    ⊎_elim (λ p. inl (answered_by_later_call i b l t c cs w (rw a.run p))) split (scored_by_calls_or_before i k (run_call (run_of b) l c).list cs w u m)

-- so the winner's mean rests on the share, unless the winner is a kept line's
pub rests_on_share_or_kept : (share : ℕ) (kept : List Entry) (r : Run) (l : List Float) (cs : List Call) (w : Candidate) → AnsweredBy share r l cs w ⊎ Memᴰ w (scored_of kept) → Rests share kept r l cs w
unfolding scored_of
rests_on_share_or_kept share [] r l cs w h = ⊎_elim (λ a. a) (λ n. absurd (mathlib.Core.List.Memᴰ.not-nil n)) h
rests_on_share_or_kept share (e ∷ es) r l cs w h = ⊎_elim (λ a. inr a) (λ n. inl n) h
