-- What Replay and Resume reply to any inputs, list and bytes is what the reference model says. Assumes nothing.
use Rattle.std.proofs.Common.{ℕ, ◌+◌, arith, ◌≡◌, ap, ◌∙◌, List, length, take, Float, Ok, Err}
use Rattle.common.specs.declared.Refusal.{Refusal}
use Rattle.journal.specs.Line.{journal_bytes}
use Rattle.journal.specs.Reading.{read_journal}
use Rattle.journal.proofs.Fronts.{whole_front}
use Rattle.replay.specs.Walk.{walk_end_at, walk_of}
use Rattle.replay.specs.Replay.{reply_to}
use Rattle.replay.specs.Resume as code
use Rattle.book.specs.Book.{Inputs, first_list, opened}
use Rattle.book.specs.Conditions.{FirstHolds, NoneHolds, conditions}
use Rattle.book.specs.Theorem.{start_of, started_list}
use Rattle.book.proofs.Cases.{case_result}
use Rattle.book.specs.RunOf.{run_of}
use Rattle.book.proofs.RunOf.{State}
use Rattle.book.proofs.Starts.{accepted_start_opens_run, accepted_start_writes_list, starts}
use Rattle.book.proofs.Opening.{start_opens_book}
use Rattle.seeds.specs.Layout.{written}
use Rattle.book_journal.specs.Replay.{start_refused, walk_from, walked, kept_of, replay_of}
use Rattle.book_journal.specs.Resume.{kept_lines_of}
use Rattle.book_journal.proofs.Opening.{start_refused_by_conditions, start_not_refused}
use Rattle.book_journal.proofs.Accepted.{start_refuses}
use Rattle.book_journal.proofs.Cut.{none_waits_when_opened, none_waits, resume_refuses, resume_accepts}
use Rattle.book_journal.proofs.Live.{walked_book_state}
use Rattle.book_journal.specs.Theorem.{ReplayIsBook, ResumeIsBook}
use Rattle.book_journal.proofs.Lines.{record_walk, lines_walk_as_book, standing_of_run}

module _ (i : Inputs) (l : List Float) (bs : List ℕ) where
  -- ---- an accepted Start
  module _ (a : NoneHolds (conditions i (length l))) where
    start_run : start_of i l ≡ Ok (run_of (opened i))
    start_run = let s = (starts i l).accepts_others a in s.1 ∙ ap Ok (start_opens_book i l s.0 s.1).run_is

    pub start_list_is_written : started_list i l ≡ written (first_list i) l
    start_list_is_written = accepted_start_writes_list i l (accepted_start_opens_run i l (run_of (opened i)) start_run).0

    pub start_state : State i (opened i) (written (first_list i) l)
    start_state = rw start_list_is_written at (start_opens_book i l (run_of (opened i)) start_run).state

    walk_of_is_record_walk : walk_of (run_of (opened i)) (written (first_list i) l) bs ≡ record_walk (walked i l bs) (length (kept_of bs (walked i l bs)))
    unfolding walk_of walked
    walk_of_is_record_walk =
        let j = read_journal bs in
        let c = whole_front bs in
        let m = written (first_list i) l in
        let e = walk_end_at j.ending in
        let w = lines_walk_as_book i (opened i) m 0 0 j.lines e start_state (none_waits_when_opened i) c.lines_fit c.can_be_written in
        let n : w.count ≡ (walk_from (opened i) m 0 j.lines e).taken = let t = w.taken_is in omega arith in
        let k = length (journal_bytes (take w.count j.lines)) in
        let z : 0 + k ≡ k = omega arith in
        w.walk_is ∙ ap (record_walk (walk_from (opened i) m 0 j.lines e)) (z ∙ ap (λ (x : ℕ). length (journal_bytes (take x j.lines))) n)

    replay_accepted : ReplayIsBook i l bs
    unfolding reply_to replay_of
    replay_accepted =
        let w = walked i l bs in
        rw (start_run, start_list_is_written, walk_of_is_record_walk, standing_of_run i w.book w.list (walked_book_state i l bs a) (none_waits i l bs))
        (simp (replay_of, start_not_refused i (length l) a))

    resume_accepted : ResumeIsBook i l bs
    unfolding code.kept_lines_of kept_lines_of
    resume_accepted = rw (start_run, start_list_is_written, walk_of_is_record_walk, resume_accepts i l bs a)

  -- ---- a refused one
  module _ (r : Refusal) (h : FirstHolds (conditions i (length l)) r) where
    start_of_refused : start_of i l ≡ Err r
    start_of_refused = (starts i l).refuses_all r h

    refused_start_leaves_list : started_list i l ≡ l
    refused_start_leaves_list = (starts i l).leaves_list r start_of_refused

    replay_refused : ReplayIsBook i l bs
    replay_refused = rw (start_of_refused, refused_start_leaves_list, start_refuses i l bs r h)

    resume_refused : ResumeIsBook i l bs
    resume_refused = rw (start_of_refused, refused_start_leaves_list, resume_refuses i l bs r h)

  pub accepted_or_refused : {P : Type 0} → (NoneHolds (conditions i (length l)) → P) → ((r : Refusal) → FirstHolds (conditions i (length l)) r → P) → P
  accepted_or_refused f g =
      case_result (start_refused i (length l))
      (λ u e. f ((start_refused_by_conditions i (length l)).accepts.0 e))
      (λ r e. g r (((start_refused_by_conditions i (length l)).refuses r).0 e))

  pub replay_is_book : ReplayIsBook i l bs
  replay_is_book = accepted_or_refused replay_accepted replay_refused

  pub resume_is_book : ResumeIsBook i l bs
  resume_is_book = accepted_or_refused resume_accepted resume_refused
