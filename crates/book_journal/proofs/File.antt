-- A run that Start or Resume opened, any calls after it, and its file: Replay says of the file how the run stands, and
-- Resume gives the run back from it, whole or cut. Assumes nothing.
use Rattle.std.proofs.Common.{ℕ, ◌≤◌, ◌≡◌, refl, sym, ap, ◌∙◌, true, false, List, [], ◌++◌, append_assoc, append-nil, length, take, drop, take-append-drop, take_at, drop_at, Float, Result, Ok, Err}
use Rattle.common.specs.declared.Refusal.{Refusal}
use Rattle.common.specs.declared.Refusal.TheVariants.{NothingScored, NotOver}
use lib.ListN.{length-map}
use Rattle.common.specs.Tests.{case}
use Rattle.common.specs.Each.{All}
use Rattle.seeds.specs.Layout.{written}
use Rattle.score.specs.declared.best.Candidate.{Candidate}
use Rattle.score.specs.Best.{nothing, chosen}
use Rattle.journal.specs.declared.Line.{Line}
use Rattle.journal.specs.Line.{journal_bytes}
use Rattle.journal.specs.Reading.{Lines}
use Rattle.search.specs.declared.run.Run.{Run}
use Rattle.search.specs.Result.{result_def}
use Rattle.replay.specs.declared.WalkEnd.TheVariants.{AllTaken}
use Rattle.replay.specs.declared.KeptLines.{KeptLines}
use Rattle.replay.specs.declared.Resumed.{Resumed}
use Rattle.replay.specs.Replay.{of_no_line}
use Rattle.replay.specs.Replay.{ReplayLeft, replay_from}
use Rattle.replay.specs.Resume.{ended_by_of, ResumeLeft}
use Rattle.book.specs.Calls.{Call}
use Rattle.book.specs.Book.{Inputs, Book, entries, number, round_best_of, run_best_of, first_list, opened, replies, after, line_of}
use Rattle.book.specs.Conditions.{NoneHolds, conditions}
use Rattle.book.specs.Trace as trace
use Rattle.book.specs.Walk.{walk}
use Rattle.book.specs.Theorem.{start_of, started_list}
use Rattle.book.proofs.Cases.{case_chosen}
use Rattle.book.proofs.Good.{Good}
use Rattle.book.specs.RunOf.{run_of}
use Rattle.book.proofs.RunOf.{State, run-fields, run-bests, run_number, run_of_sound}
use Rattle.book.proofs.Simulation.{waiting_seed_is_current}
use Rattle.book.proofs.Starts.{accepted_start_opens_run}
use Rattle.book.proofs.Opening.{start_opens_book}
use Rattle.book.proofs.Walks as calls
use Rattle.book.proofs.Theorem.{result_is_best_of_over_run}
use Rattle.book_journal.specs.Lines.{lines_of, journal_of}
use Rattle.book_journal.specs.Replay.{start_refused, Walked, walked, kept_of, standing}
use Rattle.book_journal.specs.History.{Opening, fresh, from, opened_by, History, book_at, InputsFit, CallFits, at_rest, opened_list, list_under, list_at}
use Rattle.book_journal.specs.Resume.{kept_lines_of, cut_journal, cut_kept_lines, cut_run, GivesBack, GoesOn}
use Rattle.book_journal.specs.Resume as book
use Rattle.book_journal.specs.Written.{written_along}
use Rattle.book_journal.proofs.Opening.{start_refused_by_conditions}
use Rattle.book_journal.proofs.Walk.{walk_end, walked_ignores_list}
use Rattle.book_journal.proofs.Again.{Sound, history_sound, sound_lines_read_back, list_along, walked_again}
use Rattle.book_journal.proofs.Buffer.{list_by_entries, history_leaves_list_by_entries, run_again}
use Rattle.book_journal.proofs.Cut.{cut_anywhere, resume_refuses, resume_accepts, gives_back}
use Rattle.book_journal.proofs.GoingOn.{goes_on_somewhere}
use Rattle.book_journal.proofs.Live.{list_after_is_list_under, walked_book_state, resumed_continues}
use Rattle.book_journal.proofs.Written as writing
use Rattle.book_journal.specs.Theorem.{with_record, GivesRun, WithAnyList, ResumedRun, all_kept, ResumedRecord, CutRecord, OpenedAs, by_start, by_resume, none_waiting, StandsAs, again, file, GoesOnAs, GoesBack, CutBack, OfRun}
use Rattle.book_journal.proofs.Lines.{next_hands_out_seed, waiting_seed_of_run}
use Rattle.book_journal.proofs.Bytes.{start_list_is_written, start_state, accepted_or_refused, replay_is_book, resume_is_book}

-- ---- an accepted Resume
module _ (i : Inputs) (l : List Float) (bs : List ℕ) where
  pub given_back : NoneHolds (conditions i (length l)) → GivesRun i l bs (run_of (walked i l bs).book) (kept_lines_of bs (walked i l bs)) (walked i l bs).list
  given_back a = resume_is_book i l bs ∙ ap with_record (resume_accepts i l bs a)

  walk_gives_back : InputsFit i → NoneHolds (conditions i (length l)) → GivesBack i l bs (walked i l bs).book (walked i l bs).list (kept_lines_of bs (walked i l bs))
  walk_gives_back f a = gives_back i l bs f (walked i l bs).book (walked i l bs).list (kept_lines_of bs (walked i l bs)) (resume_accepts i l bs a)

  -- whatever is given back is what the walk leads to
  record ComesFrom (r : Run) (q : KeptLines) (m : List Float) : Type 0 where
    started : NoneHolds (conditions i (length l))
    run_is : r ≡ run_of (walked i l bs).book
    report_is : q ≡ kept_lines_of bs (walked i l bs)
    list_is : m ≡ (walked i l bs).list

  resumed_reply_injective : (x y : Resumed) → ◌≡◌ {A = Result Resumed Refusal} (Ok x) (Ok y) → (x.run ≡ y.run) × (x.kept_lines ≡ y.kept_lines)
  resumed_reply_injective x y h = let e : x ≡ y = cc in (ap (λ (z : Resumed). z.run) e, ap (λ (z : Resumed). z.kept_lines) e)

  accepted_not_refused : (r : Refusal) (x : Resumed) → ◌≡◌ {A = Result Resumed Refusal} (Ok x) (Err r) → ⊥
  accepted_not_refused r x h = cc

  given_run_comes_from_walk : (r : Run) (q : KeptLines) (m : List Float) → GivesRun i l bs r q m → ComesFrom r q m
  given_run_comes_from_walk r q m h =
      accepted_or_refused i l bs
      (λ a.
      let w = walked i l bs in
      let e = sym h ∙ given_back a in
      let p = resumed_reply_injective (record { run = r; kept_lines = q }) (record { run = run_of w.book; kept_lines = kept_lines_of bs w }) (ap (λ (x : ResumeLeft). x.reply) e) in
      record { started = a; run_is = p.0; report_is = p.1; list_is = ap (λ (x : ResumeLeft). x.list) e })
      (λ s c. absurd (accepted_not_refused s (record { run = r; kept_lines = q }) (ap (λ (x : ResumeLeft). x.reply) (sym h ∙ resume_is_book i l bs ∙ ap with_record (resume_refuses i l bs s c)))))

  pub resumed_run : InputsFit i → (r : Run) (q : KeptLines) (m : List Float) → GivesRun i l bs r q m → ResumedRun i l bs r q m
  resumed_run f r q m h =
      let c = given_run_comes_from_walk r q m h in
      rw (c.run_is, c.report_is, c.list_is)
      (record { book = (walked i l bs).book; run_is = refl; gives_back = walk_gives_back f c.started; continues = resumed_continues i l bs c.started })

-- ---- a history's journal, whole
module _ (i : Inputs) (b : Book) (s : Sound i b) (l : List Float) where
  abbrev journal : List ℕ
  journal = journal_of b

  abbrev whole : Walked
  whole = walk_end (at_rest b) (list_along (opened i) (written (first_list i) l) (entries b)) (number b) AllTaken

  whole_journal_kept : kept_of journal whole ≡ journal
  whole_journal_kept =
      let e = ap (λ (z : Lines). z.lines) (sound_lines_read_back i b s).read_back in
      ap (λ (z : List Line). journal_bytes (take (number b) z)) (e ∙ sym (append-nil (lines_of b)))
      ∙ ap journal_bytes (take_at (lines_of b) [] (number b) (length-map (entries b) line_of))

  whole_journal_report : kept_lines_of journal whole ≡ all_kept (number b) journal
  unfolding kept_lines_of ended_by_of
  whole_journal_report = rw (whole_journal_kept, rest)
    where
      rest : drop (length journal) journal ≡ []
      rest = ap (drop (length journal)) (sym (append-nil journal)) ∙ drop_at journal [] (length journal) refl

pub resumed_record : (i : Inputs) (h : History i) → InputsFit i → All CallFits h.calls → (l : List Float) → NoneHolds (conditions i (length l)) → ResumedRecord i h l
resumed_record i h f k l a =
    let b = book_at h in
    let s = history_sound i h f k in
    given_back i l (journal_of b) a ∙ rw (walked_again i b l s, whole_journal_report i b s l, history_leaves_list_by_entries i l h)

-- the journal cut after any byte
pub cut_record : (i : Inputs) (h : History i) (at : ℕ) (l : List Float) → NoneHolds (conditions i (length l)) → CutRecord i h at l
cut_record i h at l a =
    let j = cut_journal i h at in
    given_back i l j a ∙ ap (λ (b : Book). record { reply = Ok (record { run = run_of b; kept_lines = cut_kept_lines i h at l }); list = (walked i l j).list }) (walked_ignores_list i l [] j).0

-- whichever list is lent: the walk is the same except for its list
report_of_same_walk : (bs : List ℕ) (v w : Walked) → v.taken ≡ w.taken → v.walk_end ≡ w.walk_end → kept_lines_of bs v ≡ kept_lines_of bs w
unfolding kept_lines_of
report_of_same_walk bs v w e d = rw (e, d)

given_any_list : (i : Inputs) (bs : List ℕ) (r : Run) (q : KeptLines) → ((k : List Float) → NoneHolds (conditions i (length k)) → (m : List Float) × GivesRun i k bs r q m) → WithAnyList i bs r q
given_any_list i bs r q f k a = ap (λ (x : ResumeLeft). x.reply) (f k a).1

cut_any_list : (i : Inputs) (h : History i) (at : ℕ) (l : List Float) → WithAnyList i (cut_journal i h at) (run_of (cut_run i h at)) (cut_kept_lines i h at l)
cut_any_list i h at l =
    let j = cut_journal i h at in
    let s = run_of (cut_run i h at) in
    given_any_list i j s (cut_kept_lines i h at l)
    (λ k a.
    let w = walked_ignores_list i k l j in
    let m = (walked i k j).list in
    (m, cut_record i h at k a ∙ ap (λ (q : KeptLines). record { reply = Ok (record { run = s; kept_lines = q }); list = m }) (report_of_same_walk j (walked i k j) (walked i l j) w.1 w.2)))

-- ---- how a run stands
module _ (i : Inputs) (b : Book) (g : Good i b) where
  result_nothing_scored : b.over ≡ true → run_best_of b ≡ nothing → result_def (run_of b) ≡ Err NothingScored
  unfolding result_def
  result_nothing_scored o e = simp (result_def, run-fields, run-bests, run_of_sound i b g, o, e)

  result_is_winner : (v : Candidate) → b.over ≡ true → run_best_of b ≡ chosen v → result_def (run_of b) ≡ Ok v
  unfolding result_def
  result_is_winner v o e = simp (result_def, run-fields, run-bests, run_of_sound i b g, o, e)

  result_not_over : b.over ≡ false → result_def (run_of b) ≡ Err NotOver
  unfolding result_def
  result_not_over o = simp (result_def, run-fields, run_of_sound i b g, o)

  none_scored_of_result : result_def (run_of b) ≡ Err NothingScored → (b.over ≡ true) × (run_best_of b ≡ nothing)
  none_scored_of_result h =
      case b.over
      (λ o. case_chosen (run_best_of b)
      (λ e. (o, e))
      (λ v e. let q : ◌≡◌ {A = Result Candidate Refusal} (Ok v) (Err NothingScored) = sym (result_is_winner v o e) ∙ h in cc))
      (λ o. let q : ◌≡◌ {A = Result Candidate Refusal} (Err NotOver) (Err NothingScored) = sym (result_not_over o) ∙ h in cc)

  not_over_of_result : result_def (run_of b) ≡ Err NotOver → b.over ≡ false
  not_over_of_result h =
      case b.over
      (λ o. case_chosen (run_best_of b)
      (λ e. let q : ◌≡◌ {A = Result Candidate Refusal} (Err NothingScored) (Err NotOver) = sym (result_nothing_scored o e) ∙ h in cc)
      (λ v e. let q : ◌≡◌ {A = Result Candidate Refusal} (Ok v) (Err NotOver) = sym (result_is_winner v o e) ∙ h in cc))
      (λ o. o)

stands_as : (i : Inputs) (b : Book) (l : List Float) → State i b l → StandsAs (run_of b) l (of_no_line (standing b))
unfolding standing
stands_as i b l f =
    let g = f.good in
    record {
      won = λ w h. let r = result_is_best_of_over_run i b w g h in simp (r.0, r.1);
      none_won = λ h. let r = none_scored_of_result i b g h in simp (r.0, r.1);
      waits = λ h w. let v : b.waits ≡ true = simp run-fields at w in simp (not_over_of_result i b g h, waiting_seed_is_current b v);
      comes_next = λ h w.
          let v : b.waits ≡ false = simp run-fields at w in
          let o = not_over_of_result i b g h in
          rw (next_hands_out_seed i b l f v o, run_number b) (refl, simp (o, waiting_seed_of_run b));
    }

-- ---- a record with no seed waiting
run_of_at_rest : (b : Book) → run_of (at_rest b) ≡ none_waiting (run_of b)
unfolding run_of at_rest round_best_of run_best_of
run_of_at_rest b = refl

-- its counts, its last line and its run's best are those of the kept lines
at_rest_keeps_answers : (b : Book) → ((run_of (at_rest b)).counts ≡ (none_waiting (run_of b)).counts) × ((run_of (at_rest b)).last ≡ (none_waiting (run_of b)).last) × ((run_of (at_rest b)).run_best ≡ (none_waiting (run_of b)).run_best)
unfolding run_of at_rest round_best_of run_best_of
at_rest_keeps_answers b = (refl, refl, refl)

-- ---- what Start or Resume opened, beside its book
record OpenedFrom (i : Inputs) (l : List Float) (r : Run) (m : List Float) (held : List ℕ) : Type 0 where
  started : NoneHolds (conditions i (length l))
  opening : Opening
  run_is : r ≡ run_of (opened_by i opening)
  list_is : m ≡ opened_list i l opening
  state : State i (opened_by i opening) (opened_list i l opening)
  held_is : held ≡ journal_of (opened_by i opening)

opened_journal_empty : (i : Inputs) → [] ≡ journal_of (opened i)
unfolding opened journal_bytes
opened_journal_empty i = refl

resumed_from : (i : Inputs) (l : List Float) (bs : List ℕ) (r : Run) (q : KeptLines) (m : List Float) → InputsFit i → GivesRun i l bs r q m → OpenedFrom i l r m (take q.kept bs)
resumed_from i l bs r q m f h =
    let w = walked i l bs in
    let c = given_run_comes_from_walk i l bs r q m h in
    let k : w.book ≡ opened_by i (from bs) = (walked_ignores_list i l [] bs).0 in
    record {
      started = c.started;
      opening = from bs;
      run_is = c.run_is ∙ ap run_of k;
      list_is = c.list_is;
      state = rw k at (walked_book_state i l bs c.started);
      held_is = ap (λ (x : KeptLines). take x.kept bs) c.report_is ∙ (walk_gives_back i l bs f c.started).kept_journal ∙ ap journal_of k;
    }

opened_from : (i : Inputs) (l : List Float) (r : Run) (m : List Float) (held : List ℕ) → InputsFit i → OpenedAs i l r m held → OpenedFrom i l r m held
opened_from i l r m held f (by_start x h) =
    let a : NoneHolds (conditions i (length l)) = (start_refused_by_conditions i (length l)).accepts.0 (unfold start_refused in (accepted_start_opens_run i l x h).0) in
    record { started = a; opening = fresh; run_is = (start_opens_book i l x h).run_is; list_is = start_list_is_written i l [] a; state = start_state i l [] a; held_is = opened_journal_empty i }
opened_from i l r m held f (by_resume bs x q y h) = resumed_from i l bs x q y f h

-- ---- and the calls after it
module _ (i : Inputs) (l : List Float) (a : NoneHolds (conditions i (length l))) (p : Opening) (t : State i (opened_by i p) (opened_list i l p)) where
  abbrev first : Run
  first = run_of (opened_by i p)

  abbrev list : List Float
  list = opened_list i l p

  abbrev held : List ℕ
  held = journal_of (opened_by i p)

  module _ (cs : List Call) where
    abbrev history_of_calls : History i
    history_of_calls = record { room = length l; accepted = a; opening = p; calls = cs }

    run_after_is_run_of : trace.run_after first list cs ≡ run_of (book_at history_of_calls)
    run_after_is_run_of = (calls.walks i (opened_by i p) list cs t).run_is

    list_after_is_list_at : trace.list_after first list cs ≡ list_at history_of_calls l
    list_after_is_list_at = list_after_is_list_under i (opened_by i p) list cs t

    file_is_journal : file i l first list held cs ≡ journal_of (book_at history_of_calls)
    file_is_journal = writing.calls_write_journal i (opened_by i p) list cs t

    state_after_calls : State i (book_at history_of_calls) (list_at history_of_calls l)
    state_after_calls = rw list_after_is_list_at at (calls.walks i (opened_by i p) list cs t).state

  module _ (cs : List Call) (f : InputsFit i) (k : All CallFits cs) where
    abbrev book_after_calls : Book
    book_after_calls = book_at (history_of_calls cs)

    file_stands : (x : List Float) → NoneHolds (conditions i (length x))
        → StandsAs (trace.run_after first list cs) (trace.list_after first list cs) (replay_from (start_of i x) (started_list i x) (file i l first list held cs)).reply
    file_stands x c =
        let e : (replay_from (start_of i x) (started_list i x) (journal_of book_after_calls)).reply ≡ of_no_line (standing book_after_calls) =
        ap (λ (z : ReplayLeft). z.reply) (replay_is_book i x (journal_of book_after_calls)) ∙ (run_again i (history_of_calls cs) f k x c).same_standing in
        rw (file_is_journal cs, run_after_is_run_of cs, list_after_is_list_at cs, e) (stands_as i book_after_calls (list_at (history_of_calls cs) l) (state_after_calls cs))

    replayed_file_keeps_list : (replay_from (start_of i l) (started_list i l) (file i l first list held cs)).list ≡ trace.list_after first list cs
    replayed_file_keeps_list =
        ap (λ (z : List ℕ). (replay_from (start_of i l) (started_list i l) z).list) (file_is_journal cs)
        ∙ ap (λ (z : ReplayLeft). z.list) (replay_is_book i l (journal_of book_after_calls))
        ∙ (run_again i (history_of_calls cs) f k l a).same_buffer
        ∙ sym (list_after_is_list_at cs)

    file_gives_run : GivesRun i l (file i l first list held cs) (none_waiting (trace.run_after first list cs)) (all_kept (trace.run_after first list cs).place.number (file i l first list held cs))
        (trace.list_after first list cs)
    file_gives_run = rw (file_is_journal cs, run_after_is_run_of cs, list_after_is_list_at cs, run_number book_after_calls, ← run_of_at_rest book_after_calls) (resumed_record i (history_of_calls cs) f k l a)

    -- ---- the file cut after any byte
    module _ (at : ℕ) where
      abbrev cut : List ℕ
      cut = cut_journal i (history_of_calls cs) at

      abbrev left : Book
      left = cut_run i (history_of_calls cs) at

      abbrev left_list : List Float
      left_list = (walked i l cut).list

      left_state : State i left left_list
      left_state = rw (walked_ignores_list i l [] cut).0 at (walked_book_state i l cut a)

      left_list_by_entries : left_list ≡ list_by_entries i l left
      unfolding list_under after
      left_list_by_entries = history_leaves_list_by_entries i l (record { room = length l; accepted = a; opening = from cut; calls = [] })

      module _ (before behind : List Call) (split : cs ≡ before ++ behind) (g : GoesOn i (history_of_calls cs) at before behind) where
        abbrev there : Book
        there = book_at (history_of_calls before)

        same_again : again (trace.run_after first list before) ≡ book.again i (history_of_calls cs) at there
        same_again = rw (run_after_is_run_of before) (simp run-fields)

        -- ---- with any list that Resume accepts
        module _ (z : List Float) (c : NoneHolds (conditions i (length z))) where
          abbrev other : List Float
          other = (walked i z cut).list

          other_state : State i left other
          other_state = rw (walked_ignores_list i z [] cut).0 at (walked_book_state i z cut c)

          other_given : GivesRun i z (take at (file i l first list held cs)) (run_of left) (cut_kept_lines i (history_of_calls cs) at l) other
          other_given =
              let w = walked_ignores_list i z l cut in
              rw (file_is_journal cs)
              (cut_record i (history_of_calls cs) at z c
              ∙ ap (λ (q : KeptLines). record { reply = Ok (record { run = run_of left; kept_lines = q }); list = other }) (report_of_same_walk cut (walked i z cut) (walked i l cut) w.1 w.2))

          other_replies : (xs : List Call) → xs ≡ book.again i (history_of_calls cs) at there
              → walk (trace.run_after (run_of left) other xs) (trace.list_after (run_of left) other xs) behind ≡ walk (trace.run_after first list before) (trace.list_after first list before) behind
          other_replies xs e =
              let w = calls.walks i left other xs other_state in
              let v = calls.walks i (opened_by i p) list before t in
              rw (w.run_is, run_after_is_run_of before)
              ((calls.walks i (after left xs) (trace.list_after (run_of left) other xs) behind w.state).same_replies
              ∙ ap (λ (ys : List Call). replies (after left ys) behind) e
              ∙ g.same_replies behind
              ∙ sym (calls.walks i there (trace.list_after first list before) behind v.state).same_replies)

          other_run : trace.run_after (run_of left) other (again (trace.run_after first list before) ++ behind) ≡ trace.run_after first list cs
          other_run =
              let xs = book.again i (history_of_calls cs) at there ++ behind in
              rw same_again ((calls.walks i left other xs other_state).run_is ∙ ap run_of g.same_end ∙ sym (run_after_is_run_of cs))

          other_kept : take (cut_kept_lines i (history_of_calls cs) at l).kept (take at (file i l first list held cs)) ≡ journal_of left
          other_kept = rw (file_is_journal cs) ((walk_gives_back i l cut f a).kept_journal ∙ ap journal_of (walked_ignores_list i l [] cut).0)

          other_file : take (cut_kept_lines i (history_of_calls cs) at l).kept (take at (file i l first list held cs)) ++ written_along (run_of left) other (again (trace.run_after first list before) ++ behind)
              ≡ file i l first list held cs
          other_file =
              let xs = book.again i (history_of_calls cs) at there ++ behind in
              rw (other_kept, same_again) (writing.calls_write_journal i left other xs other_state ∙ ap journal_of g.same_end ∙ sym (file_is_journal cs))

          goes_on_as : GoesOnAs i l first list held cs (take (cut_kept_lines i (history_of_calls cs) at l).kept (take at (file i l first list held cs))) (run_of left) other before behind
          goes_on_as = record {
            same_replies = other_replies (again (trace.run_after first list before)) same_again;
            same_run = other_run;
            same_winner = ap result_def other_run;
            same_file = other_file;
          }

        given_back_goes_back : GoesBack i l first list held cs at (cut_kept_lines i (history_of_calls cs) at l) (run_of left) left_list
        given_back_goes_back =
            let xs = book.again i (history_of_calls cs) at there ++ behind in
            record {
              before = before;
              behind = behind;
              split = split;
              run_is = ap run_of g.stands_there ∙ run_of_at_rest there ∙ sym (ap none_waiting (run_after_is_run_of before));
              list_is = left_list_by_entries ∙ ap (list_by_entries i l) g.stands_there ∙ rest_along there ∙ sym (history_leaves_list_by_entries i l (history_of_calls before)) ∙ sym (list_after_is_list_at before);
              same_end = rw same_again ((calls.walks i left left_list xs left_state).run_is ∙ ap run_of g.same_end ∙ sym (run_after_is_run_of cs));
              same_list = rw same_again (list_after_is_list_under i left left_list xs left_state ∙ g.same_buffer l ∙ sym (list_after_is_list_at cs));
              with_any_list = λ z c. (other z c, other_given z c, goes_on_as z c);
            }
          where
            rest_along : (b : Book) → list_by_entries i l (at_rest b) ≡ list_by_entries i l b
            rest_along b = unfold at_rest in refl

      kept_front : (j rest : List ℕ) (n : ℕ) → n ≡ length j → cut ≡ j ++ rest → take n (journal_of book_after_calls) ≡ j
      kept_front j rest n e c =
          ap (take n) (sym (take-append-drop at (journal_of book_after_calls)) ∙ ap (λ (z : List ℕ). z ++ drop at (journal_of book_after_calls)) c ∙ append_assoc j rest (drop at (journal_of book_after_calls)))
          ∙ take_at j (rest ++ drop at (journal_of book_after_calls)) n (sym e)

      cut_back : CutBack i l first list held cs at
      cut_back = let x = cut_anywhere i (history_of_calls cs) f k at l in record {
        run = run_of left;
        says = cut_kept_lines i (history_of_calls cs) at l;
        list = left_list;
        gives_run = rw (file_is_journal cs) (cut_record i (history_of_calls cs) at l a);
        any_list = rw (file_is_journal cs) (cut_any_list i (history_of_calls cs) at l);
        lines_are = (walk_gives_back i l cut f a).lines_are ∙ ap number (walked_ignores_list i l [] cut).0 ∙ sym (run_number left);
        part = x.part;
        cut_is = rw (file_is_journal cs, kept_front (journal_bytes (take x.lines (lines_of book_after_calls))) x.part (cut_kept_lines i (history_of_calls cs) at l).kept x.kept_bytes_lem x.cut_is) x.cut_is;
        no_newline = x.no_newline;
        after_newline = rw (file_is_journal cs) x.after_newline;
        dropped_part = x.dropped_part;
        by_nothing = x.by_nothing;
        by_newline = x.by_newline;
        goes_back = λ n.
            let e : number (opened_by i p) ≤ number left = simp run-fields at n in
            let g = goes_on_somewhere i (history_of_calls cs) f k at e in
            given_back_goes_back g.before g.behind g.split g.goes_on;
      }

    file_right : OfRun i l first list held cs
    file_right = record { stands = file_stands; same_list = replayed_file_keeps_list; gives_run = file_gives_run; cut_anywhere = cut_back }

pub of_run : (i : Inputs) (l : List Float) (r : Run) (m : List Float) (held : List ℕ) → OpenedAs i l r m held → (cs : List Call) → InputsFit i → All CallFits cs → OfRun i l r m held cs
of_run i l r m held h cs f k = let o = opened_from i l r m held f h in go r m held o.run_is o.list_is o.held_is (file_right i l o.started o.opening o.state cs f k)
  where
    go : (r : Run) (m : List Float) (held : List ℕ) {s : Run} {n : List Float} {js : List ℕ} → r ≡ s → m ≡ n → held ≡ js → OfRun i l s n js cs → OfRun i l r m held cs
    go r m held e d c x = rw (e, d, c) x
