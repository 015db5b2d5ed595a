-- A whole list of calls beside the book: the same replies, answers and handed-out seeds, and at the end the run and the
-- list that go with the book. Assumes nothing.
use Rattle.std.proofs.Common.{◌≡◌, refl, sym, ap, ◌∙◌, List, [], ◌∷◌, ◌++◌, append_assoc, append-nil, Float}
use Rattle.book.specs.Calls.{Call, Reply}
use Rattle.book.specs.Book.{Inputs, Entry, Book, entries, book_call, replies, after}
use Rattle.book.specs.Walk.{run_call, walk}
use Rattle.book.specs.Trace.{Handing, handed_by, handed, answers, run_after, list_after}
use Rattle.book.proofs.Moves.{entered_by, call_adds_entries, call_keeps}
use Rattle.book.proofs.Good.{calls_keep_good}
use Rattle.book.specs.RunOf.{run_of}
use Rattle.book.proofs.RunOf.{State}
use Rattle.book.proofs.Simulation.{call_agrees}
use Rattle.book.proofs.Growth.{answers_agree, handed_in, hands_agree}

pub record Walks (i : Inputs) (b : Book) (l : List Float) (cs : List Call) : Type 0 where
  pub same_replies : walk (run_of b) l cs ≡ replies b cs
  pub same_entries : entries b ++ answers (run_of b) l cs ≡ entries (after b cs)
  pub same_handed : handed_in b ++ handed (run_of b) l cs ≡ handed_in (after b cs)
  pub run_is : run_after (run_of b) l cs ≡ run_of (after b cs)
  pub state : State i (after b cs) (list_after (run_of b) l cs)

-- one call, and then the others
walks_cons : (i : Inputs) (b : Book) (l : List Float) (c : Call) (cs : List Call) → State i b l
    → ((k : List Float) → State i (book_call b c).book k → Walks i (book_call b c).book k cs) → Walks i b l (c ∷ cs)
unfolding walk replies answers handed run_after list_after after
walks_cons i b l c cs t ih =
    let x = run_call (run_of b) l c in
    let k = book_call b c in
    let a = call_agrees i b l c t in
    let w = ih x.list (record { good = call_keeps (calls_keep_good i) b c t.good; there = a.there }) in
    let e : entries b ++ (entered_by b c ++ answers (run_of k.book) x.list cs) ≡ entries (after k.book cs) =
    sym (append_assoc (entries b) (entered_by b c) (answers (run_of k.book) x.list cs)) ∙ ap (λ (z : List Entry). z ++ answers (run_of k.book) x.list cs) (sym (call_adds_entries b c)) ∙ w.same_entries in
    let g : handed_in b ++ (handed_by (run_of b) l c ++ handed (run_of k.book) x.list cs) ≡ handed_in (after k.book cs) =
    sym (append_assoc (handed_in b) (handed_by (run_of b) l c) (handed (run_of k.book) x.list cs)) ∙ ap (λ (z : List Handing). z ++ handed (run_of k.book) x.list cs) (hands_agree i b l c t) ∙ w.same_handed in
    record {
      same_replies = rw (a.reply, a.run) (ap (λ (z : List Reply). k.reply ∷ z) w.same_replies);
      same_entries = rw (answers_agree i b l c t, a.run) e;
      same_handed = rw a.run g;
      run_is = rw a.run w.run_is;
      state = rw a.run w.state;
    }

pub walks : (i : Inputs) (b : Book) (l : List Float) (cs : List Call) → State i b l → Walks i b l cs
unfolding walk replies answers handed run_after list_after after
walks i b l [] t = record { same_replies = refl; same_entries = append-nil (entries b); same_handed = append-nil (handed_in b); run_is = refl; state = t }
walks i b l (c ∷ cs) t = walks_cons i b l c cs t (λ k u. walks i (book_call b c).book k cs u)
