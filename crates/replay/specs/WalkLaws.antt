-- One line of a walk: whether it is taken, what `enter` can rely on then, and how the walk goes on or stops there. Assumes nothing.
use Rattle.std.specs.Prelude.{ℕ, suc, ◌+◌, ◌-◌, ◌≤◌, ◌≡◌, refl, Bool, true, false, not, ◌&&◌, List, ◌∷◌, ltb, length, drop, Float, Option, Some, None, Result, Ok, Err, ⊤}
use Rattle.std.proofs.Common.{sym, ap, ◌∙◌, true≢false, arith, ltb-false, length-append, length-drop}
use Rattle.std.proofs.lemmas.Bool.{not-false}
use Rattle.std.proofs.lemmas.Option.{none-some, same_Some}
use Rattle.common.specs.Tests.{case, both_true}
use Rattle.common.specs.declared.Refusal.{Refusal}
use Rattle.common.specs.declared.Refusal.TheVariants.{NothingScored, SeedWaiting, ListShortened}
use Rattle.common.specs.ChecksLaws.{refuses_none}
use Rattle.seeds.specs.declared.CandidateSeed.{CandidateSeed}
use Rattle.seeds.specs.Layout.{seed_at}
use Rattle.journal.specs.declared.Line.{Line}
use Rattle.journal.specs.declared.Read.TheVariants.{Got, End, NotALine}
use Rattle.journal.specs.Line.{line_bytes}
use Rattle.journal.specs.Reading.{read_line, goes_on, read_all}
use Rattle.journal.proofs.Unique.{line_length_bounds, line_that_is_read_stands_there}
use Rattle.search.specs.Record.{sound, has_place, awaiting}
use Rattle.search.specs.declared.run.Run.{Run}
use Rattle.search.specs.declared.run.Reply.{Reply}
use Rattle.search.specs.Next.{next_refusal, next_def}
use Rattle.search.specs.NextLaws.{next_if_refused, next_if_over, next_gives_candidate}
use Rattle.search.specs.declared.next.Handed.{Handed}
use Rattle.search.specs.Answer.{Left}
use Rattle.replay.specs.declared.WalkEnd.{WalkEnd}
use Rattle.replay.specs.declared.WalkEnd.TheVariants.{AllTaken, NotTheRun}
use Rattle.replay.specs.declared.WalkEnd.TheVariants as walk_end
use Rattle.replay.specs.Walk.{answers_waiting, is_candidate, take_line, run_left, list_left, run_taken, list_taken, RunWalk, walk_lines, walk_end_at, walk_of, walked_as}

-- ---- Next hands out a seed only where a sound run isn't over: then it waits, and `enter` may be called
sound_awaiting : (r : Run) (s : CandidateSeed) → r.place.over ≡ false → sound r ≡ true → sound (awaiting r s) ≡ true
unfolding sound has_place awaiting
sound_awaiting r s o h = rw o (rw o at h)

pub record Enterable (r : Run) (n : ℕ) : Type 0 where
  pub is_sound : sound r ≡ true
  pub waits : r.waiting.is_waiting ≡ true
  pub demand_fits : r.place.demand ≤ n

awaiting_enterable : (r : Run) (s : CandidateSeed) (n : ℕ) → r.place.over ≡ false → next_refusal r n ≡ Ok tt → Enterable (awaiting r s) n
unfolding awaiting
awaiting_enterable r s n o h =
    let p = refuses_none (not (sound r)) NothingScored _ h in
    let q = refuses_none r.waiting.is_waiting SeedWaiting _ p.1 in
    let d = refuses_none (ltb n r.place.demand) ListShortened _ q.1 in
    record { is_sound = sound_awaiting r s o (not-false (sound r) p.0); waits = refl; demand_fits = ltb-false n r.place.demand d.0 }

pub handed_enterable : (r : Run) (l : List Float) → is_candidate (next_def r l).reply ≡ true → Enterable (next_def r l).run (length l)
handed_enterable r l h = by (next_refusal r (length l)) refl
  where
    by : (x : Result ⊤ Refusal) → next_refusal r (length l) ≡ x → Enterable (next_def r l).run (length l)
    by (Ok u) k =
        case r.place.over
        (λ o. absurd (true≢false (sym h ∙ ap (λ (a : Reply Handed). is_candidate a.reply) (next_if_over r l k o))))
        (λ o. rw (next_gives_candidate r l k o) (awaiting_enterable r (seed_at l r.place.at) (length l) o k))
    by (Err e) k = absurd (true≢false (sym h ∙ ap (λ (a : Reply Handed). is_candidate a.reply) (next_if_refused r l e k)))

-- ---- a line that isn't taken leaves the run and the list, and one that is leads to what is entered
module _ (r : Run) (l : List Float) (m : Line) (a : Reply Handed) (x y : Bool) (next_is : a ≡ next_def r l) (x-is : x ≡ is_candidate a.reply) (y-is : y ≡ answers_waiting a.run m) where
  pub line_enterable : (x && y) ≡ true → Enterable a.run (length l)
  line_enterable h = rw next_is (handed_enterable r l (ap (λ (b : Reply Handed). is_candidate b.reply) (sym next_is) ∙ sym x-is ∙ (both_true x y h).0))

pub list_stays_if_line_not_taken : (r : Run) (l : List Float) (m : Line) → run_taken r l m ≡ None → list_taken r l m ≡ l
list_stays_if_line_not_taken r l m h = by (take_line r l m) h
  where
    by : (o : Option Left) → run_left o ≡ None → list_left o l ≡ l
    by None h = refl
    by (Some t) h = absurd (none-some t.run (sym h))

-- ---- the walk from a place of the journal on, where n lines were taken; f is how many more the reader may give
abbrev pub walk_at : Run → List Float → ℕ → ℕ → List ℕ → ℕ → RunWalk
walk_at r l n f s at = walk_lines r l n at (read_all f s at).lines (walk_end_at (read_all f s at).ending)

abbrev pub ended_walk : Run → List Float → ℕ → ℕ → WalkEnd → RunWalk
ended_walk r l n k e = record { run = r; list = l; lines = n; bytes = k; walk_end = e }

module _ (r : Run) (l : List Float) (n f : ℕ) (s : List ℕ) (at : ℕ) where
  pub walk_ends : read_line s at ≡ End → walk_at r l n (suc f) s at ≡ ended_walk r l n at AllTaken
  unfolding read_all goes_on walk_lines
  walk_ends h = rw h

  pub walk_refused : (k : ℕ) → read_line s at ≡ NotALine k → walk_at r l n (suc f) s at ≡ ended_walk r l n at walk_end.NotALine
  unfolding read_all goes_on walk_lines
  walk_refused k h = rw h

  module _ (m : Line) (next : ℕ) (h : read_line s at ≡ Got m next) where
    walk_at_got_line : walk_at r l n (suc f) s at ≡ walk_lines r l n at (m ∷ (read_all f s next).lines) (walk_end_at (read_all f s next).ending)
    unfolding read_all goes_on
    walk_at_got_line = rw h

    pub walk_stops : run_taken r l m ≡ None → walk_at r l n (suc f) s at ≡ ended_walk r l n at NotTheRun
    walk_stops e = walk_at_got_line ∙ by (take_line r l m) refl e
      where
        by : (o : Option Left) → take_line r l m ≡ o → run_left o ≡ None → walk_lines r l n at (m ∷ (read_all f s next).lines) (walk_end_at (read_all f s next).ending) ≡ ended_walk r l n at NotTheRun
        by None q e = unfold walk_lines in simp (walk_lines, q)
        by (Some t) q e = absurd (none-some t.run (sym e))

    walk_lines_past_taken_line : (t : Left) → take_line r l m ≡ Some t
        → walk_lines r l n at (m ∷ (read_all f s next).lines) (walk_end_at (read_all f s next).ending) ≡ walk_at t.run t.list (suc n) f s next
    walk_lines_past_taken_line t q = unfold walk_lines in simp (walk_lines, q, (line_that_is_read_stands_there s at m next h).next_is)

    pub walk_goes_on : (k : Run) → run_taken r l m ≡ Some k → walk_at r l n (suc f) s at ≡ walk_at k (list_taken r l m) (suc n) f s next
    walk_goes_on k e = walk_at_got_line ∙ by (take_line r l m) refl e
      where
        by : (o : Option Left) → take_line r l m ≡ o → run_left o ≡ Some k
            → walk_lines r l n at (m ∷ (read_all f s next).lines) (walk_end_at (read_all f s next).ending) ≡ walk_at k (list_left o l) (suc n) f s next
        by None q e = absurd (none-some k e)
        by (Some t) q e = walk_lines_past_taken_line t q ∙ ap (λ (j : Run). walk_at j t.list (suc n) f s next) (same_Some t.run k e)

    -- a line that is read has 124 bytes at least, and lies within the journal
    pub line_within : (at + 124 ≤ next) × (next ≤ length s)
    line_within =
        let t = line_that_is_read_stands_there s at m next h in
        let b = (line_length_bounds m t.can_be_written).0 in
        let j = ap length t.bytes_are ∙ length-append (line_bytes m) (drop next s) in
        let d = length-drop at s in
        let i = t.next_is in
        (omega arith, omega arith)

-- from the start, and from one line to the next, where as many lines may be left as there are bytes
pub walk_starts : (r : Run) (l : List Float) (s : List ℕ) → walk_at r l 0 (suc (length s - 0)) s 0 ≡ walk_of r l s
unfolding walk_of
walk_starts r l s = let e : length s - 0 ≡ length s = omega arith in rw e

pub walk_turn_is_walk : (r k : Run) (l j : List Float) (n : ℕ) (s : List ℕ) (at : ℕ) (m : Line) (next : ℕ) → read_line s at ≡ Got m next → run_taken r l m ≡ Some k → j ≡ list_taken r l m
    → suc n ≤ length s → walk_at k j (n + 1) (suc (length s - (n + 1))) s next ≡ walk_at r l n (suc (length s - n)) s at
walk_turn_is_walk r k l j n s at m next h t j-is room =
    let one : n + 1 ≡ suc n = omega arith in
    let fuel : suc (length s - suc n) ≡ length s - n = omega arith in
    rw (j-is, one, fuel) (sym (walk_goes_on r l n (length s - n) s at m next h k t))

-- what a walk that stopped here gives, as the code returns it
pub stopped_walk_is_walked : (w : RunWalk) (r : Run) (l : List Float) (n k : ℕ) (e : WalkEnd) → w ≡ ended_walk r l n k e → (record { run = r; lines = n; bytes = k; walk_end = e } ≡ walked_as w) × (l ≡ w.list)
stopped_walk_is_walked w r l n k e h = rw h (refl, refl)
