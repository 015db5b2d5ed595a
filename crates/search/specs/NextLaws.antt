-- What Next and the seed call can rely on: the seed in place lies within the list. And how Next goes. Assumes nothing.
use Rattle.std.specs.Prelude.{ℕ, ◌+◌, ◌*◌, ◌≤◌, ◌≡◌, true, false, not, ◌&&◌, cond, List, leb, ltb, length, Float, Result, Ok, Err, ⊤}
use Rattle.std.proofs.Common.{ap, ◌∙◌, leb-true, ltb-false}
use Rattle.std.proofs.lemmas.Bool.{not-false}
use Rattle.common.specs.declared.Refusal.{Refusal}
use Rattle.common.specs.declared.Refusal.TheVariants.{NothingScored, SeedWaiting, ListShortened}
use Rattle.common.specs.Tests.{both_true}
use Rattle.common.specs.ChecksLaws.{refuses_none}
use Rattle.seeds.specs.Layout.{seed_at}
use Rattle.search.specs.Record.{sound, awaiting}
use Rattle.search.specs.Laws.{bounds_of_sound, open_run_at_lt_len, waiting_run_at_lt_len, seed_in_place_within_list}
use Rattle.search.specs.Next.{next_refusal, next_def, seed_lent}
use Rattle.search.specs.declared.next.Handed.TheVariants.{Candidate, Over}
use Rattle.search.specs.declared.run.Run.{Run}

pub next_seed_within_list : (r : Run) (n : ℕ) → next_refusal r n ≡ Ok tt → r.place.over ≡ false → 6 * r.place.at + 6 ≤ n
next_seed_within_list r n h e =
    let p = refuses_none (not (sound r)) NothingScored _ h in
    let q = refuses_none r.waiting.is_waiting SeedWaiting _ p.1 in
    let s = refuses_none (ltb n r.place.demand) ListShortened _ q.1 in
    let b = bounds_of_sound r (not-false (sound r) p.0) in
    seed_in_place_within_list r n b (open_run_at_lt_len r b e) (ltb-false n r.place.demand s.0)

-- ---- the three ways that Next goes
module _ (r : Run) (l : List Float) where
  next_def_by_refusal : (x : Result ⊤ Refusal) → next_refusal r (length l) ≡ x
      → next_def r l ≡ elim x [
        | Ok _ ↦ cond r.place.over (record { reply = Ok Over; run = r }) (record { reply = Ok (Candidate r.place.number); run = awaiting r (seed_at l r.place.at) })
        | Err refusal ↦ record { reply = Err refusal; run = r }
      ]
  unfolding next_def
  next_def_by_refusal x h = ap (λ (y : Result ⊤ Refusal). elim y [
    | Ok _ ↦ cond r.place.over (record { reply = Ok Over; run = r }) (record { reply = Ok (Candidate r.place.number); run = awaiting r (seed_at l r.place.at) })
    | Err refusal ↦ record { reply = Err refusal; run = r }
  ]) h

  -- a refused one leaves the run
  pub next_if_refused : (e : Refusal) → next_refusal r (length l) ≡ Err e → next_def r l ≡ record { reply = Err e; run = r }
  next_if_refused e h = next_def_by_refusal (Err e) h

  pub next_if_over : next_refusal r (length l) ≡ Ok tt → r.place.over ≡ true → next_def r l ≡ record { reply = Ok Over; run = r }
  next_if_over h o = next_def_by_refusal (Ok tt) h ∙ rw o

  -- with no refusal and the run not over, a seed is handed out
  pub next_gives_candidate : next_refusal r (length l) ≡ Ok tt → r.place.over ≡ false
      → next_def r l ≡ record { reply = Ok (Candidate r.place.number); run = awaiting r (seed_at l r.place.at) }
  next_gives_candidate h o = next_def_by_refusal (Ok tt) h ∙ rw o

pub lent_seed_within_list : (r : Run) (n : ℕ) → seed_lent r n ≡ true → 6 * r.place.at + 6 ≤ n
unfolding seed_lent
lent_seed_within_list r n h =
    let k = both_true (sound r && r.waiting.is_waiting) (leb r.place.demand n) h in
    let w = both_true (sound r) r.waiting.is_waiting k.0 in
    let b = bounds_of_sound r w.0 in
    seed_in_place_within_list r n b (waiting_run_at_lt_len r b w.1) (leb-true _ _ k.1)
