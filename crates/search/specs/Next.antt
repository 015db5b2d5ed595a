-- Next and the seed call, as functions of the run's record and the lent list, for every record and list. Definitions only.
use Rattle.std.specs.Prelude.{ℕ, ◌*◌, Bool, not, ◌&&◌, cond, List, [], ◌∷◌, leb, ltb, length, take, drop, Float, Result, Ok, Err, ⊤}
use Rattle.common.specs.Checks.{Check, ◌when◌, first_refusal}
use Rattle.common.specs.declared.Refusal.{Refusal}
use Rattle.common.specs.declared.Refusal.TheVariants.{NothingScored, SeedWaiting, ListShortened}
use Rattle.seeds.specs.Layout.{seed_at}
use Rattle.search.specs.Record.{sound, awaiting}
use Rattle.search.specs.declared.run.Reply.{Reply}
use Rattle.search.specs.declared.run.Run.{Run}
use Rattle.search.specs.declared.next.Handed.{Handed}
use Rattle.search.specs.declared.next.Handed.TheVariants.{Candidate, Over}

-- 9 where a seed is waiting, 10 where the list is shorter than the run demands, 11 where the run ended with no
-- candidate scored. Before them, 11 for a record that isn't sound.
abbrev pub next_checks : Run → ℕ → List Check
next_checks r n =
    (NothingScored when not (sound r))
    ∷ (SeedWaiting when r.waiting.is_waiting)
    ∷ (ListShortened when ltb n r.place.demand)
    ∷ (NothingScored when (r.place.over && not r.run_best.found))
    ∷ []

abbrev pub next_refusal : Run → ℕ → Result ⊤ Refusal
next_refusal r n = first_refusal (next_checks r n)

-- The list's next seed is handed out under the next number, and the run keeps its six numbers. Once the run is over
-- with a winner, the reply is Over. A refused Next leaves the run.
unfoldable pub next_def : Run → List Float → Reply Handed
next_def r l = elim (next_refusal r (length l)) [
  | Ok _ ↦ cond r.place.over
      (record { reply = Ok Over; run = r })
      (record { reply = Ok (Candidate r.place.number); run = awaiting r (seed_at l r.place.at) })
  | Err refusal ↦ record { reply = Err refusal; run = r }
]

-- ---- the call beside it: the waiting seed's six numbers as they stand in the list, or nothing
unfoldable pub seed_lent : Run → ℕ → Bool
seed_lent r n = sound r && r.waiting.is_waiting && leb r.place.demand n

unfoldable pub seed_part : Run → List Float → List Float
seed_part r l = cond (seed_lent r (length l)) (take 6 (drop (6 * r.place.at) l)) []
