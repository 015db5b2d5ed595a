-- Numbers of which none is above 656. Assumes nothing.
use Rattle.std.specs.List.{list_any}
use Rattle.std.proofs.Common.{ℕ, ◌≡◌, Bool, false, List, [], ◌∷◌, ltb-false, ltb}
use Rattle.common.specs.Each.{All}
use Rattle.common.specs.Tests.{both_false}
use Rattle.journal.proofs.ReportLaws.{Small}

abbrev pub any_above_656 : List ℕ → Bool
any_above_656 ns = list_any (λ n. ltb 656 n) ns

pub all_small_if_none_above_656 : (ns : List ℕ) → any_above_656 ns ≡ false → All Small ns
all_small_if_none_above_656 [] h = tt
all_small_if_none_above_656 (n ∷ ns) h = let p = both_false (ltb 656 n) (any_above_656 ns) h in (ltb-false 656 n p.0, all_small_if_none_above_656 ns p.1)
