-- `seeds::grids::seed_grid` meets its contract: its closures give each typed tilt as it is. Assumes nothing.
use Rattle.std.proofs.Common.{rules}
use Rattle.std.proofs.lemmas.List.{map-id}
use Rattle.seeds.specs.Rules.{seed_grid}
use Rattle.seeds.proofs.grids.seed_grid.Goals as goal

pub returns : goal.returns
unfolding seed_grid
returns c = simp map-id at (c.push_pairs.ensures (λ t. t) (λ t. t) (λ n t p. search rules) (λ n t p. search rules))
