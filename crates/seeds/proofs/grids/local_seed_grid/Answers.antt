-- `seeds::grids::local_seed_grid` meets its contract. Assumes nothing.
use Rattle.std.proofs.Common.{rules}
use Rattle.float.specs.Binary64.{◌+₆₄◌}
use Rattle.seeds.specs.Rules.{next_list}
use Rattle.seeds.proofs.grids.local_seed_grid.Goals as goal

pub returns : goal.returns
unfolding next_list
returns c =
    let k = c.args.center in c.push_pairs.ensures (λ d. k.tilt_x +₆₄ d) (λ d. k.tilt_y +₆₄ d) (λ d t p. search rules) (λ d t p. search rules)
