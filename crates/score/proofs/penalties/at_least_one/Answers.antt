-- `score::penalties::at_least_one` meets its contract. Assumes nothing.
use Rattle.std.specs.Prelude.{◌≡◌, refl, false}
use Rattle.std.specs.Float.Ieee.{of_bits, is_nan}
use Rattle.float.specs.Literals.{one₆₄}
use Rattle.float_laws.specs.OneTest.{higher_is_first, higher_is_second}
use Rattle.score.proofs.penalties.at_least_one.Goals as goal

one_is_number : is_nan one₆₄ ≡ false
unfolding is_nan of_bits
one_is_number = refl

pub returns-then-x : goal.returns-then-x
returns-then-x c = higher_is_first c.args.x one₆₄ c.if-x.true

pub returns-else-x : goal.returns-else-x
returns-else-x c = higher_is_second c.args.x one₆₄ one_is_number c.if-x.false
