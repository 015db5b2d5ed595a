-- `points::centre::higher` meets its contract. Assumes nothing.
use Rattle.float.specs.Finite.{finite_is_not_nan}
use Rattle.float_laws.specs.OneTest.{higher_is_first, higher_is_second}
use Rattle.points.proofs.centre.higher.Goals as goal

pub returns-then-y-x : goal.returns-then-y-x
returns-then-y-x c = higher_is_first c.args.x c.args.y c.if-y-x.true

pub returns-else-y-x : goal.returns-else-y-x
returns-else-y-x c = higher_is_second c.args.x c.args.y (finite_is_not_nan c.args.y c.requires) c.if-y-x.false
