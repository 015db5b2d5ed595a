-- `points::centre::lower` meets its contract. Assumes nothing.
use Rattle.float.specs.Finite.{finite_is_not_nan}
use Rattle.float_laws.specs.OneTest.{lower_is_first, lower_is_second}
use Rattle.points.proofs.centre.lower.Goals as goal

pub returns-then-x-y : goal.returns-then-x-y
returns-then-x-y c = lower_is_first c.args.x c.args.y c.if-x-y.true

pub returns-else-x-y : goal.returns-else-x-y
returns-else-x-y c = lower_is_second c.args.x c.args.y (finite_is_not_nan c.args.y c.requires) c.if-x-y.false
