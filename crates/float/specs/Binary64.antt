-- Rust's operators on f64, written between their operands: each is the kit's operation at binary64, rounded once.
-- Definitions only. `*` and `/` bind tighter than `+` and `-`, and all group to the left, as in Rust, so a formula here
-- is rounded in the order in which it reads.
use Rattle.std.specs.Prelude.{Float}
use Rattle.std.specs.Float.{binary64}
use Rattle.std.specs.Float.Ieee.{add, sub, mul, div}

infixl 65 ◌+₆₄◌ ◌-₆₄◌
infixl 70 ◌*₆₄◌ ◌/₆₄◌
abbrev pub ◌+₆₄◌ : Float → Float → Float
x +₆₄ y = add binary64 x y

abbrev pub ◌-₆₄◌ : Float → Float → Float
x -₆₄ y = sub binary64 x y

abbrev pub ◌*₆₄◌ : Float → Float → Float
x *₆₄ y = mul binary64 x y

abbrev pub ◌/₆₄◌ : Float → Float → Float
x /₆₄ y = div binary64 x y
