-- The bound as two comparisons: a number is within max exactly where −max is at most it and it is at most max, as
-- IEEE 754 compares. `proofs/Bound.antt` proves it. Definitions only.
use Rattle.std.specs.Prelude.{◌≡◌, ◌&&◌, Float}
use Rattle.std.specs.Float.Ieee.{le, neg}
use Rattle.float.specs.Float.{within}

abbrev pub WithinByOrder : Type 0
WithinByOrder = (max t : Float) → within max t ≡ (le (neg max) t && le t max)
