-- What it is to be nearer to a square root, said of fractions of natural numbers. Definitions only.
use Rattle.std.specs.Prelude.{ℕ, ◌+◌, ◌-◌, ◌*◌, ◌<◌, true, false, T, Float}
use Rattle.std.specs.Float.{nan, inf, fin}
use Rattle.std.specs.Float.Ieee.{up, down, lt}
use Rattle.std.specs.Float.Ieee.Positive.{num, den}

-- r + y, over the denominator den r * den y, for an r from 0 up; and 0 where that is negative
abbrev pub total : Float → Float → ℕ
total r nan = num r
total r (inf s) = num r
total r (fin false m e) = num r * down e + m * up e * den r
total r (fin true m e) = num r * down e - m * up e * den r

-- r is nearer to √x than y is, for numbers x above 0 and r from 0 up: √x lies on r's side of the middle, (r + y) / 2,
-- so x lies on that side of the middle's square. A size is num / den, and the denominators are multiplied out: 4 * x
-- against (r + y) * (r + y). A middle below 0 is below √x, as 0 is.
pub record Nearer (x r y : Float) : Type 0 where
  pub below : T (lt r y) → 4 * num x * (den r * den y * (den r * den y)) < total r y * total r y * den x
  pub above : T (lt y r) → total r y * total r y * den x < 4 * num x * (den r * den y * (den r * den y))
