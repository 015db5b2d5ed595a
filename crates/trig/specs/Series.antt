-- Sine and cosine of a small number, from sixteen coefficients: the sum as it is computed, and the exact sum of eight
-- terms that it stands for. Definitions only.
use Rattle.std.specs.Prelude.{ℕ, zero, suc, ◌*◌, ◌%◌, Bool, false, leb, Float}
use Rattle.std.specs.Float.{binary64}
use Rattle.std.specs.Float.Ieee.{round}
use Rattle.float.specs.Binary64.{◌+₆₄◌, ◌*₆₄◌}
use Rattle.float_laws.specs.Fraction.{Fraction, signed, ◌⊕◌, ◌⊗◌}

-- which of the two power series
pub data Series : Type 0 where
  cosines sines : Series

-- the power that the series starts with; it goes on in steps of two
abbrev pub first : Series → ℕ
first cosines = 0
first sines = 1

abbrev pub factorial : ℕ → ℕ
factorial zero = 1
factorial (suc n) = suc n * factorial n

-- the signs go + + - -
abbrev pub negative : ℕ → Bool
negative n = leb 2 (n % 4)

-- ---- the table: ± 1 / n!, rounded to nearest
unfoldable pub coefficient_of : ℕ → Float
coefficient_of n = round binary64 (negative n) 1 (factorial n)

-- ---- the sum with the coefficients n, n + 2, .. up to n + 2 * j, from the last to the first: s * q plus the next one
unfoldable pub horner_of : Float → ℕ → ℕ → Float
unfolding coefficient_of
horner_of q zero n = coefficient_of n
horner_of q (suc j) n = horner_of q j (suc (suc n)) *₆₄ q +₆₄ coefficient_of n

unfoldable pub series_of : Series → Float → Float
unfolding horner_of
series_of cosines x = horner_of (x *₆₄ x) 7 0
series_of sines x = horner_of (x *₆₄ x) 7 1 *₆₄ x

-- ---- the exact value: the first eight terms of the power series, a fraction of whole numbers
unfoldable pub power : Fraction → ℕ → Fraction
power x zero = signed false 1 1
power x (suc n) = power x n ⊗ x

-- ± 1 / n!
abbrev pub inverse : ℕ → Fraction
inverse n = signed (negative n) 1 (factorial n)

-- k terms, from that with the power n on: x ^ n / n!, less x ^ (n + 2) / (n + 2)!, and so on
unfoldable pub terms : Fraction → ℕ → ℕ → Fraction
unfolding power
terms x zero n = signed false 0 1
terms x (suc k) n = (inverse n ⊗ power x n) ⊕ terms x k (suc (suc n))

abbrev pub exact_of : Series → Fraction → Fraction
exact_of w x = terms x 8 (first w)
