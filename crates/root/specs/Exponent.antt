-- A signed exponent as a natural number. Definitions only.
use Rattle.std.specs.Prelude.{ℕ, ℤ, pos, negsuc, ◌+ℤ◌}

abbrev pub natural : ℤ → ℕ
natural (pos n) = n
natural (negsuc n) = 0

-- The exponents from -2148 on, counted from there: 2 ^ -2148 is the square of binary64's smallest value above 0.
unfoldable pub shifted : ℤ → ℕ
shifted e = natural (e +ℤ pos 2148)
