-- The square root that IEEE 754 asks for: the value of the format that is nearest to the true root, and of two equally
-- near ones the one whose last digit is even. It is worked out in whole numbers; specs/Theorem.antt says in which sense
-- it is the nearest. Definitions only.
use Prim.Native.Nat.{ℕ, zero, suc, ◌+◌, ◌-◌, ◌*◌, ◌/◌, ◌^◌, compare}
use Rattle.std.specs.Prelude.{true, false, cond, ℤ, ltb, Float}
use Rattle.std.specs.Float.{nan, inf, fin, Format}
use Rattle.std.specs.Float.Ieee.{prec, low, up, down, size, nearest, units}

-- ---- the integer square root

-- The whole part of √n, for an n of at most d digits base 4: twice that of n / 4, or one more.
unfoldable pub root_in : ℕ → ℕ → ℕ
root_in zero n = zero
root_in (suc d) n = let r = 2 * root_in d (n / 4) in cond (ltb n (suc r * suc r)) r (suc r)

-- the largest r with r * r ≤ n
unfoldable pub isqrt : ℕ → ℕ
unfolding root_in size
isqrt n = root_in (size n) n

-- ---- √n rounded to the digits of a format, for n above 0

-- The format keeps at most `prec` binary digits of √n's whole part and drops the others: so many.
abbrev pub dropped : Format → ℕ → ℕ
dropped f n = size (isqrt n) - prec f

-- The digits that it keeps: √n lies from kept * u up to (kept + 1) * u, where u is 2 ^ dropped.
abbrev pub kept : Format → ℕ → ℕ
kept f n = isqrt n / 2 ^ dropped f n

-- Twice the middle between the two. So √n is below, at or above the middle as 4 * n is below, at or above the square of
-- this.
abbrev pub middle : Format → ℕ → ℕ
middle f n = (2 * kept f n + 1) * 2 ^ dropped f n

-- The lower or the upper of the two, by the side of the middle; in the middle, the even one (`nearest` of lib.Ieee).
abbrev pub rounded : Format → ℕ → ℕ
rounded f n = nearest (kept f n) (compare (4 * n) (middle f n * middle f n))

-- as a value of the format: √n times the smallest value, rounded
unfoldable pub root_of : Format → ℕ → Float
unfolding isqrt units
root_of f n = units f false (rounded f n) (dropped f n)

-- ---- the root of a value that the format holds

-- The value m * 2 ^ e in units of the format's smallest value, 2 ^ -low, times 2 ^ low: the root of this number is the
-- root of the value in the same units.
abbrev pub radicand : Format → ℕ → ℤ → ℕ
radicand f m e = m * up e * 2 ^ low f / down e * 2 ^ low f

-- NaN of NaN and of everything below zero; a zero and +infinity are their own roots.
unfoldable pub root : Format → Float → Float
unfolding root_of
root f nan = nan
root f (inf s) = cond s nan (inf s)
root f (fin s zero e) = fin s zero e
root f (fin true (suc m) e) = nan
root f (fin false (suc m) e) = root_of f (radicand f (suc m) e)
