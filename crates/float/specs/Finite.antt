-- Whether all numbers of a list are finite, and laws about finite numbers. Assumes nothing.
use Rattle.std.specs.Prelude.{◌≡◌, refl, Bool, true, false, List, Float}
use Rattle.std.specs.List.{list_all}
use Rattle.std.proofs.Common.{sym, true≢false}
use Rattle.std.specs.Float.{nan, inf, fin}
use Rattle.std.specs.Float.Ieee.{le, is_nan}
use Rattle.float.specs.Float.{abs_of, is_finite}

-- ---- a list of numbers
abbrev pub all_finite : List Float → Bool
all_finite numbers = list_all is_finite numbers

-- ---- a value whose size is at most a finite number is finite
pub finite_of_size_at_most_finite : (x m : Float) → is_finite m ≡ true → le (abs_of x) m ≡ true → is_finite x ≡ true
unfolding le abs_of is_finite
finite_of_size_at_most_finite (fin s m e) y f h = refl
finite_of_size_at_most_finite nan y f h = absurd (true≢false (sym h))
finite_of_size_at_most_finite (inf s) nan f h = absurd (true≢false (sym f))
finite_of_size_at_most_finite (inf s) (inf t) f h = absurd (true≢false (sym f))
finite_of_size_at_most_finite (inf s) (fin t n d) f h = absurd (true≢false (sym h))

-- ---- a finite value is no NaN
pub finite_is_not_nan : (x : Float) → is_finite x ≡ true → is_nan x ≡ false
unfolding is_finite is_nan
finite_is_not_nan nan h = absurd (true≢false (sym h))
finite_is_not_nan (inf s) h = refl
finite_is_not_nan (fin s m e) h = refl
