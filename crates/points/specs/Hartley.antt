-- What is known of a length that isn't refused. Assumes nothing.
use Rattle.std.specs.Prelude.{◌≡◌, false, ℕ, ◌≤◌, ◌%◌}
use Rattle.std.proofs.Common.{arith}
use Rattle.std.proofs.lemmas.Bool.Decides.{nat_tests}
use Rattle.points.specs.Points.{bad_points}

-- ---- by the test alone

-- a length that isn't refused is even, and that of at most 400 points
pub accepted_length_is_even : (n : ℕ) → bad_points n ≡ false → n % 2 ≡ 0
accepted_length_is_even n h = grind (arith, nat_tests)

pub accepted_length_at_most_800 : (n : ℕ) → bad_points n ≡ false → n ≤ 800
accepted_length_at_most_800 n h = grind (arith, nat_tests)
