-- The theorem about the root, put together: all of `specs/Theorem.antt`. Assumes nothing.
use Rattle.std.specs.Float.{Format}
use Rattle.root.specs.Theorem.{SquareRootOf754, RootIs754}
use Rattle.root.proofs.Nearest.{root_fits, root_nearest, root_no_tie, root_exact}
use Rattle.root.proofs.RootLaws.{root_nan, root_infinity, root_zero, root_negative, root_not_below, root_is_nan, root_is_finite}

of_format : (f : Format) → SquareRootOf754 f
of_format f =
    record {
      representable = root_fits f;
      nearest = root_nearest f;
      no_tie = root_no_tie f;
      exact = root_exact f;
      of_zero = root_zero f;
      of_infinity = root_infinity f;
      of_nan = root_nan f;
      of_negative = root_negative f;
      not_below = root_not_below f;
      is_nan_lem = root_is_nan f;
      is_finite_lem = root_is_finite f;
    }

pub square_root : RootIs754
square_root = record { of_format = of_format }
