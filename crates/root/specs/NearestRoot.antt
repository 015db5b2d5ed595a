-- The whole number nearest to a root, by squares. Definitions only.
use Rattle.std.specs.Prelude.{ℕ, ◌+◌, ◌*◌, ◌<◌, ◌≤◌}

-- q is the whole number nearest to √n, for an n above 0: √n lies between q - 1/2 and q + 1/2
abbrev pub NearestRoot : ℕ → ℕ → Type 0
NearestRoot n q = (q * q < n + q) × (n ≤ q * q + q)
