-- What holds of the files themselves.
use Rattle.std.specs.Prelude.{◌≡◌, ℕ, List}
use Rattle.inputs_file.specs.Grammar.{Stored, IsFile}

-- the same bytes never say two things
abbrev pub OneReading : Type 0
OneReading = (bytes : List ℕ) (s t : Stored) → IsFile bytes s → IsFile bytes t → s ≡ t
