-- The steps by which the writer stores a line. Definitions only.
use Rattle.std.specs.Prelude.{◌≡◌, List, [], ◌∷◌, ◌++◌, ℕ, length}
use Rattle.std.proofs.lemmas.List.Edits.{sets}

-- fields, each behind a comma
unfoldable pub comma_fields : List (List ℕ) → List ℕ
comma_fields [] = []
comma_fields (f ∷ fs) = 44 ∷ (f ++ comma_fields fs)

-- m is the buffer l with these bytes from a place on
pub record Stored (l : List ℕ) (at : ℕ) (bytes m : List ℕ) : Type 0 where
  pub now_is : m ≡ sets l at bytes
  pub same_long : length m ≡ length l
