-- What offering entries to a list leaves of it. Definitions only.
use Rattle.std.specs.Prelude.{ℕ, ◌≡◌, List, Float, length}
use Rattle.seeds.specs.Layout.{Leaves}
use Rattle.seeds.specs.declared.lists.Items.{Items}

-- The same borrowed numbers, as many as before, with the entries ks at their front; and the list has as many entries.
pub record Pushed {A : Type 0} (numbers : A → List Float) (w : ℕ) (ks : List A) (before after : Items A) : Type 0 where
  pub same_reference : after.numbers.ghost_name ≡ before.numbers.ghost_name
  pub same_length : length after.numbers.now ≡ length before.numbers.now
  pub pushed : Leaves numbers w ks before.numbers.now after.numbers.now after.count
