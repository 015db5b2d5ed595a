-- Equal results hold equal values, and a refusal never equals a value. Assumes nothing.
use Rattle.std.specs.Prelude.{◌≡◌, Result, Ok, Err}

module _ {T E : Type 0} where
  pub ok_values_equal : (v w : T) → ◌≡◌ {A = Result T E} (Ok v) (Ok w) → v ≡ w
  ok_values_equal v w h = cc

  pub refusals_equal : (e d : E) → ◌≡◌ {A = Result T E} (Err e) (Err d) → e ≡ d
  refusals_equal e d h = cc

  pub refusal_is_no_value : (e : E) (v : T) → ◌≡◌ {A = Result T E} (Err e) (Ok v) → ⊥
  refusal_is_no_value e v h = cc
