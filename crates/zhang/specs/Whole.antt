-- What the sizes of a camera's numbers say of them, where they are whole. Definitions only.
use Rattle.std.specs.Prelude.{◌≡◌, ℕ, ◌/◌, ◌%◌, ◌≤◌, Bool, false, ◌&&◌, ◌==◌, nat_le, Option, Some, None}
use Rattle.camera.specs.declared.intrinsics.FxFyCxCy.{FxFyCxCy}
use Rattle.zhang.specs.Plate.{times_unit}
use Rattle.zhang.specs.declared.plate.WholeSizes.{WholeSizes}

-- whether a size is a whole number of units u, at most 256 of them; one that isn't whole is none
abbrev pub whole_times : ℕ → Option ℕ → Bool
whole_times u None = false
whole_times u (Some n) = n % u == 0 && nat_le (n / u) 256

-- the four numbers pass the definition's test exactly where these sizes do
abbrev pub SizesOf : FxFyCxCy → WholeSizes → Type 0
SizesOf k s =
    (u : ℕ) → u ≤ 256 →
    (times_unit u k.fx ≡ whole_times u s.fx) × (times_unit u k.fy ≡ whole_times u s.fy) × (times_unit u k.cx ≡ whole_times u s.cx) × (times_unit u k.cy ≡ whole_times u s.cy)
