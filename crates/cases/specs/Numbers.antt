-- Numbers of the cases and the worked runs, by their bits. Definitions only.
use Rattle.std.specs.Prelude.{ℕ, Float}
use Rattle.std.specs.Float.{binary64}
use Rattle.std.specs.Float.Ieee.{of_bits}

abbrev pub bits : ℕ → Float
bits b = of_bits binary64 b

-- 0.125, 0.25, 0.5
abbrev pub eighth : Float
eighth = bits 0x3fc0_0000_0000_0000

abbrev pub quarter : Float
quarter = bits 0x3fd0_0000_0000_0000

abbrev pub half : Float
half = bits 0x3fe0_0000_0000_0000

-- 2^600, whose square overflows
abbrev pub far : Float
far = bits 0x6570_0000_0000_0000
