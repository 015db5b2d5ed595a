-- The numbers that rules and formulas name, each written once, by its bits. Definitions only.
use Rattle.std.specs.Prelude.{Bool, pos, Float}
use Rattle.std.specs.Float.{fin, binary64}
use Rattle.std.specs.Float.Ieee.{of_bits, div}

-- +0
abbrev pub plus_zero : Float
plus_zero = of_bits binary64 0

-- 0 with the sign given: −0 where it is true
abbrev pub zero_of : Bool → Float
zero_of s = fin s 0 (pos 0)

-- 1, 2, 3, 6, 1 / 2
abbrev pub one₆₄ : Float
one₆₄ = of_bits binary64 0x3ff0_0000_0000_0000

abbrev pub two₆₄ : Float
two₆₄ = of_bits binary64 0x4000_0000_0000_0000

abbrev pub three₆₄ : Float
three₆₄ = of_bits binary64 0x4008_0000_0000_0000

abbrev pub six₆₄ : Float
six₆₄ = of_bits binary64 0x4018_0000_0000_0000

abbrev pub half₆₄ : Float
half₆₄ = of_bits binary64 0x3fe0_0000_0000_0000

-- 1e-6, 1e-9, 1e-11, 1e-12
abbrev pub ten_to_minus6 : Float
ten_to_minus6 = of_bits binary64 0x3eb0_c6f7_a0b5_ed8d

abbrev pub ten_to_minus9 : Float
ten_to_minus9 = of_bits binary64 0x3e11_2e0b_e826_d695

abbrev pub ten_to_minus11 : Float
ten_to_minus11 = of_bits binary64 0x3da5_fd7f_e179_6495

abbrev pub ten_to_minus12 : Float
ten_to_minus12 = of_bits binary64 0x3d71_9799_812d_ea11

-- +infinity, as a program writes it: 1 / 0
abbrev pub infinity : Float
infinity = div binary64 one₆₄ plus_zero
