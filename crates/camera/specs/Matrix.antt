-- Matrices of three rows of three numbers: product, determinant and cofactor inverse. Products and inverses are given
-- by their element at row i and column j. Each operation is rounded. Definitions only.
use Rattle.std.specs.Prelude.{ℕ, ◌+◌, ◌%◌, cond, List, [], ◌∷◌, map, eqb, get_or, Float}
use Rattle.std.specs.Float.{nan}
use Rattle.std.specs.Float.Ieee.{neg}
use Rattle.float.specs.Binary64.{◌+₆₄◌, ◌-₆₄◌, ◌*₆₄◌, ◌/₆₄◌}

abbrev pub Matrix : Type 0
Matrix = List (List Float)

-- the element at row i and column j
abbrev pub at : Matrix → ℕ → ℕ → Float
at m i j = get_or (get_or m i []) j nan

-- the row of f's three values, and the matrix whose element at i and j is f i j
abbrev pub row_of : (ℕ → Float) → List Float
row_of f = map f (0 ∷ 1 ∷ 2 ∷ [])

abbrev pub matrix_of : (ℕ → ℕ → Float) → Matrix
matrix_of f = map (λ i. row_of (f i)) (0 ∷ 1 ∷ 2 ∷ [])

-- a row times column j of b, summed from the lowest index
abbrev pub row_product : List Float → Matrix → ℕ → Float
row_product row b j = get_or row 0 nan *₆₄ at b 0 j +₆₄ get_or row 1 nan *₆₄ at b 1 j +₆₄ get_or row 2 nan *₆₄ at b 2 j

-- row i of a times column j of b
abbrev pub product_element : Matrix → Matrix → ℕ → ℕ → Float
product_element a b i j = row_product (get_or a i []) b j

unfoldable pub product_of : Matrix → Matrix → Matrix
product_of a b = matrix_of (product_element a b)

-- the two indices beside i, in their order
unfoldable pub first_other : ℕ → ℕ
first_other i = cond (eqb i 0) 1 0

unfoldable pub second_other : ℕ → ℕ
second_other i = cond (eqb i 2) 1 2

-- of two rows and two columns: the product of the main diagonal, less that of the other
abbrev pub determinant2_of : Matrix → ℕ → ℕ → ℕ → ℕ → Float
determinant2_of m r0 r1 c0 c1 = at m r0 c0 *₆₄ at m r1 c1 -₆₄ at m r0 c1 *₆₄ at m r1 c0

-- the determinant of what is left without row i and column j
unfoldable pub minor_of : Matrix → ℕ → ℕ → Float
minor_of m i j = determinant2_of m (first_other i) (second_other i) (first_other j) (second_other j)

-- the minor, negated where i + j is odd
unfoldable pub cofactor_of : Matrix → ℕ → ℕ → Float
cofactor_of m i j = cond (eqb ((i + j) % 2) 0) (minor_of m i j) (neg (minor_of m i j))

-- along the first row; the middle term is subtracted
unfoldable pub determinant_of : Matrix → Float
determinant_of m = at m 0 0 *₆₄ minor_of m 0 0 -₆₄ at m 0 1 *₆₄ minor_of m 0 1 +₆₄ at m 0 2 *₆₄ minor_of m 0 2

-- the transposed cofactors, each divided by the determinant
abbrev pub inverse_element : Matrix → ℕ → ℕ → Float
inverse_element m i j = cofactor_of m j i /₆₄ determinant_of m

unfoldable pub inverse_of : Matrix → Matrix
inverse_of m = matrix_of (inverse_element m)
