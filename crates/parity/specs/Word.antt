-- A parity word (ECMA-130, Annex A; paper 02, ask 2) of any length: g i is its symbol at position i, from 0. Assumes nothing.
use Rattle.std.specs.Prelude.{Bool, ◌&&◌, ℕ, zero, suc, ◌+◌, ◌-◌, eqb}
use Rattle.std.specs.Int.Bits.{bit_xor}
use Rattle.parity.specs.Field.{product, power}

-- the sum of the first n symbols
unfoldable pub sum : ℕ → (ℕ → ℕ) → ℕ
sum zero g = 0
sum (suc n) g = bit_xor (sum n g) (g n)

-- the sum of the first n symbols of a word of l, each times a power of the element: the last of the l by power 0, the first by the highest
unfoldable pub weighted : ℕ → ℕ → (ℕ → ℕ) → ℕ
weighted l zero g = 0
weighted l (suc n) g = bit_xor (weighted l n g) (product (power (l - 1 - n)) (g n))

-- a word of n symbols holds where both sums are 0
unfoldable pub holds : ℕ → (ℕ → ℕ) → Bool
holds n g = eqb (sum n g) 0 && eqb (weighted n n g) 0

-- The two symbols a and b that must follow n symbols of data, whose sums are s and, with both to come, w: both sums of the word are 0 where
-- s + a + b = 0 and w + x a + b = 0. So a = (w + s) / (1 + x), and b = a + s; power 230 is 1 / (1 + x).
unfoldable pub first_parity : ℕ → (ℕ → ℕ) → ℕ
first_parity n g = product (power 230) (bit_xor (weighted (n + 2) n g) (sum n g))

unfoldable pub second_parity : ℕ → (ℕ → ℕ) → ℕ
second_parity n g = bit_xor (first_parity n g) (sum n g)
