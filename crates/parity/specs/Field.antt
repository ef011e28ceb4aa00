-- The field of 256 elements of x^8 + x^4 + x^3 + x^2 + 1 (ECMA-130, Annex A; paper 02, ask 2). An element is a number below 256, its bits the
-- coefficients of a polynomial in x; a sum is the xor of two. Assumes nothing.
use Rattle.std.specs.Prelude.{ℕ, zero, suc, ◌*◌, ◌/◌, ◌%◌}
use Rattle.std.specs.Int.Bits.{bit_xor}

-- a times x: one place up, and the field's polynomial, 11Dh, taken off where bit 7 moved out
unfoldable pub times_x : ℕ → ℕ
times_x a = bit_xor (a * 2) (a / 128 % 2 * 0x11D)

-- a times the n lowest bits of b: the lowest bit adds a or nothing, the others the product of a x and b / 2
unfoldable pub product_bits : ℕ → ℕ → ℕ → ℕ
product_bits zero a b = 0
product_bits (suc n) a b = bit_xor (b % 2 * a) (product_bits n (times_x a) (b / 2))

abbrev pub product : ℕ → ℕ → ℕ
product a b = product_bits 8 a b

-- a power of the field's element, x, which is 2: the previous power times the element
unfoldable pub power : ℕ → ℕ
power zero = 1
power (suc n) = product (power n) 2
