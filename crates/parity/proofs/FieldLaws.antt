-- Laws of the field: products distribute over sums, and a product with a power is made step by step. Assumes nothing.
use mathlib.Core.Path.{◌≡◌, refl, sym, ap, ap₂, ◌∙◌, subst⁻¹}
use Prim.Native.Nat.{ℕ, zero, suc, ◌+◌, ◌*◌, ◌/◌, ◌%◌, ◌<◌}
use native.Mathlib.Nat.{zero-mul, one-mul, zero-add, suc-add}
use native.Mathlib.Omega.{arith}
use lib.Bits.{bit_xor, xor_zero_r, xor_zero_l, xor_self, xor_block, xor_lt}
use Rattle.laws.proofs.Xor.{xor_half, xor_odd, xor_four, odd_lt}
use Rattle.laws.proofs.Sum.{times}
use Rattle.laws.proofs.Bit.{bit-xor, bit_times_xor, bit_times_of, bit_times_lt, double_xor}
use Rattle.parity.specs.Field.{times_x, product_bits, product, power}

-- Times x

-- the polynomial k may be any for the one, and for the other is 11Dh
moved_xor : (k a b : ℕ) → bit_xor (bit_xor a b * 2) (bit_xor a b / 128 % 2 * k) ≡ bit_xor (bit_xor (a * 2) (a / 128 % 2 * k)) (bit_xor (b * 2) (b / 128 % 2 * k))
moved_xor k a b =
    ap₂ bit_xor (double_xor a b) (ap (λ (d : ℕ). d * k) (bit-xor 7 a b) ∙ times _ _ k (odd_lt (a / 128)) (odd_lt (b / 128)))
    ∙ xor_four (a * 2) (b * 2) (a / 128 % 2 * k) (b / 128 % 2 * k)

pub times_x_xor : (a b : ℕ) → times_x (bit_xor a b) ≡ bit_xor (times_x a) (times_x b)
unfolding times_x
times_x_xor a b = moved_xor _ a b

pub times_x_zero : times_x 0 ≡ 0
unfolding times_x
times_x_zero = refl

moved_byte : (k a : ℕ) → k ≡ 256 + 29 → a < 256 → bit_xor (a * 2) (a / 128 % 2 * k) ≡ bit_xor (a % 128 * 2) (a / 128 * 29)
moved_byte k a e h =
    ap₂ bit_xor low (ap (λ (x : ℕ). a / 128 % 2 * x) e ∙ high)
    ∙ xor_block 8 (a / 128) (a / 128) (a % 128 * 2) (a / 128 * 29) (omega arith) (omega arith)
    ∙ ap (λ (x : ℕ). x * 256 + bit_xor (a % 128 * 2) (a / 128 * 29)) (xor_self (a / 128)) ∙ none
  where
    low : a * 2 ≡ a / 128 * 256 + a % 128 * 2
    low = omega arith

    high : a / 128 % 2 * (256 + 29) ≡ a / 128 * 256 + a / 128 * 29
    high = omega arith

    none : 0 * 256 + bit_xor (a % 128 * 2) (a / 128 * 29) ≡ bit_xor (a % 128 * 2) (a / 128 * 29)
    none = omega arith

-- within a byte the two parts are bytes
pub times_x_byte : (a : ℕ) → a < 256 → times_x a ≡ bit_xor (a % 128 * 2) (a / 128 * 29)
unfolding times_x
times_x_byte a h = moved_byte _ a refl h

pub times_x_lt : (a : ℕ) → a < 256 → times_x a < 256
times_x_lt a h = subst⁻¹ (λ (x : ℕ). x < 256) (times_x_byte a h) (xor_lt 8 (a % 128 * 2) (a / 128 * 29) (omega arith) (omega arith))

-- Products, of any number of bits

pub product_lt : (n a b : ℕ) → a < 256 → product_bits n a b < 256
unfolding product_bits
product_lt zero a b h = omega arith
product_lt (suc n) a b h =
    xor_lt 8 (b % 2 * a) (product_bits n (times_x a) (b / 2)) (bit_times_lt (b % 2) a 255 (odd_lt b) h) (product_lt n (times_x a) (b / 2) (times_x_lt a h))

pub product_xor_r : (n a b c : ℕ) → product_bits n a (bit_xor b c) ≡ bit_xor (product_bits n a b) (product_bits n a c)
unfolding product_bits
product_xor_r zero a b c = refl
product_xor_r (suc n) a b c =
    ap₂ bit_xor (ap (λ (d : ℕ). d * a) (xor_odd b c) ∙ times (b % 2) (c % 2) a (odd_lt b) (odd_lt c))
    (ap (product_bits n (times_x a)) (xor_half b c) ∙ product_xor_r n (times_x a) (b / 2) (c / 2))
    ∙ xor_four (b % 2 * a) (c % 2 * a) (product_bits n (times_x a) (b / 2)) (product_bits n (times_x a) (c / 2))

pub product_xor_l : (n a b c : ℕ) → product_bits n (bit_xor a b) c ≡ bit_xor (product_bits n a c) (product_bits n b c)
unfolding product_bits
product_xor_l zero a b c = refl
product_xor_l (suc n) a b c =
    ap₂ bit_xor (bit_times_xor (c % 2) a b (odd_lt c))
    (ap (λ (x : ℕ). product_bits n x (c / 2)) (times_x_xor a b) ∙ product_xor_l n (times_x a) (times_x b) (c / 2))
    ∙ xor_four (c % 2 * a) (c % 2 * b) (product_bits n (times_x a) (c / 2)) (product_bits n (times_x b) (c / 2))

pub product_times_x : (n a b : ℕ) → product_bits n (times_x a) b ≡ times_x (product_bits n a b)
unfolding product_bits
product_times_x zero a b = sym times_x_zero
product_times_x (suc n) a b =
    ap₂ bit_xor (sym (bit_times_of times_x (b % 2) a times_x_zero (odd_lt b))) (product_times_x n (times_x a) (b / 2))
    ∙ sym (times_x_xor (b % 2 * a) (product_bits n (times_x a) (b / 2)))

pub product_zero_r : (n a : ℕ) → product_bits n a 0 ≡ 0
unfolding product_bits
product_zero_r zero a = refl
product_zero_r (suc n) a = ap₂ bit_xor (zero-mul a) (product_zero_r n (times_x a))

pub product_zero_l : (n b : ℕ) → product_bits n 0 b ≡ 0
unfolding product_bits
product_zero_l zero b = refl
product_zero_l (suc n) b =
    ap₂ bit_xor (native.Mathlib.Nat.mul-zero (b % 2)) (ap (λ (x : ℕ). product_bits n x (b / 2)) times_x_zero ∙ product_zero_l n (b / 2))

-- the element is 2
pub product_two : (a : ℕ) → product a 2 ≡ times_x a
unfolding product_bits
product_two a =
    ap₂ bit_xor (zero-mul a) (ap₂ bit_xor (one-mul (times_x a)) (product_zero_r 6 (times_x (times_x a))) ∙ xor_zero_r (times_x a)) ∙ xor_zero_l (times_x a)

-- n times in a row: the product with power n, as Powers.antt shows
unfoldable pub scaled : ℕ → ℕ → ℕ
scaled zero a = a
scaled (suc n) a = times_x (scaled n a)

pub scaled_xor : (n a b : ℕ) → scaled n (bit_xor a b) ≡ bit_xor (scaled n a) (scaled n b)
unfolding scaled
scaled_xor zero a b = refl
scaled_xor (suc n) a b = ap times_x (scaled_xor n a b) ∙ times_x_xor (scaled n a) (scaled n b)

pub scaled_lt : (n a : ℕ) → a < 256 → scaled n a < 256
unfolding scaled
scaled_lt zero a h = h
scaled_lt (suc n) a h = times_x_lt (scaled n a) (scaled_lt n a h)

pub scaled_zero : (n : ℕ) → scaled n 0 ≡ 0
unfolding scaled
scaled_zero zero = refl
scaled_zero (suc n) = ap times_x (scaled_zero n) ∙ times_x_zero

pub scaled_add : (m n a : ℕ) → scaled (m + n) a ≡ scaled m (scaled n a)
unfolding scaled
scaled_add zero n a = ap (λ (k : ℕ). scaled k a) (zero-add n)
scaled_add (suc m) n a = ap (λ (k : ℕ). scaled k a) (suc-add m n) ∙ ap times_x (scaled_add m n a)

pub scaled_times_x : (n a : ℕ) → scaled n (times_x a) ≡ times_x (scaled n a)
unfolding scaled
scaled_times_x zero a = refl
scaled_times_x (suc n) a = ap times_x (scaled_times_x n a)

pub power_scaled : (n : ℕ) → power n ≡ scaled n 1
unfolding power scaled
power_scaled zero = refl
power_scaled (suc n) = product_two (power n) ∙ ap times_x (power_scaled n)

pub power_lt : (n : ℕ) → power n < 256
power_lt n = subst⁻¹ (λ (x : ℕ). x < 256) (power_scaled n) (scaled_lt n 1 (omega arith))

pub scaled_power : (m n : ℕ) → scaled m (power n) ≡ power (m + n)
scaled_power m n = ap (scaled m) (power_scaled n) ∙ sym (scaled_add m n 1) ∙ sym (power_scaled (m + n))

pub product_scaled : (n a b : ℕ) → product (scaled n a) b ≡ scaled n (product a b)
unfolding scaled
product_scaled zero a b = refl
product_scaled (suc n) a b = product_times_x 8 (scaled n a) b ∙ ap times_x (product_scaled n a b)
