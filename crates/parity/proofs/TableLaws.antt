-- Multiples of an element: by halves, and by the low and the high four bits. Assumes nothing.
use mathlib.Core.Path.{◌≡◌, refl, sym, ap, ap₂, ◌∙◌}
use Prim.Native.Nat.{ℕ, zero, suc, ◌*◌, ◌/◌, ◌%◌, ◌^◌, ◌<◌}
use native.Mathlib.Nat.{zero-mul, pow-suc}
use native.Mathlib.Omega.{arith}
use lib.Arith.{lt-one}
use lib.ListN.{get_or, replicate}
use Rattle.laws.proofs.Mapped.{Mapped}
use lib.Bits.{bit_xor, xor_zero_r, xor_comm, xor_shifted}
use Rattle.parity.specs.Field.{times_x, product_bits, product, power}
use Rattle.parity.proofs.FieldLaws.{product_xor_r, product_zero_r, product_times_x, product_scaled, scaled, power_scaled}
use Rattle.parity.proofs.Powers.{product_power}

-- bits that are not there add nothing
product_more : (n a b : ℕ) → b < 2 ^ n → product_bits (suc n) a b ≡ product_bits n a b
unfolding product_bits
product_more zero a b h = ap (λ (x : ℕ). bit_xor (x % 2 * a) 0) (lt-one h) ∙ ap (λ (x : ℕ). bit_xor x 0) (zero-mul a)
product_more (suc n) a b h =
    ap (bit_xor (b % 2 * a)) (product_more n (times_x a) (b / 2) (omega (arith, pow-suc 2 n)))

lowest : (c k : ℕ) → product c k ≡ bit_xor (k % 2 * c) (product_bits 7 (times_x c) (k / 2))
unfolding product_bits
lowest c k = refl

pub product_half : (c k : ℕ) → k < 256 → product c k ≡ bit_xor (times_x (product c (k / 2))) (k % 2 * c)
product_half c k h =
    lowest c k ∙ xor_comm (k % 2 * c) (product_bits 7 (times_x c) (k / 2))
    ∙ ap (λ (x : ℕ). bit_xor x (k % 2 * c)) (product_times_x 7 c (k / 2) ∙ ap times_x (sym (product_more 7 c (k / 2) (omega arith))))

-- a number that is even
product_double : (c h : ℕ) → h < 128 → product c (h * 2) ≡ times_x (product c h)
product_double c h l =
    let half : h * 2 / 2 ≡ h = omega arith in
    let even : h * 2 % 2 ≡ 0 = omega arith in
    product_half c (h * 2) (omega arith)
    ∙ ap₂ (λ (x y : ℕ). bit_xor (times_x (product c x)) (y * c)) half even
    ∙ ap (bit_xor (times_x (product c h))) (zero-mul c) ∙ xor_zero_r (times_x (product c h))

-- by four bits
product_sixteen : (c h : ℕ) → h < 16 → product c (h * 16) ≡ scaled 4 (product c h)
unfolding scaled
product_sixteen c h l =
    let e : h * 16 ≡ h * 2 * 2 * 2 * 2 = omega arith in
    ap (product c) e ∙ product_double c (h * 2 * 2 * 2) (omega arith) ∙ ap times_x (product_double c (h * 2 * 2) (omega arith))
    ∙ ap (λ (x : ℕ). times_x (times_x x)) (product_double c (h * 2) (omega arith)) ∙ ap (λ (x : ℕ). times_x (times_x (times_x x))) (product_double c h (omega arith))

pub product_nibbles : (c a : ℕ) → c < 256 → a < 256 → product c a ≡ bit_xor (product c (a % 16)) (product (product (power 4) c) (a / 16))
product_nibbles c a hc ha =
    let parts : bit_xor (a / 16 * 16) (a % 16) ≡ a = xor_shifted (a / 16) 4 (a % 16) (omega arith) ∙ omega arith in
    let high : product c (a / 16 * 16) ≡ product (product (power 4) c) (a / 16) = product_sixteen c (a / 16) (omega arith)
    ∙ sym (product_scaled 4 c (a / 16)) ∙ ap (λ (x : ℕ). product x (a / 16)) (sym (product_power 4 c hc)) in
    ap (product c) (sym parts) ∙ product_xor_r 8 c (a / 16 * 16) (a % 16) ∙ ap (λ (x : ℕ). bit_xor x (product c (a % 16))) high
    ∙ xor_comm (product (product (power 4) c) (a / 16)) (product c (a % 16))

-- 1 / (1 + x) is the sum of five powers
five_scaled : bit_xor (bit_xor (bit_xor (bit_xor (scaled 7 1) (scaled 6 1)) (scaled 5 1)) (scaled 4 1)) (scaled 2 1) ≡ scaled 230 1
unfolding scaled times_x
five_scaled = refl

pub five_powers : bit_xor (bit_xor (bit_xor (bit_xor (power 7) (power 6)) (power 5)) (power 4)) (power 2) ≡ power 230
five_powers =
    ap₂ bit_xor (ap₂ bit_xor (ap₂ bit_xor (ap₂ bit_xor (power_scaled 7) (power_scaled 6)) (power_scaled 5)) (power_scaled 4)) (power_scaled 2)
    ∙ five_scaled ∙ sym (power_scaled 230)

-- a table that is made from entry 1 on: entry 0 is 0
pub multiples_none : (c : ℕ) → Mapped (product c) (replicate 16 0) 1 (replicate 16 0)
multiples_none c =
    record {
      size = refl;
      done = λ u h. let z : u ≡ 0 = omega arith in ap (λ (k : ℕ). get_or (replicate 16 0) k 0) z ∙ sym (product_zero_r 8 c) ∙ ap (product c) (sym z);
      rest = λ u h. refl;
    }
