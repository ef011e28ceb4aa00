-- One bit, as a number below 2, and xor: a bit of a sum, a bit times a sum, and a sum moved up by a place. Assumes nothing.
use mathlib.Core.Path.{◌≡◌, sym, ap, ap₂, ◌∙◌, subst⁻¹}
use Prim.Native.Nat.{ℕ, zero, suc, ◌*◌, ◌/◌, ◌%◌, ◌^◌, ◌<◌}
use native.Mathlib.Nat.{zero-mul, one-mul, add-zero, zero-lt-suc}
use lib.Bits.{bit_xor, differ, xor_shr, xor_block}
use Rattle.laws.proofs.Xor.{xor_odd, past}

pub bit-xor : (k a b : ℕ) → bit_xor a b / 2 ^ k % 2 ≡ differ (a / 2 ^ k % 2) (b / 2 ^ k % 2)
bit-xor k a b = ap (λ (x : ℕ). x % 2) (xor_shr a b k) ∙ xor_odd (a / 2 ^ k) (b / 2 ^ k)

pub bit_times_xor : (x p q : ℕ) → x < 2 → x * bit_xor p q ≡ bit_xor (x * p) (x * q)
bit_times_xor zero p q h = zero-mul (bit_xor p q) ∙ sym (ap₂ bit_xor (zero-mul p) (zero-mul q))
bit_times_xor (suc zero) p q h = one-mul (bit_xor p q) ∙ sym (ap₂ bit_xor (one-mul p) (one-mul q))
bit_times_xor (suc (suc x)) p q h = past h

-- what a function gives of 0 is 0: then it gives of a bit times a the bit times what it gives of a
pub bit_times_of : (f : ℕ → ℕ) (x a : ℕ) → f 0 ≡ 0 → x < 2 → f (x * a) ≡ x * f a
bit_times_of f zero a z h = ap f (zero-mul a) ∙ z ∙ sym (zero-mul (f a))
bit_times_of f (suc zero) a z h = ap f (one-mul a) ∙ sym (one-mul (f a))
bit_times_of f (suc (suc x)) a z h = past h

pub bit_times_lt : (x a n : ℕ) → x < 2 → a < suc n → x * a < suc n
bit_times_lt zero a n h k = subst⁻¹ (λ (y : ℕ). y < suc n) (zero-mul a) (zero-lt-suc n)
bit_times_lt (suc zero) a n h k = subst⁻¹ (λ (y : ℕ). y < suc n) (one-mul a) k
bit_times_lt (suc (suc x)) a n h k = past h

pub double_xor : (a b : ℕ) → bit_xor a b * 2 ≡ bit_xor (a * 2) (b * 2)
double_xor a b =
    sym (add-zero (bit_xor a b * 2)) ∙ sym (xor_block 1 a b 0 0 (zero-lt-suc 1) (zero-lt-suc 1)) ∙ ap₂ bit_xor (add-zero (a * 2)) (add-zero (b * 2))
