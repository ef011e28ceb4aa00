-- Functions that are linear over xor: two that agree on the powers of two below 2 ^ n agree below it, so that a test of each bit shows
-- them equal. Assumes nothing.
use mathlib.Core.Path.{◌≡◌, refl, sym, ap, ap₂, ◌∙◌, subst}
use Prim.Native.Nat.{ℕ, zero, suc, ◌+◌, ◌*◌, ◌/◌, ◌%◌, ◌^◌, ◌<◌}
use native.Mathlib.Nat.{zero-mul, one-mul, mod-lt, add-zero}
use native.Mathlib.Omega.{arith}
use lib.Arith.{lt-one}
use lib.Pow.{split, pow_pos, shr_lt}
use lib.Bits.{bit_xor, xor_self, xor_shifted, xor_mod, xor_shr, xor_block}
use Rattle.laws.proofs.Xor.{xor_four, past}

abbrev pub Linear : (ℕ → ℕ) → Type 0
Linear f = (x y : ℕ) → f (bit_xor x y) ≡ bit_xor (f x) (f y)

pub same : Linear (λ x. x)
same x y = refl

pub plus : (f g : ℕ → ℕ) → Linear f → Linear g → Linear (λ x. bit_xor (f x) (g x))
plus f g hf hg x y = ap₂ bit_xor (hf x y) (hg x y) ∙ xor_four (f x) (f y) (g x) (g y)

pub up : (k : ℕ) (f : ℕ → ℕ) → Linear f → Linear (λ x. f x * 2 ^ k % 2 ^ 64)
up k f h x y =
    ap (λ (z : ℕ). z * 2 ^ k % 2 ^ 64) (h x y)
    ∙ ap (λ (z : ℕ). z % 2 ^ 64) (sym (times (f x) (f y))) ∙ xor_mod (f x * 2 ^ k) (f y * 2 ^ k) 64
  where
    times : (a b : ℕ) → bit_xor (a * 2 ^ k) (b * 2 ^ k) ≡ bit_xor a b * 2 ^ k
    times a b =
        ap₂ bit_xor (sym (add-zero (a * 2 ^ k))) (sym (add-zero (b * 2 ^ k)))
        ∙ xor_block k a b 0 0 (pow_pos k) (pow_pos k) ∙ add-zero (bit_xor a b * 2 ^ k)

pub low : (k : ℕ) (f : ℕ → ℕ) → Linear f → Linear (λ x. f x % 2 ^ k)
low k f h x y = ap (λ (z : ℕ). z % 2 ^ k) (h x y) ∙ xor_mod (f x) (f y) k

pub down : (k : ℕ) (f : ℕ → ℕ) → Linear f → Linear (λ x. f x / 2 ^ k)
down k f h x y = ap (λ (z : ℕ). z / 2 ^ k) (h x y) ∙ xor_shr (f x) (f y) k

module _ (f g : ℕ → ℕ) (hf : Linear f) (hg : Linear g) where
  at_zero : f 0 ≡ g 0
  at_zero = hf 0 0 ∙ xor_self (f 0) ∙ sym (hg 0 0 ∙ xor_self (g 0))

  at_bit : (n q : ℕ) → f (2 ^ n) ≡ g (2 ^ n) → q < 2 → f (q * 2 ^ n) ≡ g (q * 2 ^ n)
  at_bit n zero e hq = rw zero-mul at_zero
  at_bit n (suc zero) e hq = rw one-mul e
  at_bit n (suc (suc q)) e hq = past hq

  pub agree : (n : ℕ) → ((k : ℕ) → k < n → f (2 ^ k) ≡ g (2 ^ k)) → (x : ℕ) → x < 2 ^ n → f x ≡ g x
  agree zero t x h = subst (λ (y : ℕ). f y ≡ g y) (sym (lt-one h)) at_zero
  agree (suc n) t x h =
      subst (λ (y : ℕ). f y ≡ g y) (xor_shifted (x / 2 ^ n) n (x % 2 ^ n) small ∙ split x n)
      (hf (x / 2 ^ n * 2 ^ n) (x % 2 ^ n)
      ∙ ap₂ bit_xor (at_bit n (x / 2 ^ n) (t n one) (shr_lt 1 n (subst (λ (m : ℕ). x < 2 ^ m) e h)))
      (agree n (λ k q. t k (omega arith)) (x % 2 ^ n) small)
      ∙ sym (hg (x / 2 ^ n * 2 ^ n) (x % 2 ^ n)))
    where
      small : x % 2 ^ n < 2 ^ n
      small = mod-lt x (pow_pos n)

      e : suc n ≡ 1 + n
      e = omega arith

      one : n < suc n
      one = omega arith
