-- Equations between sums by xor, decided by which operands each has an odd number of times. Assumes nothing.
use mathlib.Core.Path.{◌≡◌, refl, sym, ap, ap₂, ◌∙◌}
use mathlib.Core.List.{List, [], ◌∷◌}
use Prim.Native.Nat.{ℕ, zero, suc, ◌*◌, ◌/◌, ◌%◌, ◌^◌, ◌<◌}
use native.Mathlib.Nat.{zero-mul, one-mul, pow-suc}
use native.Mathlib.Omega.{arith}
use lib.ListN.{get_or}
use lib.Bits.{bit_xor, differ, xor_zero_l, xor_zero_r, xor_self}
use Rattle.laws.proofs.Xor.{xor_half, xor_odd, xor_four, odd_lt, past}

-- one of two bits, each times p
pub times : (x y p : ℕ) → x < 2 → y < 2 → differ x y * p ≡ bit_xor (x * p) (y * p)
times zero y p hx hy = sym (ap (λ (z : ℕ). bit_xor z (y * p)) (zero-mul p))
times (suc zero) zero p hx hy = sym (ap (bit_xor (1 * p)) (zero-mul p) ∙ xor_zero_r (1 * p))
times (suc zero) (suc zero) p hx hy = zero-mul p ∙ sym (xor_self (1 * p))
times (suc zero) (suc (suc y)) p hx hy = past hy
times (suc (suc x)) y p hx hy = past hx

-- operand k of a list, and the sum of two
pub data Sum : Type 0 where
  op : ℕ → Sum
  ◌⊕◌ : Sum → Sum → Sum

infixl 30 ◌⊕◌
abbrev pub value : List ℕ → Sum → ℕ
value e (op k) = get_or e k 0
value e (a ⊕ b) = bit_xor (value e a) (value e b)

-- bit k: operand k is there an odd number of times
abbrev pub odds : Sum → ℕ
odds (op k) = 2 ^ k
odds (a ⊕ b) = bit_xor (odds a) (odds b)

chosen : List ℕ → ℕ → ℕ
chosen [] m = 0
chosen (x ∷ e) m = bit_xor (m % 2 * x) (chosen e (m / 2))

chosen_zero : (e : List ℕ) → chosen e 0 ≡ 0
unfolding chosen
chosen_zero [] = refl
chosen_zero (x ∷ e) = ap₂ bit_xor (zero-mul x) (chosen_zero e)

chosen_op : (e : List ℕ) (k : ℕ) → chosen e (2 ^ k) ≡ get_or e k 0
unfolding chosen
chosen_op [] k = refl
chosen_op (x ∷ e) zero = ap₂ bit_xor (one-mul x) (chosen_zero e) ∙ xor_zero_r x
chosen_op (x ∷ e) (suc k) =
    let h : 2 ^ suc k / 2 ≡ 2 ^ k = omega (arith, pow-suc 2 k) in
    let o : 2 ^ suc k % 2 ≡ 0 = omega (arith, pow-suc 2 k) in
    ap₂ (λ (a b : ℕ). bit_xor (a * x) (chosen e b)) o h ∙ ap₂ bit_xor (zero-mul x) (chosen_op e k) ∙ xor_zero_l (get_or e k 0)

chosen_xor : (e : List ℕ) (a b : ℕ) → chosen e (bit_xor a b) ≡ bit_xor (chosen e a) (chosen e b)
unfolding chosen
chosen_xor [] a b = refl
chosen_xor (x ∷ e) a b =
    ap₂ bit_xor (ap (λ (d : ℕ). d * x) (xor_odd a b) ∙ times (a % 2) (b % 2) x (odd_lt a) (odd_lt b))
    (ap (chosen e) (xor_half a b) ∙ chosen_xor e (a / 2) (b / 2))
    ∙ xor_four (a % 2 * x) (b % 2 * x) (chosen e (a / 2)) (chosen e (b / 2))

value_chosen : (e : List ℕ) (a : Sum) → value e a ≡ chosen e (odds a)
value_chosen e (op k) = sym (chosen_op e k)
value_chosen e (a ⊕ b) = ap₂ bit_xor (value_chosen e a) (value_chosen e b) ∙ sym (chosen_xor e (odds a) (odds b))

pub sums : (e : List ℕ) (a b : Sum) → odds a ≡ odds b → value e a ≡ value e b
sums e a b h = value_chosen e a ∙ ap (chosen e) h ∙ sym (value_chosen e b)
