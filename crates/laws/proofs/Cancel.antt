-- Operands of xor that go: equal numbers from sums that are equal. Assumes nothing.
use mathlib.Core.Path.{◌≡◌, sym, ap, ◌∙◌}
use Prim.Native.Nat.{ℕ}
use lib.Bits.{bit_xor, xor_comm, xor_zero_l}
use Rattle.laws.proofs.Xor.{xor_cancel}

pub same_of_xor : (a b : ℕ) → bit_xor a b ≡ 0 → a ≡ b
same_of_xor a b e = sym (xor_cancel a b) ∙ ap (λ (x : ℕ). bit_xor x b) e ∙ xor_zero_l b

-- the same operand on one side of both may go
pub drop_right : (r a b : ℕ) → bit_xor a r ≡ bit_xor b r → a ≡ b
drop_right r a b e = sym (xor_cancel a r) ∙ ap (λ (x : ℕ). bit_xor x r) e ∙ xor_cancel b r

pub drop_left : (r a b : ℕ) → bit_xor r a ≡ bit_xor r b → a ≡ b
drop_left r a b e = drop_right r a b (xor_comm a r ∙ e ∙ xor_comm r b)
