-- `parity::field::product` meets its contract. Assumes nothing.
use mathlib.Core.Path.{◌≡◌, sym, ap, ◌∙◌, subst⁻¹}
use Prim.Native.Nat.{ℕ, suc, ◌<◌, ◌-◌, ◌+◌, ◌*◌, ◌/◌, ◌%◌}
use native.Mathlib.Omega.{arith}
use lib.Bits.{bit_xor, xor_zero_r}
use Rattle.laws.proofs.Xor.{xor_assoc}
use Rattle.parity.specs.Field.{times_x, product_bits}
use Rattle.parity.proofs.FieldLaws.{times_x_lt}
use Rattle.parity.proofs.field.product.Goals as goal

pub loop-preserved : goal.loop-preserved
unfolding product_bits
loop-preserved c =
    let l = c.loop in
    let e : 8 - l.counter ≡ suc (8 - (l.counter + 1)) = omega arith in
    record {
      byte = subst⁻¹ (λ (x : ℕ). x < 256) c.times_x-x.ensures (times_x_lt l.x l.invariant.byte);
      whole = ap (λ (x : ℕ). bit_xor (bit_xor l.sum (l.y % 2 * l.x)) (product_bits (8 - (l.counter + 1)) x (l.y / 2))) c.times_x-x.ensures
          ∙ xor_assoc l.sum (l.y % 2 * l.x) (product_bits (8 - (l.counter + 1)) (times_x l.x) (l.y / 2))
          ∙ ap (λ (n : ℕ). bit_xor l.sum (product_bits n l.x l.y)) (sym e) ∙ l.invariant.whole;
    }

pub returns : goal.returns
unfolding product_bits
returns c =
    let l = c.loop in
    let e : 0 ≡ 8 - l.counter = omega arith in
    sym (xor_zero_r l.sum) ∙ ap (λ (n : ℕ). bit_xor l.sum (product_bits n l.x l.y)) e ∙ l.invariant.whole
