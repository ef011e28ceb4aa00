-- The loop of `parity::field::product`: the sum so far and the product of what is left give the product. Assumes nothing.
use mathlib.Core.Path.{◌≡◌}
use Prim.Native.Nat.{◌<◌, ◌-◌}
use lib.Bits.{bit_xor}
use Rattle.parity.specs.Field.{product_bits, product}
use Rattle.parity.proofs.field.product.Given as goal

abbrev pub invariant-loop : goal.invariant-loop
invariant-loop l = record { byte : l.x < 256; whole : bit_xor l.sum (product_bits (8 - l.counter) l.x l.y) ≡ product l.a l.b }
