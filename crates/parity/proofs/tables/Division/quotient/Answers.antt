-- `parity::tables::Division::quotient` meets its contract. Assumes nothing.
use mathlib.Core.List.{List}
use mathlib.Core.Path.{sym, ap₂, ◌∙◌}
use Prim.Native.Nat.{ℕ, ◌/◌, ◌%◌}
use native.Mathlib.Omega.{arith}
use lib.Bits.{bit_xor}
use lib.ListN.{get_or}
use Rattle.laws.proofs.Listed.{getD_listed}
use Rattle.parity.proofs.TableLaws.{product_nibbles}
use Rattle.parity.proofs.FieldLaws.{power_lt}
use Rattle.parity.specs.Field.{product, power}
use Rattle.parity.proofs.tables.Division.quotient.Goals as goal

pub returns : goal.returns
returns c =
    ap₂ bit_xor
    (ap₂ (λ (l : List ℕ) (k : ℕ). get_or l k 0) c.args.self.now.low_is c.from.ensures ∙ getD_listed 16 (product (power 230)) (c.args.a % 16) (omega arith))
    (ap₂ (λ (l : List ℕ) (k : ℕ). get_or l k 0) c.args.self.now.high_is c.from-2.ensures
    ∙ getD_listed 16 (product (product (power 4) (power 230))) (c.args.a / 16) (omega (arith, c.ranges.a.fits)))
    ∙ sym (product_nibbles (power 230) c.args.a (power_lt 230) c.ranges.a.fits)
