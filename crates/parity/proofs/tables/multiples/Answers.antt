-- `parity::tables::multiples` meets its contract. Assumes nothing.
use mathlib.Core.Path.{refl, sym, ap, ap₂, ◌∙◌}
use Prim.Native.Nat.{ℕ, ◌/◌}
use native.Mathlib.Omega.{arith}
use lib.Bits.{bit_xor}
use lib.ListN.{get_or, replicate}
use Rattle.laws.proofs.Listed.{listed_of}
use Rattle.laws.proofs.Mapped.{mapped_more}
use Rattle.parity.proofs.TableLaws.{product_half, multiples_none}
use Rattle.parity.specs.Field.{times_x, product}
use Rattle.parity.proofs.tables.multiples.Goals as goal

pub loop-k-init : goal.loop-k-init
loop-k-init c = multiples_none c.args.c

pub loop-k-preserved : goal.loop-k-preserved
loop-k-preserved c =
    let l = c.loop-k in
    rw c.from-in-loop-k.ensures
    (mapped_more (product c.args.c) (replicate 16 0) l.t l.k _ l.invariant (omega (arith, l.invariant.size))
    (ap₂ bit_xor (c.times_x.ensures ∙ ap times_x (ap (λ (k : ℕ). get_or l.t k 0) c.from.ensures ∙ l.invariant.done (l.k / 2) (omega arith))) refl ∙ sym (product_half c.args.c l.k (omega arith))))

pub returns : goal.returns
returns c =
    let l = c.loop-k in
    listed_of 16 (product c.args.c) l.t l.invariant.size (λ k h. l.invariant.done k (omega arith))
