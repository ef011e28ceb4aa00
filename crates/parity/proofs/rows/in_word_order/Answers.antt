-- `parity::rows::in_word_order` meets its contract. Assumes nothing.
use native.Mathlib.Omega.{arith}
use Rattle.laws.proofs.Listed.{listed_of}
use Rattle.parity.proofs.rows.in_word_order.Goals as goal

pub returns : goal.returns
returns c =
    let l = c.loop-v in
    record {
      plain = listed_of 52 _ l.ordered.plain l.invariant.plain.size (λ k h. l.invariant.plain.done k (omega arith));
      weighted = listed_of 52 _ l.ordered.weighted l.invariant.weighted.size (λ k h. l.invariant.weighted.done k (omega arith));
    }
