-- The loop of `parity::rows::in_word_order`: the sums of the words before `v` stand in their order. Assumes nothing.
use Prim.Native.Nat.{ℕ, ◌+◌, ◌*◌, ◌-◌, ◌/◌, ◌%◌}
use lib.ListN.{get_or, replicate}
use Rattle.laws.proofs.Mapped.{Mapped}
use Rattle.parity.proofs.rows.in_word_order.Given as goal

abbrev pub invariant-loop-v : goal.invariant-loop-v
invariant-loop-v l =
    record {
      plain : Mapped (λ (k : ℕ). get_or l.sums.plain (50 - 2 * (k / 2) + k % 2) 0) (replicate 52 0) l.v l.ordered.plain;
      weighted : Mapped (λ (k : ℕ). get_or l.sums.weighted (50 - 2 * (k / 2) + k % 2) 0) (replicate 52 0) l.v l.ordered.weighted;
    }
