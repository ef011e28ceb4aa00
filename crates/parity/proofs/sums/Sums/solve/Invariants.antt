-- The loop of `parity::sums::Sums::solve`: the words before `v` have their two symbols. Assumes nothing.
use Prim.Native.Nat.{ℕ}
use lib.ListN.{get_or}
use lib.Bits.{bit_xor}
use Rattle.laws.proofs.Mapped.{Mapped}
use Rattle.parity.specs.Rows.{first_of_sums}
use Rattle.parity.proofs.sums.Sums.solve.Given as goal

abbrev pub invariant-loop-v : goal.invariant-loop-v
invariant-loop-v g l =
    record {
      firsts : Mapped (λ (u : ℕ). first_of_sums (get_or l.self.plain u 0) (get_or l.self.weighted u 0)) l.initial.first l.v l.first;
      seconds : Mapped (λ (u : ℕ). bit_xor (first_of_sums (get_or l.self.plain u 0) (get_or l.self.weighted u 0)) (get_or l.self.plain u 0)) l.initial.second l.v l.second;
    }
