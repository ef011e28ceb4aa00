-- The loop of `parity::sums::Sums::take_in`: the symbols before `v` are taken in. Assumes nothing.
use Prim.Native.Nat.{ℕ}
use lib.ListN.{get_or}
use Rattle.parity.specs.Rows.{Taken}
use Rattle.parity.proofs.sums.Sums.take_in.Given as goal

abbrev pub invariant-loop-v : goal.invariant-loop-v
invariant-loop-v g l =
    Taken (λ (u : ℕ). get_or l.symbols u 0) l.k l.v l.initial.self.plain l.initial.self.weighted l.self.plain l.self.weighted
