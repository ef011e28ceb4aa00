-- The loop of `parity::rows::Rows::p_sums`: the sums are of the first `i` symbols of each word. Assumes nothing.
use Prim.Native.Nat.{ℕ}
use Rattle.parity.specs.Rows.{view, AreSums, p_lane}
use Rattle.parity.proofs.rows.Rows.p_sums.Given as goal

abbrev pub invariant-loop-i : goal.invariant-loop-i
invariant-loop-i l = AreSums (p_lane (view l.self.first l.self.sector.now)) (λ (u : ℕ). l.i) 86 l.sums.plain l.sums.weighted
