-- The loop of `parity::rows::Rows::meet`: the sums are of the symbols that the words meet before step `r`. Assumes nothing.
use Rattle.parity.specs.Rows.{view, AreSums, q_lane, met}
use Rattle.parity.proofs.rows.Rows.meet.Given as goal

abbrev pub invariant-loop-r : goal.invariant-loop-r
invariant-loop-r l = AreSums (q_lane (view l.self.first l.self.sector.now)) (met l.r) 52 l.sums.plain l.sums.weighted
