-- `parity::rows::Rows::q_sums` meets its contract. Assumes nothing.
use native.Mathlib.Omega.{arith}
use Rattle.parity.proofs.Coded.{q_summed}
use Rattle.parity.proofs.Lanes.{sums_none}
use Rattle.parity.proofs.RowLaws.{q_whole}
use Rattle.parity.specs.Rows.{view, met}
use Rattle.parity.proofs.rows.Rows.q_sums.Goals as goal

pub meet-requires-clause-before : goal.meet-requires-clause-before
meet-requires-clause-before c = sums_none _ (met 0) 52 _ _ c.none-sums.ensures.0 c.none-sums.ensures.1 (λ u h. omega arith)

pub returns : goal.returns
returns c =
    λ z e.
    q_summed z c.args.self.now.sector.now _ _ _ e _ _ c.in_word_order.ensures.plain c.in_word_order.ensures.weighted
    (q_whole (view c.args.self.now.first c.args.self.now.sector.now) 68 _ _ (omega arith) c.meet-3.ensures)
