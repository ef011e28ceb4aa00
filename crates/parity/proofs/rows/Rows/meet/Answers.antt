-- `parity::rows::Rows::meet` meets its contract. Assumes nothing.
use Prim.Native.Nat.{◌+◌, ◌-◌, ◌%◌}
use native.Mathlib.Omega.{arith}
use Rattle.parity.proofs.RowLaws.{q_row}
use Rattle.parity.specs.Rows.{view}
use Rattle.parity.proofs.rows.Rows.meet.Goals as goal

pub loop-r-preserved : goal.loop-r-preserved
loop-r-preserved c =
    let l = c.loop-r in
    let column = c.saturating_sub-column.result in
    let start = c.saturating_sub-start.result in
    let end = c.min-end.result in
    q_row (view c.args.self.now.first c.args.self.now.sector.now) l.r (l.r % 26) column start (end - start) (omega arith) (omega arith) (omega arith) (omega arith) (omega arith)
    (column + (end - start) - column) _ l.sums.plain l.sums.weighted _ _ (omega arith) c.row-row.ensures l.invariant c.take_in.ensures
