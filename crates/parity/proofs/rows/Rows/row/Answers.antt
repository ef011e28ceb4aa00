-- `parity::rows::Rows::row` meets its contract. Assumes nothing.
use native.Mathlib.Omega.{arith}
use Rattle.parity.proofs.RowLaws.{row_first, row_other}
use Rattle.parity.proofs.rows.Rows.row.Goals as goal

pub returns-then-i-eq0 : goal.returns-then-i-eq0
returns-then-i-eq0 c = row_first c.args.self.now.first c.args.self.now.sector.now c.args.i c.if-i-eq0.true (omega arith)

pub returns-else-i-eq0 : goal.returns-else-i-eq0
returns-else-i-eq0 c = row_other c.args.self.now.first c.args.self.now.sector.now c.args.i c.if-i-eq0.false c.requires (omega arith)
