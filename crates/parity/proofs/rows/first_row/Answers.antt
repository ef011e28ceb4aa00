-- `parity::rows::first_row` meets its contract. Assumes nothing.
use Rattle.parity.proofs.First.{as_it_is, with_zeros}
use Rattle.parity.proofs.rows.first_row.Goals as goal

pub returns-then-masked : goal.returns-then-masked
returns-then-masked c = with_zeros c.args.sector.now c.told-sector _ c.args.masked c.if-masked.true c.copy_from_slice.ensures.after

pub returns-else-masked : goal.returns-else-masked
returns-else-masked c = as_it_is c.args.sector.now c.told-sector _ c.args.masked c.if-masked.false c.copy_from_slice-else-masked.ensures.after
