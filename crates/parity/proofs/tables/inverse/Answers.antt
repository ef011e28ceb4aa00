-- `parity::tables::inverse` meets its contract. Assumes nothing.
use Rattle.parity.proofs.TableLaws.{five_powers}
use Rattle.parity.proofs.tables.inverse.Goals as goal

pub returns : goal.returns
returns c = cc five_powers
