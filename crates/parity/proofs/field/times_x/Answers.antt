-- `parity::field::times_x` meets its contract. Assumes nothing.
use mathlib.Core.Path.{sym}
use Rattle.parity.proofs.FieldLaws.{times_x_byte}
use Rattle.parity.proofs.field.times_x.Goals as goal

pub returns : goal.returns
returns c = sym (times_x_byte c.args.a c.ranges.a.fits)
