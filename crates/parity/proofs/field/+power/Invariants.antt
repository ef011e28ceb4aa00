-- The calls of `parity::field::power` by itself: the exponent goes down. Assumes nothing.
use Rattle.parity.proofs.field.+power.Given as goal

abbrev pub decreases-power : goal.decreases-power
decreases-power l = l.n
