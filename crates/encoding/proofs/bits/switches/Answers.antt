-- `encoding::bits::switches` meets its contract. Assumes nothing.
use Rattle.std.proofs.Common.{arith}
use Rattle.encoding.proofs.Switches.{more, fits}
use Rattle.encoding.proofs.bits.switches.Goals as goal

pub overflow_add-word : goal.overflow_add-word
overflow_add-word g c = record { fits = fits c.args.on c.loop-k.k (omega arith) (omega arith) c.loop-k.word c.loop-k.invariant c.from.ensures }

pub loop-k-preserved : goal.loop-k-preserved
loop-k-preserved g c = more c.args.on c.loop-k.k (omega arith) (omega arith) c.loop-k.word c.loop-k.invariant c.from.ensures
