-- `burst::inside` meets its contract: the words lie in the ring, and their number in sixteen bits. Assumes nothing.
use Rattle.std.proofs.Common.{length, arith}
use Rattle.burst.proofs.Blocks.{ahead_end, ahead_small}
use Rattle.burst.proofs.inside.Goals as goal

pub overflow_cast-count : goal.overflow_cast-count
overflow_cast-count c = record { fits = omega (arith, ahead_small c.args.chip c.args.ring.now (length c.args.out.now) c.requires.out_nonzero c.requires.out_len_bound) }

pub copy_words-requires : goal.copy_words-requires
copy_words-requires c = omega (arith, c.window_start.ensures, c.from.ensures, ahead_end c.args.chip c.args.ring.now (length c.args.out.now) c.requires.out_nonzero c.requires.out_len_bound)

pub advanced-requires : goal.advanced-requires
advanced-requires c = ahead_small c.args.chip c.args.ring.now (length c.args.out.now) c.requires.out_nonzero c.requires.out_len_bound
