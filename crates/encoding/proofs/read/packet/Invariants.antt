-- The loop of `encoding::read::packet`: the bytes of the words before `i` are there. Assumes nothing.
use Rattle.encoding.proofs.Packet.{Bytes}
use Rattle.encoding.proofs.read.packet.Given as goal

abbrev pub invariant-loop-i : goal.invariant-loop-i
invariant-loop-i l = Bytes l.words l.bytes l.i
