-- The loop of `encoding::bits::switches`: the switches so far and those to come are all. Assumes nothing.
use Rattle.std.proofs.Common.{◌≡◌, ◌+◌, ◌*◌, ◌^◌, drop}
use Rattle.laws.specs.Numbers.{switches}
use Rattle.encoding.proofs.bits.switches.Given as goal

abbrev pub invariant-loop-k : goal.invariant-loop-k
invariant-loop-k g l = l.word + 2 ^ l.k * switches (drop l.k l.fn.on) ≡ switches l.fn.on
