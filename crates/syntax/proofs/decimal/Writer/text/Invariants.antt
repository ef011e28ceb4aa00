-- What holds in the loop of `syntax::decimal::Writer::text`: the bytes so far are written, into the same buffer. Assumes nothing.
use lib.ListN.{take}
use Rattle.syntax.specs.Print.{Wrote}
use Rattle.syntax.proofs.decimal.Writer.text.Given as goal

abbrev pub invariant-loop-byte : goal.invariant-loop-byte
invariant-loop-byte l = Wrote l.initial.self (take l.byte-index l.bytes) l.self
