-- `syntax::decimal::Writer::text` meets its contract. Assumes nothing.
use mathlib.Core.Path.{◌∙◌}
use native.Mathlib.Omega.{arith}
use lib.ListN.{length-take}
use Rattle.syntax.proofs.Written.{same_length, more}
use Rattle.syntax.proofs.decimal.Writer.text.Goals as goal

pub byte-requires : goal.byte-requires
byte-requires c = let w = c.loop-byte.invariant.written in omega (arith, w.place, same_length w, length-take c.loop-byte.byte-index c.args.bytes.now)

pub loop-byte-preserved : goal.loop-byte-preserved
loop-byte-preserved c = record {
  same = c.byte.ensures.same ∙ c.loop-byte.invariant.same;
  written = more c.args.bytes.now c.loop-byte.byte-index (omega arith) c.loop-byte.invariant.written c.byte.ensures.written;
}
