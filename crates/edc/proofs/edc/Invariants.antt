-- The loop of `edc::edc`: the ring's register, with what is left of the bytes, gives the code. Assumes nothing.
use mathlib.Core.Path.{◌≡◌}
use Prim.Native.Nat.{◌+◌, ◌*◌, ◌%◌}
use lib.ListN.{length, drop}
use Rattle.edc.specs.Edc.{edc}
use Rattle.edc.specs.Fold.{held}
use Rattle.edc.proofs.edc.Given as goal

abbrev pub invariant-loop-run : goal.invariant-loop-run
invariant-loop-run l = edc (held l.ring.words 0) (drop (length l.bytes % 256 + 256 * l.run-index) l.bytes) ≡ edc 0 l.bytes
