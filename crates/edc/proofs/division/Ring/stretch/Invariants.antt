-- The loop of `edc::division::Ring::stretch`: the ring's register, with what is left of the run, gives the code. Assumes nothing.
use mathlib.Core.Path.{◌≡◌}
use Prim.Native.Nat.{◌*◌}
use lib.ListN.{drop}
use Rattle.edc.specs.Edc.{edc}
use Rattle.edc.specs.Fold.{held}
use Rattle.edc.proofs.division.Ring.stretch.Given as goal

abbrev pub invariant-loop-i : goal.invariant-loop-i
invariant-loop-i l = edc (held l.self.words l.i) (drop (8 * l.i) l.run) ≡ edc (held l.initial.self.words l.start) (drop (8 * l.start) l.run)
