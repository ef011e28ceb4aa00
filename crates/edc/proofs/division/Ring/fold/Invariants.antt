-- The loop of `edc::division::Ring::fold`: the words from `i` on leave the register that those from `start` on left. Assumes nothing.
use mathlib.Core.Path.{◌≡◌}
use Prim.Native.Nat.{◌-◌}
use Rattle.edc.specs.Fold.{code, along}
use Rattle.edc.proofs.division.Ring.fold.Given as goal

abbrev pub invariant-loop-i : goal.invariant-loop-i
invariant-loop-i l = code (along l.self.words l.i) (32 - l.i) ≡ code (along l.initial.self.words l.start) (32 - l.start)
