-- The loop of `ring::after`: a turn less is the same place. Assumes nothing.
use mathlib.Core.Path.{◌≡◌}
use Prim.Native.Nat.{◌+◌, ◌%◌}
use Rattle.ring.proofs.after.Given as goal

abbrev pub invariant-loop-place : goal.invariant-loop-place
invariant-loop-place l = l.place % l.turn ≡ (l.t + l.k) % l.turn

abbrev pub decreases-loop-place : goal.decreases-loop-place
decreases-loop-place l = l.place
