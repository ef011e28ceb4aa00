-- `ring::after` meets its contract: a turn less is the same place. Assumes nothing.
use mathlib.Core.Path.{sym, ◌∙◌}
use Prim.Native.Nat.{◌≤◌}
use native.Mathlib.Nat.{mod-eq-sub-mod}
use native.Mathlib.Omega.{arith}
use Rattle.ring.proofs.after.Goals as goal

pub loop-place-preserved : goal.loop-place-preserved
loop-place-preserved c =
    let l = c.loop-place in
    let whole : c.from-turn.result ≤ l.place = omega arith in
    sym (mod-eq-sub-mod whole) ∙ l.invariant
