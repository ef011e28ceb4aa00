-- `parity::sums::Sums::solve` meets its contract. Assumes nothing.
use mathlib.Core.List.{List, ◌++◌}
use mathlib.Core.Path.{ap₂}
use Prim.Native.Nat.{ℕ}
use native.Mathlib.Omega.{arith}
use Rattle.laws.proofs.Listed.{listed_of}
use Rattle.parity.proofs.sums.Sums.solve.Goals as goal

pub returns : goal.returns
returns g c =
    let l = c.loop-v in
    ap₂ (λ (x y : List ℕ). x ++ y)
    (listed_of _ _ l.first (omega arith) (λ k h. l.invariant.firsts.done k (omega arith)))
    (listed_of _ _ l.second (omega arith) (λ k h. l.invariant.seconds.done k (omega arith)))
