-- The loop of `parity::sums::Sums::fit`: `held` says whether all words before `v` hold. Assumes nothing.
use mathlib.Core.Path.{◌≡◌}
use Prim.Native.Nat.{ℕ}
use lib.ListN.{get_or}
use Rattle.laws.specs.Listed.{all_below}
use Rattle.parity.specs.Rows.{fits}
use Rattle.parity.proofs.sums.Sums.fit.Given as goal

abbrev pub invariant-loop-v : goal.invariant-loop-v
invariant-loop-v g l =
    l.held ≡ all_below l.v (λ (u : ℕ). fits (get_or l.self.plain u 0) (get_or l.self.weighted u 0) (get_or l.first u 0) (get_or l.second u 0))
