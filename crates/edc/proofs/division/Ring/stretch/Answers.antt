-- `edc::division::Ring::stretch` meets its contract: the ring takes one more word of the run. Assumes nothing.
use mathlib.Core.Path.{◌≡◌, refl, ap₂, ◌∙◌}
use Prim.Native.Nat.{ℕ, ◌+◌, ◌*◌}
use native.Mathlib.Omega.{arith}
use lib.ListN.{drop}
use Rattle.edc.specs.Edc.{edc}
use Rattle.edc.specs.Fold.{held}
use Rattle.edc.proofs.Ring.{ring_next}
use Rattle.edc.proofs.division.Ring.stretch.Goals as goal

pub loop-i-preserved : goal.loop-i-preserved
loop-i-preserved c = let l = c.loop-i in
    let i = l.i in
    let n : 8 * (i + 1) ≡ 8 * i + 8 = omega arith in
    ap₂ (λ (x k : ℕ). edc x (drop k c.args.run.now))
    (ring_next l.self.words i c.word.result _ _ _ _ refl (omega arith) (omega arith) (omega arith) (omega arith) (omega arith) (omega arith)) n
    ∙ c.word.ensures (held l.self.words i) ∙ l.invariant
