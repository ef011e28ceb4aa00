-- `edc::division::Ring::fold` meets its contract: word `i` is moved to three places after it. Assumes nothing.
use mathlib.Core.Path.{◌∙◌}
use Prim.Native.Nat.{◌+◌}
use native.Mathlib.Omega.{arith}
use Rattle.edc.proofs.Folds.{folds_of}
use Rattle.edc.proofs.Moved.{turn}
use Rattle.edc.proofs.division.Ring.fold.Goals as goal

pub loop-i-preserved : goal.loop-i-preserved
loop-i-preserved c =
    let l = c.loop-i in
    let s = c.args.s in
    let i = l.i in
    turn l.self.words c.put.new.self.words c.put-in-loop-i.new.self.words c.put-in-loop-i-2.new.self.words s i (folds_of 5 s c.requires.s_value) (omega arith) (omega arith)
    (c.put.ensures (i + 1) (omega arith))
    (c.put-in-loop-i.ensures (i + 1) (omega arith))
    (c.put-in-loop-i-2.ensures (i + 1) (omega arith)) ∙ l.invariant
