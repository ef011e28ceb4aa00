-- `edc::division::Ring::add_back` meets its contract: one more word has its own xored in. Assumes nothing.
use native.Mathlib.Omega.{arith}
use Rattle.edc.proofs.Ring.{back_next}
use Rattle.edc.proofs.division.Ring.add_back.Goals as goal

pub loop-i-preserved : goal.loop-i-preserved
loop-i-preserved c = let l = c.loop-i in
    let a = c.args in
    back_next a.back l.i a.self.now.words l.self.words (omega arith) (omega arith) (omega arith) (omega arith) l.invariant
