-- `burst::turn` meets its contract. Assumes nothing.
use Rattle.std.proofs.Common.{arith}
use Rattle.burst.proofs.Turns.{turn_inside}
use Rattle.burst.proofs.turn.Goals as goal

pub returns-clause-run : goal.returns-clause-run
returns-clause-run c =
    let a = c.args in
    let r = c.min-run.result in
    let e = c.inside.ensures in
    turn_inside a.chip a.ring.now a.out.now c.inside.new.out r (omega arith) (omega arith) (omega arith) e.words c.inside.result e.chip
