-- `burst::host_words` meets its contract: the run so far is one turn longer. Assumes nothing.
use Rattle.burst.proofs.Turns.{more}
use Rattle.burst.proofs.host_words.Goals as goal

pub loop-burst-preserved : goal.loop-burst-preserved
loop-burst-preserved c =
    let l = c.loop-burst in
    let t = c.in-Ok.ensures in
    record { standing = more _ _ _ _ _ _ l.invariant.standing _ c.turn.auto.out t.run t.rest t.some.1; none = l.invariant.none }
