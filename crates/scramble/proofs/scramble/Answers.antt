-- `scramble::scramble` meets its contract. Assumes nothing.
use Rattle.std.proofs.Common.{arith}
use Rattle.scramble.proofs.Scrambled.{scrambled_is}
use Rattle.scramble.proofs.scramble.Goals as goal

pub returns : goal.returns
returns c =
    let l = c.loop-i.invariant in
    scrambled_is _ _ c.told-sector l.size l.sync (λ k h. l.done k (omega arith))
