-- The loop of `controller::write::only`. Assumes nothing.
use Rattle.std.proofs.Common.{◌≡◌, ◌≤◌, ◌+◌, ◌*◌, drop}
use Rattle.controller.specs.Bits.{kept}
use Rattle.controller.proofs.write.only.Given as goal

-- the bits so far and those to come are all; each is below 32,769
abbrev pub invariant-loop-k : goal.invariant-loop-k
invariant-loop-k g l =
    record {
      sum : l.kept + kept (drop l.k-index l.fn.bits) l.value ≡ kept l.fn.bits l.value;
      bound : l.kept ≤ 32768 * l.k-index;
    }
