-- `ring::memory::store` meets its contract: the bytes before the block and those after it are the ring's. Assumes nothing.
use mathlib.Core.Path.{◌∙◌, ap, ap₂}
use mathlib.Core.List.{List, ◌++◌}
use Prim.Native.Nat.{ℕ, ◌*◌}
use lib.ListN.{take, drop}
use lib.Seq.{drop-drop}
use Rattle.sector.specs.Receive.{Received}
use Rattle.ring.specs.Memory.{stored}
use Rattle.ring.proofs.memory.store.Goals as goal

pub returns-clause-ring : goal.returns-clause-ring
returns-clause-ring c =
    let r = c.args.ring.now in
    let start = c.from.result * 2560 in
    let parts = c.split_at_mut-rest.ensures in
    let block = c.receive.new.block in
    ap₂ (λ (x y : List ℕ). x ++ (block ++ drop 2352 y)) parts.front parts.back
    ∙ ap (λ (x : List ℕ). take start r ++ (block ++ x)) (drop-drop 2352 start r)
    ∙ ap₂ (λ (n : ℕ) (x : Received). stored r n x.bytes) c.from.ensures c.receive.ensures
