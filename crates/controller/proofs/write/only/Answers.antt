-- `controller::write::only` meets its contract. Assumes nothing.
use Rattle.std.proofs.Common.{◌<◌, ℕ, get_or, arith}
use Rattle.std.proofs.lemmas.List.Elements.{All-get_or}
use Rattle.controller.proofs.Bits.{kept_next, moved}
use Rattle.controller.proofs.write.only.Goals as goal

pub loop-k-preserved : goal.loop-k-preserved
loop-k-preserved g c =
    let v = c.from-value.result in
    let i = c.loop-k.k-index in
    let bits = c.args.bits in
    let this = moved v (get_or bits i 0) (All-get_or (λ (k : ℕ). k < 16) bits i 0 (omega arith) c.requires.within) in
    let next = kept_next bits i v (omega arith) in
    record { sum = omega (arith, this.0, next, c.loop-k.invariant.sum); bound = omega (arith, this.0, this.1, c.loop-k.invariant.bound) }
