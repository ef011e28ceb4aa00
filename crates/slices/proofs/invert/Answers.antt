-- `slices::invert` meets its contract. Assumes nothing.
use Rattle.std.proofs.Common.{sym, ◌∙◌, arith}
use Rattle.std.proofs.lemmas.List.{ext_get_or}
use Rattle.laws.specs.Bytes.{inverted}
use Rattle.laws.proofs.Bytes.{length_inverted, getD_inverted}
use Rattle.slices.proofs.invert.Goals as goal

pub returns : goal.returns
returns c =
    let l = c.loop-byte in
    let s = c.args.bytes.now in
    ext_get_or 0 l.bytes (inverted s) (omega (arith, length_inverted s))
    (λ k h. l.invariant.done k (omega arith) ∙ sym (getD_inverted s k (omega arith)))
