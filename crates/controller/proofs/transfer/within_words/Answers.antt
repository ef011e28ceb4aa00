-- `controller::transfer::within_words` meets its contract. Assumes nothing.
use Rattle.std.proofs.Common.{ap, sym, ◌∙◌, min, arith}
use Rattle.std.proofs.Math.Nat.{mul-div-mul_right}
use Rattle.laws.proofs.Quotient.{within}
use Rattle.controller.proofs.transfer.within_words.Goals as goal

-- what is left is the lesser, and the words' bound is the bytes' bound
pub returns : goal.returns
returns c =
    let l = c.loop-total in
    let w = c.args.words in
    within l.blocks 32767 w c.requires (omega (arith, l.invariant.0)) ∙ l.invariant.1
    ∙ ap (min c.args.asked) (sym (mul-div-mul_right {m = 2} 32767 w (omega arith)))
