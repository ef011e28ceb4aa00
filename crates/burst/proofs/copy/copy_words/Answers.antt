-- `burst::copy::copy_words` meets its contract. Assumes nothing.
use Rattle.std.proofs.Common.{length, sym, ◌∙◌, arith}
use Rattle.std.proofs.lemmas.List.{ext_get_or}
use Rattle.laws.specs.Bytes.{words_at}
use Rattle.laws.proofs.Words.{words_length, words_one}
use Rattle.burst.proofs.copy.copy_words.Goals as goal

pub returns : goal.returns
returns c =
    let l = c.loop-i in
    let a = c.args in
    let n = length a.out.now in
    ext_get_or 0 l.out (words_at a.ring.now a.from n) (omega (arith, words_length a.ring.now a.from n))
    (λ k h. l.invariant k (omega arith) ∙ sym (words_one a.ring.now a.from n k (omega arith)))
