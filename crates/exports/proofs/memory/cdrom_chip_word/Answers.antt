-- `exports::memory::cdrom_chip_word` meets its contract. Assumes nothing.
use Rattle.exports.proofs.Chips.{word_ahead}
use Rattle.exports.proofs.memory.cdrom_chip_word.Goals as goal

pub returns-then-ahead-ne0 : goal.returns-then-ahead-ne0
returns-then-ahead-ne0 c =
    let a = c.args in
    word_ahead c.decode-before.result a.ring.now a.chip.now c.decode-before.ensures c.ahead.ensures (λ z. c.if-ahead-ne0.true z)
    c.next_word.result c.packed.result c.next_word.ensures c.packed.ensures c.advance.new.words c.advance.ensures.position
