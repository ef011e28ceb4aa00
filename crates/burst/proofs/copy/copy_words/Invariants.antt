-- The loop of `burst::copy::copy_words`: the words before `i` are copied. Assumes nothing.
use Rattle.std.proofs.Common.{◌≡◌, ℕ, ◌+◌, ◌*◌, ◌<◌, get_or}
use Rattle.laws.specs.Bytes.{word_at}
use Rattle.burst.proofs.copy.copy_words.Given as goal

abbrev pub invariant-loop-i : goal.invariant-loop-i
invariant-loop-i l = (k : ℕ) → k < l.i → get_or l.out k 0 ≡ word_at l.ring (l.from + 2 * k)
