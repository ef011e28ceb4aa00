-- Host words one after the other (paper 01, "Host and transfers"): so many single words, until one is refused. Assumes nothing.
use Rattle.std.specs.Prelude.{ℕ, zero, suc, ◌+◌, ◌-◌, ◌&&◌, List, [], ◌∷◌, ◌++◌, length, drop, Option, None, Some, Result, Ok, Err, if◌then◌else◌}
use Rattle.reply.specs.Reply.{number}
use Rattle.reply.specs.declared.Refusal.{Refusal}
use Rattle.chip.specs.Chip.{ring_fits, at_position}
use Rattle.chip.specs.Calls.{word_told}
use Rattle.chip.specs.Sound.{sound}
use Rattle.chip.specs.declared.Chip.{Chip}
use Rattle.chip.specs.Told.{Word, Handed, Refused}
use Rattle.burst.specs.declared.Burst.{Burst}
use Rattle.burst.specs.declared.Turned.{Turned}

-- a run of words: the chip after them, the words, and the number of the refusal that ended it, or 0
pub record Run : Type 0 where
  pub chip : Chip
  pub words : List ℕ
  pub number : ℕ

abbrev pub run : Chip → List ℕ → ℕ → Run
run c ws n = record { chip = c; words = ws; number = n }

-- words that came before a run
abbrev pub prepend : List ℕ → Run → Run
prepend ws r = run r.chip (ws ++ r.words) r.number

-- a word that is handed over is followed by the others; a refusal ends the run, and the chip is as it was
abbrev pub by_word : Word → Chip → Run → Run
by_word (Handed w) c others = prepend (w ∷ []) others
by_word (Refused n) c others = run c [] n

-- k single words
unfoldable pub host_words : ℕ → Chip → List ℕ → Run
host_words zero c ring = run c [] 0
host_words (suc k) c ring = by_word (word_told c ring).word c (host_words k (word_told c ring).chip ring)

-- what is told of a run: the chip after it, how many words it has, and the number of the refusal that ended it, or 0
pub record BurstTold : Type 0 where
  pub chip : Chip
  pub handed : ℕ
  pub number : ℕ

abbrev pub told_of : Run → BurstTold
told_of r = record { chip = r.chip; handed = length r.words; number = r.number }

-- the number of a refusal, 0 where there is none
abbrev pub refusal_number : Option Refusal → ℕ
refusal_number None = 0
refusal_number (Some r) = number r

-- what a burst of the code tells
abbrev pub burst_told : Burst → BurstTold
burst_told b = record { chip = b.chip; handed = b.handed; number = refusal_number b.refusal }

-- what a run leaves of the words that were lent
abbrev pub written : Run → List ℕ → List ℕ
written r out = r.words ++ drop (length r.words) out

-- how many words can be read before the present block's last one: none without a transfer, or where a word is refused
unfoldable pub ahead : Chip → List ℕ → ℕ
ahead c ring =
    if sound c && ring_fits c ring && c.controller.transfer.running then c.controller.window.words - 1 - c.controller.transfer.position
    else 0

-- the chip k words on in its block
abbrev pub advanced : Chip → ℕ → Chip
advanced c k = at_position c (c.controller.transfer.position + k)

-- how many words a turn hands over: none where it is refused
abbrev pub handed_by : Result Turned Refusal → ℕ
handed_by (Ok t) = t.handed
handed_by (Err r) = 0

-- what follows the words of a turn on the chip c: the rest of the run, or the refusal of the first word
abbrev pub following : ℕ → Chip → List ℕ → Result Turned Refusal → Run
following n c ring (Ok t) = host_words (n - t.handed) t.chip ring
following n c ring (Err r) = run c [] (number r)
