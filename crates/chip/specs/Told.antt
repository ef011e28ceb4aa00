-- What a call of the chip answers: the chip afterwards and the reply; the host's word, handed over or refused; and the results of the code that stand for
-- them. Assumes nothing.
use Rattle.std.specs.Prelude.{ℕ, Result, Ok, Err}
use Rattle.reply.specs.Reply.{Reply, refusal, answer, number}
use Rattle.reply.specs.declared.Refusal.{Refusal}
use Rattle.chip.specs.declared.Accepted.{Accepted}
use Rattle.chip.specs.declared.Chip.{Chip}

pub record Told : Type 0 where
  pub chip : Chip
  pub reply : Reply

-- a word is handed over or a refusal, never both
pub data Word : Type 0 where
  Handed : ℕ → Word
  Refused : ℕ → Word

pub record WordTold : Type 0 where
  pub chip : Chip
  pub word : Word

-- a refusal: its number, a zero result, and the chip as it was
abbrev pub refused : Chip → ℕ → Told
refused c k = record { chip = c; reply = refusal k }

-- the answer of an accepted call
abbrev pub accepted_told : Accepted → Told
accepted_told a = record { chip = a.chip; reply = answer a.value }

-- the answer of a call on the chip c
abbrev pub told_of : Chip → Result Accepted Refusal → Told
told_of c (Ok a) = accepted_told a
told_of c (Err r) = refused c (number r)

-- the same of the host's word
abbrev pub word_told_of : Chip → Result Accepted Refusal → WordTold
word_told_of c (Ok a) = record { chip = a.chip; word = Handed a.value }
word_told_of c (Err r) = record { chip = c; word = Refused (number r) }
