-- What an exported call of the chip answers, and what it leaves of the words of the record that it is lent. Assumes nothing.
use Rattle.std.specs.Prelude.{ℕ, ◌≡◌, List, [], length, Result, Ok, Err}
use Rattle.reply.specs.Reply.{number}
use Rattle.reply.specs.declared.Refusal.{Refusal}
use Rattle.chip.specs.Calls.{word_number, word_value}
use Rattle.chip.specs.declared.Accepted.{Accepted}
use Rattle.chip.specs.Told.{Told, Handed, Refused, WordTold}
use Rattle.encoding.specs.Words.{decoded}
use Rattle.burst.specs.Burst.{Run}
use Rattle.exports.specs.Words.{packed, reply_word}

-- a call's result that is written back: the answer is its reply; the words of the record are the chip of an accepted call, else as they were
abbrev pub WrittenBack : Result Accepted Refusal → ℕ → List ℕ → List ℕ → Type 0
WrittenBack (Ok a) answer before after = (answer ≡ packed 0 a.value) × (decoded after ≡ a.chip)
WrittenBack (Err r) answer before after = (answer ≡ packed (number r) 0) × (after ≡ before)

-- a call of the chip: the answer is its reply; done, the words are the chip that it gives back; refused, they are as they were
pub record Answered (t : Told) (answer : ℕ) (before after : List ℕ) : Type 0 where
  pub reply : answer ≡ reply_word t.reply
  pub done : t.reply.number ≡ 0 → decoded after ≡ t.chip
  pub refused : (t.reply.number ≡ 0 → ⊥) → after ≡ before

-- the host's word, its number and value as paper 01 has them
pub record WordAnswered (t : WordTold) (answer : ℕ) (before after : List ℕ) : Type 0 where
  pub word : answer ≡ packed (word_number t.word) (word_value t.word)
  pub handed : (w : ℕ) → t.word ≡ Handed w → decoded after ≡ t.chip
  pub refused : (k : ℕ) → t.word ≡ Refused k → after ≡ before

-- a run of words: 0 where a word was handed over or none was asked for, else the refusal of the first
pub record WordsAnswered (r : Run) (answer handed : ℕ) (before after : List ℕ) : Type 0 where
  pub count : handed ≡ length r.words
  pub some : (r.words ≡ [] → ⊥) → (answer ≡ 0) × (decoded after ≡ r.chip)
  pub none : r.words ≡ [] → (answer ≡ r.number) × (after ≡ before)
