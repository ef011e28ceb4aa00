-- The machine of demand 2: the chip's definitions, call by call, each call given the chip and the ring as the last one left them.
-- Assumes nothing.
use Rattle.std.specs.Prelude.{ℕ, List}
use Rattle.outcomes.specs.Book.{facts_of}
use Rattle.outcomes.specs.Machine.{Call, plain, sector, look, word, Answer, replied, handed, refused, seen, Machine}
use Rattle.chip.specs.Chip.{opened}
use Rattle.chip.specs.Calls.{called, sector_told, sector_ring, looked, word_told, word_number, word_value}
use Rattle.chip.specs.declared.Chip.{Chip}
use Rattle.chip.specs.Told.{Told, Word, Handed, Refused}

pub record State : Type 0 where
  pub chip : Chip
  pub ring : List ℕ

abbrev pub over : Chip → List ℕ → State
over c ring = record { chip = c; ring = ring }

abbrev pub of_told : Told → Answer
of_told r = replied r.reply.number r.reply.result

abbrev pub of_word : Word → Answer
of_word (Handed w) = handed (word_value (Handed w))
of_word (Refused k) = refused (word_number (Refused k))

unfoldable pub chip_answer : Call → State → Answer
chip_answer (plain c) s = of_told (called s.chip c)
chip_answer (sector x) s = of_told (sector_told s.chip s.ring x)
chip_answer look s = seen (looked s.chip s.ring)
chip_answer word s = of_word (word_told s.chip s.ring).word

unfoldable pub chip_step : Call → State → State
chip_step (plain c) s = over (called s.chip c).chip s.ring
chip_step (sector x) s = over (sector_told s.chip s.ring x).chip (sector_ring s.chip s.ring x)
chip_step look s = s
chip_step word s = over (word_told s.chip s.ring).chip s.ring

abbrev pub the_chip : Machine
the_chip =
    record {
      State = State;
      opened = λ n x. over (opened n).chip x;
      answer = chip_answer;
      step = chip_step;
      facts = λ s. facts_of s.chip.controller;
    }
