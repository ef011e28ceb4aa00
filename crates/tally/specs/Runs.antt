-- A run in which the four numbers of the tally are above 0 and no two of them equal (paper 02, ask 6): a bad sector is held and dropped, the host aborts within
-- a block and reads it again, a skip with ACMEN low skips none, 9Dh withdraws another number than the one written to it, and calls of each kind are refused.
-- It stands with all its answers, for any memory and any user bytes of its sectors, and with its tally at three points. Assumes nothing.
use Rattle.std.specs.Prelude.{ℕ, ◌≡◌, true, false, List, [], ◌∷◌, ◌++◌, length}
use Rattle.outcomes.specs.Machine.{Call, word, Answer, replied, handed, refused, Machine}
use Rattle.chip.specs.Machine.{the_chip}
use Rattle.claims.specs.Runs.{write, read, command, srst, disc, set_up, transfer, ok, Gives}
use Rattle.tally.specs.Tally.{entries, tally, held}

-- seven good sectors; frame 9 where 7 is expected, which is held; one that is refused; BUFC and TCC
abbrev pub filling : List ℕ → List Call
filling u =
    set_up ++ disc u 0 ∷ disc u 1 ∷ disc u 2 ∷ disc u 3 ∷ disc u 4 ∷ disc u 5 ∷ disc u 6 ∷ disc u 9 ∷ disc u 7
    ∷ read 0x9B ∷ read 0x9D ∷ []

abbrev pub filling_answers : List Answer
filling_answers =
    ok ∷ ok ∷ ok ∷ ok ∷ ok ∷ ok ∷ ok ∷ ok ∷ ok ∷ ok ∷ replied 0 1 ∷ replied 8 0 ∷ replied 0 8 ∷ replied 0 7 ∷ []

-- one word of two, and SRST; a word without a transfer; both words of the same block, and one more; DECEN low
abbrev pub reading : List Call
reading = transfer 12 2 ++ word ∷ srst ∷ word ∷ command 0 ∷ write 0x17 0x04 ∷ word ∷ word ∷ word ∷ write 0x0A 0x00 ∷ []

abbrev pub reading_answers : List Answer
reading_answers =
    ok ∷ ok ∷ ok ∷ ok ∷ handed 512 ∷ ok ∷ refused 5 ∷ ok ∷ ok ∷ handed 512 ∷ handed 256 ∷ refused 5 ∷ ok ∷ []

-- a skip with ACMEN low; one of too many, and one of two; TCC raised, which is refused, and lowered from 4 to 1; TCC and BUFC
abbrev pub lowering : List Call
lowering =
    write 0x9C 0x20 ∷ write 0x9E 1 ∷ write 0x9C 0x60 ∷ write 0x9E 7 ∷ write 0x9E 2 ∷ write 0x9D 5 ∷ write 0x9D 1
    ∷ read 0x9D ∷ read 0x9B ∷ []

abbrev pub lowering_answers : List Answer
lowering_answers = ok ∷ ok ∷ ok ∷ replied 6 0 ∷ ok ∷ replied 6 0 ∷ ok ∷ replied 0 1 ∷ replied 0 1 ∷ []

pub record TallyMet (M : Machine) (u : List ℕ) : Type 0 where
  pub run : Gives M 9 (filling u ++ reading ++ lowering) (filling_answers ++ reading_answers ++ lowering_answers)
  pub filled : tally (entries (filling u) filling_answers)
      ≡ record { counted = 7; taken = 0; skipped = 0; withdrawn = 0; words = 0; k = 0; acmen = true }
  pub filled_held : held (entries (filling u) filling_answers) ≡ true
  pub read_whole : tally (entries (filling u ++ reading) (filling_answers ++ reading_answers))
      ≡ record { counted = 7; taken = 1; skipped = 0; withdrawn = 0; words = 2; k = 0; acmen = true }
  pub read_held : held (entries (filling u ++ reading) (filling_answers ++ reading_answers)) ≡ false
  pub lowered : tally (entries (filling u ++ reading ++ lowering) (filling_answers ++ reading_answers ++ lowering_answers))
      ≡ record { counted = 7; taken = 1; skipped = 2; withdrawn = 3; words = 2; k = 0; acmen = true }

abbrev pub TallyMetClaim : Type 0
TallyMetClaim = (u : List ℕ) → length u ≡ 2352 → TallyMet the_chip u
