-- Each number of paper 01's table ("Reply numbers") is given, and what Demand1, Shown and Sentence speak of is met: two runs
-- from an opening, in which calls are answered with every number from 0 to 9, a look shows bytes, a bad sector is held and BUFC is then above TCC.
-- Each stands with all its answers, for any memory and any user bytes of its sectors. Assumes nothing.
use Rattle.std.specs.Prelude.{ℕ, ◌≡◌, List, [], ◌∷◌, ◌++◌, length}
use Rattle.calls.specs.declared.Call.TheVariants.{PacketByte}
use Rattle.outcomes.specs.Machine.{plain, sector, look, word, replied, refused, seen, Machine}
use Rattle.chip.specs.Machine.{the_chip}
use Rattle.claims.specs.Runs.{write, read, set_window, command, disc, set_up, restart, ok, Gives}

pub record NumbersMet (M : Machine) (u : List ℕ) : Type 0 where
  -- a sector of no bytes, a register that is not read, an MBC of 32, a second command with BSY, a word without a transfer, a byte of no packet, a
  -- sector with DECEN low
  pub one_to_seven :
      Gives M 3 (sector [] ∷ read 0x00 ∷ write 0x12 32 ∷ command 0 ∷ command 0 ∷ word ∷ plain (PacketByte 0) ∷ disc u 0 ∷ [])
      (replied 1 0 ∷ replied 2 0 ∷ replied 3 0 ∷ ok ∷ replied 4 0 ∷ refused 5 ∷ replied 6 0 ∷ replied 7 0 ∷ [])
  -- frame 0; frame 5 where 1 is expected, then BUFC and TCC, and a sector while held; a restart, frame 1, and frame 2 at the stop; a look at the header
  -- of the oldest sector
  pub eight_and_nine :
      Gives M 3
      (set_up ++ disc u 0 ∷ disc u 5 ∷ read 0x9B ∷ read 0x9D ∷ disc u 1 ∷ restart ++ disc u 1 ∷ disc u 2 ∷ set_window 12 2 ∷ look ∷ [])
      (ok ∷ ok ∷ ok ∷ ok ∷ replied 0 1 ∷ replied 0 2 ∷ replied 0 1 ∷ replied 8 0 ∷ ok ∷ ok ∷ ok ∷ replied 9 0
      ∷ ok ∷ seen (0x00 ∷ 0x02 ∷ 0x00 ∷ 0x01 ∷ []) ∷ [])

abbrev pub NumbersMetClaim : Type 0
NumbersMetClaim = (u : List ℕ) → length u ≡ 2352 → NumbersMet the_chip u
