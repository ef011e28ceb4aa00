-- Runs that show demand 3 to be no empty claim: words are handed over, a restart follows a bad sector, an abort falls into a half-read
-- block, and only the smaller of two rings stops (paper 01, "Demand 3 in full", "Bench cases", "Slips seen on other boards"). Each run stands
-- with all its answers, for any memory and any user bytes of its sectors; proofs/MetRuns.antt has them proved. Assumes nothing.
use Rattle.std.specs.Prelude.{ℕ, ◌*◌, ◌≡◌, List, [], ◌∷◌, ◌++◌, length}
use Rattle.sector.specs.Judge.{why}
use Rattle.sector.specs.Calls.{no_subheader}
use Rattle.sector.specs.Layout.{mode_1}
use Rattle.sector.specs.Sector as sectors
use Rattle.sector.specs.declared.Address.{Address}
use Rattle.calls.specs.declared.Call.TheVariants.{Write, Read, SetWindow, Command, Srst}
use Rattle.outcomes.specs.Machine.{Call, plain, sector, word, Answer, replied, handed, Machine, answers}
use Rattle.chip.specs.Machine.{the_chip}

-- calls that touch no memory
abbrev pub write : ℕ → ℕ → Call
write reg v = plain (Write reg v)

abbrev pub read : ℕ → Call
read reg = plain (Read reg)

abbrev pub set_window : ℕ → ℕ → Call
set_window o w = plain (SetWindow o w)

abbrev pub command : ℕ → Call
command v = plain (Command v)

abbrev pub srst : Call
srst = plain Srst

-- a sector of mode 1 at an address with the user bytes of u, and as it goes to the disc
abbrev pub encoded : Address → List ℕ → List ℕ
encoded a u = sectors.encoded mode_1 a no_subheader u

abbrev pub sealed : Address → List ℕ → List ℕ
sealed a u = sectors.sealed mode_1 a no_subheader u

-- one sealed at 00:02:f; for f below 10 its word at byte 14 is 256 + f (the frame, then mode 1)
abbrev pub disc : List ℕ → ℕ → Call
disc u f = sector (sealed (record { minute = 0; second = 2; frame = f }) u)

-- BLIMEN; ACMEN and TCINCEN; DECEN
abbrev pub set_up : List Call
set_up = write 0x9A 0x20 ∷ write 0x9C 0x60 ∷ write 0x0A 0x80 ∷ []

-- DECEN taken low, and high again
abbrev pub restart : List Call
restart = write 0x0A 0x00 ∷ write 0x0A 0x80 ∷ []

-- a window, ADCEN, a command of the host, and the start of a transfer of one block
abbrev pub transfer : ℕ → ℕ → List Call
transfer o w = set_window o w ∷ write 0x18 0x40 ∷ command 0 ∷ write 0x17 0x04 ∷ []

abbrev pub ok : Answer
ok = replied 0 0

-- opened with n blocks over any memory of that size, a machine gives these answers to these calls
pub record Gives (M : Machine) (n : ℕ) (cs : List Call) (rs : List Answer) : Type 0 where
  pub given : (x : List ℕ) → length x ≡ n * 2560 → answers M cs (M.opened n x) ≡ rs

-- a machine that answers each call by what it keeps after it, as the number why
abbrev pub telling_why : Machine → Machine
telling_why M =
    record {
      State = M.State;
      opened = M.opened;
      answer = λ c s. replied 0 (why (M.facts (M.step c s)).judgement);
      step = M.step;
      facts = M.facts;
    }

pub record Met (M : Machine) (u : List ℕ) : Type 0 where
  -- two words of one sector: minute and second, frame and mode
  pub words_handed :
      Gives M 3 (set_up ++ disc u 0 ∷ transfer 12 2 ++ word ∷ word ∷ [])
      (ok ∷ ok ∷ ok ∷ ok ∷ ok ∷ ok ∷ ok ∷ ok ∷ handed 512 ∷ handed 256 ∷ [])
  -- frame 5 where 1 is expected is bad: its result is HCEI, and the chip, held, answers 8; after a restart frame 1 is counted (TCC, 9Dh, is
  -- 2), and the words are those of frames 0 and 1
  pub bad_then_restarted :
      Gives M 3
      (set_up ++ disc u 0 ∷ disc u 5 ∷ disc u 1 ∷ restart ++ disc u 1 ∷ read 0x9D ∷ transfer 14 1 ++ word ∷ write 0x17 0x04 ∷ word ∷ [])
      (ok ∷ ok ∷ ok ∷ ok ∷ replied 0 1 ∷ replied 8 0 ∷ ok ∷ ok ∷ ok ∷ replied 0 2 ∷ ok ∷ ok ∷ ok ∷ ok ∷ handed 256 ∷ ok ∷ handed 257 ∷ [])
  -- SRST after the first of two words of frame 0: the next transfer hands over the same word, not that of frame 1
  pub aborted_in_block :
      Gives M 3 (set_up ++ disc u 0 ∷ disc u 1 ∷ transfer 14 2 ++ word ∷ srst ∷ command 0 ∷ write 0x17 0x04 ∷ word ∷ [])
      (ok ∷ ok ∷ ok ∷ ok ∷ ok ∷ ok ∷ ok ∷ ok ∷ ok ∷ handed 256 ∷ ok ∷ ok ∷ ok ∷ handed 256 ∷ [])
  -- a third sector: 9 with three blocks, stored with four
  pub smaller_stops : Gives M 3 (set_up ++ disc u 0 ∷ disc u 1 ∷ disc u 2 ∷ []) (ok ∷ ok ∷ ok ∷ ok ∷ ok ∷ replied 9 0 ∷ [])
  pub larger_stores : Gives M 4 (set_up ++ disc u 0 ∷ disc u 1 ∷ disc u 2 ∷ []) (ok ∷ ok ∷ ok ∷ ok ∷ ok ∷ ok ∷ [])

abbrev pub MetClaim : Type 0
MetClaim = (u : List ℕ) → length u ≡ 2352 → Met the_chip u
