-- The blocks of a start and its byte count (paper 01, "Host and transfers"; paper 02, ask 3): the bound for any window, what every start leaves, and a
-- table with the numbers written out. The rows hold of every chip that meets their conditions; StartsMet says that calls lead to such a chip, and to
-- calls in which a transfer begins. Assumes nothing.
use Rattle.std.specs.Prelude.{ℕ, ◌+◌, ◌*◌, ◌/◌, ◌<◌, ◌≤◌, ◌≡◌, Bool, true, false, ◌||◌, ◌⊎◌, ltb, eqb}
use Rattle.calls.specs.declared.Call.TheVariants.{Write}
use Rattle.controller.specs.Transfer.{most_blocks, start_blocks, blocks_lacking}
use Rattle.controller.specs.declared.state.Controller.{Controller}
use Rattle.outcomes.specs.Machine.{Call, plain, sector, look, word, number as number_of}
use Rattle.chip.specs.Told.{refused}
use Rattle.chip.specs.Sound.{sound}
use Rattle.chip.specs.Calls.{called}
use Rattle.chip.specs.Machine.{State, chip_answer, chip_step}
use Rattle.chip.specs.declared.Chip.{Chip}
use Rattle.claims.specs.Cases.{afterwards, Asked, GivenStart, Leaves, Starts, with_ttc, Reachable}

-- The bound

pub record BoundClaim : Type 0 where
  -- as many blocks as the bound allows have at most 65,534 bytes, and no more blocks have
  pub within : (words : ℕ) → most_blocks words * words * 2 ≤ 65534
  pub most : (words blocks : ℕ) → 0 < words → blocks * words * 2 ≤ 65534 → blocks ≤ most_blocks words
  -- 65,535 would be the same bound, since bytes come by two
  pub same_by_65535 : (words : ℕ) → 65535 / (words * 2) ≡ most_blocks words
  -- with it, 6 is paper 01's "TCC 0 or MBC+1 above TCC", for every window up to 32,767 words; a sound chip's has at most 1,176
  pub lacking : (c : Controller) → 0 < c.window.words → c.window.words ≤ 32767
      → blocks_lacking c ≡ (eqb c.counts.tcc 0 || ltb c.counts.tcc (start_blocks c))

-- Every start

-- the word that ends a transfer: the last of its last block
abbrev pub Last : Call → Controller → Type 0
Last word c = (c.transfer.left ≡ 1) × (c.transfer.position + 1 ≡ c.window.words)
Last (plain p) c = ⊥
Last (sector x) c = ⊥
Last look c = ⊥

-- a start falls into a call, by 17h or by itself: the call is done, a transfer runs after it, and before it none ran or one that it ended
pub record Begins (call : Call) (s : State) : Type 0 where
  pub done : number_of (chip_answer call s) ≡ 0
  pub runs : (chip_step call s).chip.controller.transfer.running ≡ true
  pub new : (s.chip.controller.transfer.running ≡ false) ⊎ Last call s.chip.controller

-- what it leaves: MBC+1 blocks, not more than TCC, from the first word on; 32h=02h, DRQ=1, BSY=0, HIRQ=1; bytes from 2 to 65,534, and with STWCEN 35h
-- and 34h hold their whole count
pub record Begun (c : Controller) : Type 0 where
  pub blocks : c.transfer.left ≡ c.mbc + 1
  pub good : c.transfer.left ≤ c.counts.tcc
  pub first : c.transfer.position ≡ 0
  pub atint : c.task.atint ≡ 2
  pub drq : c.atsta.drq ≡ true
  pub bsy : c.atsta.bsy ≡ false
  pub hirq : c.hirq ≡ true
  pub some : 0 < c.transfer.left * c.window.words * 2
  pub most : c.transfer.left * c.window.words * 2 ≤ 65534
  pub whole : c.asctrl.stwcen ≡ true → 256 * c.task.atbhi + c.task.atblo ≡ c.transfer.left * c.window.words * 2

-- of any record, sound or not, over any ring
pub record ByteCountClaim : Type 0 where
  pub counted : (call : Call) (s : State) → Begins call s → Begun (chip_step call s).chip.controller

-- The table

-- with TTC 0, where ATLIM has no part in it
abbrev pub with_mbc : ℕ → ℕ → ℕ → Bool → ℕ → Asked
with_mbc tcc mbc words stwcen atlim = record { tcc = tcc; ttc = 0; mbc = mbc; atlim = atlim; words = words; stwcen = stwcen }

-- one of the needs of a start does not hold
abbrev pub Unready : Controller → Type 0
Unready c = (c.acctl.acmen ≡ false) ⊎ (c.asctrl.adcen ≡ false) ⊎ (c.window.words ≡ 0) ⊎ (c.atsta.bsy ≡ false)

-- nothing bars it
pub record Unbarred (c : Chip) : Type 0 where
  pub sound_record : sound c ≡ true
  pub idle : c.controller.transfer.running ≡ false
  pub unreceiving : c.controller.packet.receiving ≡ false

pub record StartsTable : Type 0 where
  -- With TTC the least of four. TCC and TTC are: 20 blocks of 1,176 words, 47,040 bytes
  pub twenty : (c : Chip) (m : ℕ) → GivenStart c (with_ttc 20 20 0 1176 true m) → Starts c 19 0xB7 0xC0
  -- TTC is the least of four: 25 blocks of 1,024 words, 51,200 bytes
  pub ttc_25 : (c : Chip) (m : ℕ) → GivenStart c (with_ttc 40 25 0 1024 true m) → Starts c 24 0xC8 0x00
  -- ATLIM is the least of four: 31 blocks of 1,023 words, 63,426 bytes
  pub atlim_31 : (c : Chip) (m : ℕ) → GivenStart c (with_ttc 40 40 31 1023 true m) → Starts c 30 0xF7 0xC2
  -- ATLIM 0, read as 32, is the least of four: 32 blocks of 1,023 words, 65,472 bytes, and of 1 word
  pub atlim_0 : (c : Chip) (m : ℕ) → GivenStart c (with_ttc 40 40 0 1023 true m) → Starts c 31 0xFF 0xC0
  pub one_word : (c : Chip) (m : ℕ) → GivenStart c (with_ttc 40 40 0 1 true m) → Starts c 31 0x00 0x40
  -- the bound is the least of four: 27 blocks of 1,176 words, 63,504 bytes
  pub ttc_1176 : (c : Chip) (m : ℕ) → GivenStart c (with_ttc 40 40 0 1176 true m) → Starts c 26 0xF8 0x10
  -- With TTC 0. 32 blocks are asked for, and the bound is 31 of 1,024 words, 63,488 bytes; 31 of 1,057 words, 65,534 bytes; 27 of 1,176 words
  pub mbc_1024 : (c : Chip) (l : ℕ) → GivenStart c (with_mbc 40 31 1024 true l) → Starts c 30 0xF8 0x00
  pub mbc_1057 : (c : Chip) (l : ℕ) → GivenStart c (with_mbc 40 31 1057 true l) → Starts c 30 0xFF 0xFE
  pub mbc_1176 : (c : Chip) (l : ℕ) → GivenStart c (with_mbc 40 31 1176 true l) → Starts c 26 0xF8 0x10
  -- what is below the bound stays: 32 blocks of 1,023 words, and 5 of 1,176 words, 11,760 bytes
  pub mbc_1023 : (c : Chip) (l : ℕ) → GivenStart c (with_mbc 40 31 1023 true l) → Starts c 31 0xFF 0xC0
  pub mbc_4 : (c : Chip) (l : ℕ) → GivenStart c (with_mbc 40 4 1176 true l) → Starts c 4 0x2D 0xF0
  -- the bound comes before TCC: 27 good blocks are enough; 26 are answered 6, and MBC is still 31, as all else is what it was
  pub good_27 : (c : Chip) (l : ℕ) → GivenStart c (with_mbc 27 31 1176 true l) → Starts c 26 0xF8 0x10
  pub good_26 : (c : Chip) (l : ℕ) → GivenStart c (with_mbc 26 31 1176 true l)
      → (called c (Write 0x17 0x04) ≡ refused c 6) × ((afterwards (called c (Write 0x17 0x04))).mbc ≡ 31)
  -- TCC 0 is answered 6, with TTC 0 and with TTC 5; and where a need does not hold, it is 5, whatever TCC
  pub good_0 : (c : Chip) (l : ℕ) → GivenStart c (with_mbc 0 31 1024 true l) → called c (Write 0x17 0x04) ≡ refused c 6
  pub good_0_ttc : (c : Chip) (m : ℕ) → GivenStart c (with_ttc 0 5 0 1024 true m) → called c (Write 0x17 0x04) ≡ refused c 6
  pub unready : (c : Chip) → Unbarred c → Unready c.controller → called c (Write 0x17 0x04) ≡ refused c 5
  -- without STWCEN the same blocks, and 35h and 34h stay
  pub without_stwcen : (c : Chip) (l : ℕ) → GivenStart c (with_mbc 40 31 1024 false l)
      → Starts c 30 c.controller.task.atbhi c.controller.task.atblo
  pub without_stwcen_ttc : (c : Chip) (m : ℕ) → GivenStart c (with_ttc 40 40 0 1176 false m)
      → Starts c 26 c.controller.task.atbhi c.controller.task.atblo
  -- by itself: with ATTEN a write of TTC (9Fh) starts as much as 17h
  pub by_itself : (c : Chip) → GivenStart c (with_mbc 40 31 1176 true 0) → c.controller.acctl.atten ≡ true
      → Leaves c (Write 0x9F 40) 26 0xF8 0x10

-- The conditions are met, with MBC or ATLIM 0 where it has no part

pub record StartsMet : Type 0 where
  pub twenty : Reachable (λ s. GivenStart s.chip (with_ttc 20 20 0 1176 true 0))
  pub ttc_25 : Reachable (λ s. GivenStart s.chip (with_ttc 40 25 0 1024 true 0))
  pub atlim_31 : Reachable (λ s. GivenStart s.chip (with_ttc 40 40 31 1023 true 0))
  pub atlim_0 : Reachable (λ s. GivenStart s.chip (with_ttc 40 40 0 1023 true 0))
  pub one_word : Reachable (λ s. GivenStart s.chip (with_ttc 40 40 0 1 true 0))
  pub ttc_1176 : Reachable (λ s. GivenStart s.chip (with_ttc 40 40 0 1176 true 0))
  pub mbc_1024 : Reachable (λ s. GivenStart s.chip (with_mbc 40 31 1024 true 0))
  pub mbc_1057 : Reachable (λ s. GivenStart s.chip (with_mbc 40 31 1057 true 0))
  pub mbc_1176 : Reachable (λ s. GivenStart s.chip (with_mbc 40 31 1176 true 0))
  pub mbc_1023 : Reachable (λ s. GivenStart s.chip (with_mbc 40 31 1023 true 0))
  pub mbc_4 : Reachable (λ s. GivenStart s.chip (with_mbc 40 4 1176 true 0))
  pub good_27 : Reachable (λ s. GivenStart s.chip (with_mbc 27 31 1176 true 0))
  pub good_26 : Reachable (λ s. GivenStart s.chip (with_mbc 26 31 1176 true 0))
  pub good_0 : Reachable (λ s. GivenStart s.chip (with_mbc 0 31 1024 true 0))
  pub good_0_ttc : Reachable (λ s. GivenStart s.chip (with_ttc 0 5 0 1024 true 0))
  -- as opened, no need of a start holds
  pub unready : Reachable (λ s. Unbarred s.chip × (s.chip.controller.acctl.acmen ≡ false) × (s.chip.controller.asctrl.adcen ≡ false)
      × (s.chip.controller.window.words ≡ 0) × (s.chip.controller.atsta.bsy ≡ false))
  pub without_stwcen : Reachable (λ s. GivenStart s.chip (with_mbc 40 31 1024 false 0))
  pub without_stwcen_ttc : Reachable (λ s. GivenStart s.chip (with_ttc 40 40 0 1176 false 0))
  pub by_itself : Reachable (λ s. GivenStart s.chip (with_mbc 40 31 1176 true 0) × (s.chip.controller.acctl.atten ≡ true))
  -- a transfer begins by 17h, by itself where none ran, and by itself at another's last word
  pub begins_by_17h : Reachable (λ s. Begins (plain (Write 0x17 0x04)) s × (s.chip.controller.asctrl.stwcen ≡ true))
  pub begins_by_itself : Reachable (λ s. Begins (plain (Write 0x9F 40)) s × (s.chip.controller.asctrl.stwcen ≡ true))
  pub begins_at_last : Reachable (λ s. Begins word s × (s.chip.controller.transfer.running ≡ true) × (s.chip.controller.asctrl.stwcen ≡ true))
