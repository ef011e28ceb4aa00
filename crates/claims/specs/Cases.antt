-- The bench cases of paper 01 that are marked P ("Bench cases"), stated of the chip's definitions. A row with conditions holds of every sound
-- chip that meets them; CasesMet says that for each such row a list of calls leads from an opened chip to one. Assumes nothing.
use Rattle.std.specs.Prelude.{ℕ, ◌*◌, ◌≤◌, ◌≡◌, Bool, true, false, List, length}
use Rattle.calls.specs.declared.Call.{Call as Plain}
use Rattle.calls.specs.declared.Call.TheVariants.{Write, SetWindow}
use Rattle.sector.specs.Judge.{good}
use Rattle.sector.specs.Receive.{received}
use Rattle.sector.specs.declared.Address.{Address}
use Rattle.controller.specs.Decoder.{at_stop}
use Rattle.controller.specs.declared.state.Controller.{Controller}
use Rattle.ring.specs.Place.{full}
use Rattle.outcomes.specs.Machine.{Call, after}
use Rattle.chip.specs.Chip.{opened}
use Rattle.chip.specs.Told.{refused, Told}
use Rattle.chip.specs.Sound.{sound}
use Rattle.chip.specs.Calls.{called, sector_told}
use Rattle.chip.specs.Machine.{State, over, the_chip}
use Rattle.chip.specs.declared.Chip.{Chip}

abbrev pub number : Told → ℕ
number r = r.reply.number

-- the controller after a call
abbrev pub afterwards : Told → Controller
afterwards r = r.chip.controller

abbrev pub address : ℕ → ℕ → ℕ → Address
address m s f = record { minute = m; second = s; frame = f }

-- Conditions

-- P4 and P5: no transfer runs
pub record Given4 (c : Chip) : Type 0 where
  pub sound_record : sound c ≡ true
  pub idle : c.controller.transfer.running ≡ false

-- P7: TCC 2, DECEN low
pub record Given7 (c : Chip) : Type 0 where
  pub sound_record : sound c ≡ true
  pub idle : c.controller.transfer.running ≡ false
  pub decen : c.controller.buffering.decen ≡ false
  pub two : c.controller.counts.tcc ≡ 2

-- P8: ACMEN high, TCC 2
pub record Given8 (c : Chip) : Type 0 where
  pub sound_record : sound c ≡ true
  pub idle : c.controller.transfer.running ≡ false
  pub acmen : c.controller.acctl.acmen ≡ true
  pub two : c.controller.counts.tcc ≡ 2

-- P9, and every other start: what it goes by
pub record Asked : Type 0 where
  pub tcc : ℕ
  pub ttc : ℕ
  pub mbc : ℕ
  pub atlim : ℕ
  pub words : ℕ
  pub stwcen : Bool

-- a chip with these, and the rest of what a start needs
pub record GivenStart (c : Chip) (a : Asked) : Type 0 where
  pub sound_record : sound c ≡ true
  pub idle : c.controller.transfer.running ≡ false
  pub unreceiving : c.controller.packet.receiving ≡ false
  pub acmen : c.controller.acctl.acmen ≡ true
  pub adcen : c.controller.asctrl.adcen ≡ true
  pub bsy : c.controller.atsta.bsy ≡ true
  pub tcc : c.controller.counts.tcc ≡ a.tcc
  pub ttc : c.controller.counts.ttc ≡ a.ttc
  pub mbc : c.controller.mbc ≡ a.mbc
  pub atlim : c.controller.acctl.atlim ≡ a.atlim
  pub words : c.controller.window.words ≡ a.words
  pub stwcen : c.controller.asctrl.stwcen ≡ a.stwcen

-- the call is done; then 12h (MBC), 35h (ATBHI) and 34h (ATBLO) are these
abbrev pub Leaves : Chip → Plain → ℕ → ℕ → ℕ → Type 0
Leaves c call mbc high low =
    (number (called c call) ≡ 0) × ((afterwards (called c call)).mbc ≡ mbc)
    × ((afterwards (called c call)).task.atbhi ≡ high) × ((afterwards (called c call)).task.atblo ≡ low)

abbrev pub Starts : Chip → ℕ → ℕ → ℕ → Type 0
Starts c = Leaves c (Write 0x17 0x04)

-- with TTC set, where MBC has no part in it
abbrev pub with_ttc : ℕ → ℕ → ℕ → ℕ → Bool → ℕ → Asked
with_ttc tcc ttc atlim words stwcen mbc = record { tcc = tcc; ttc = ttc; mbc = mbc; atlim = atlim; words = words; stwcen = stwcen }

-- P10: expected 00:02:74, a good sector; and what a sector needs
pub record Given10 (c : Chip) (ring s : List ℕ) : Type 0 where
  pub sound_record : sound c ≡ true
  pub whole : length ring ≡ c.place.n * 2560
  pub decen : c.controller.buffering.decen ≡ true
  pub unheld : c.controller.counts.held ≡ false
  pub room : at_stop c.controller (full c.place) ≡ false
  pub expected : c.controller.expected ≡ address 0 2 74
  pub size : length s ≡ 2352
  pub fine : good (received (address 0 2 74) s).judgement ≡ true

-- The table

pub record Cases : Type 0 where
  -- ring 2 or 256: 1
  pub p1 : (number (opened 2) ≡ 1) × (number (opened 256) ≡ 1)
  -- ring 3, BUFLIM 1: 0
  pub p2 : number (called (opened 3).chip (Write 0x9B 1)) ≡ 0
  -- ring 3, BUFLIM 2: 3
  pub p3 : number (called (opened 3).chip (Write 0x9B 2)) ≡ 3
  -- window 16, 1,024 words: 0
  pub p4 : (c : Chip) → Given4 c → number (called c (SetWindow 16 1024)) ≡ 0
  -- window 2,350, 1 word: 0
  pub p5 : (c : Chip) → Given4 c → number (called c (SetWindow 2350 1)) ≡ 0
  -- window 2,351, 1 word: 3, a transfer or none
  pub p6 : (c : Chip) → sound c ≡ true → number (called c (SetWindow 2351 1)) ≡ 3
  -- TCC 2, DECEN low, write 9Dh 3: 6; write 1: 0, and TCC is 1
  pub p7 : (c : Chip) → Given7 c
      → (called c (Write 0x9D 3) ≡ refused c 6)
      × (number (called c (Write 0x9D 1)) ≡ 0) × ((afterwards (called c (Write 0x9D 1))).counts.tcc ≡ 1)
  -- ACMEN high, TCC 2, skip 2: TCC 0; skip 3: 6
  pub p8 : (c : Chip) → Given8 c
      → (number (called c (Write 0x9E 2)) ≡ 0) × ((afterwards (called c (Write 0x9E 2))).counts.tcc ≡ 0)
      × (called c (Write 0x9E 3) ≡ refused c 6)
  -- TCC 2, TTC 5, ATLIM 0, 1,024 words, STWCEN, start: MBC 1, 35h=10h (ATBHI), 34h=00h (ATBLO)
  pub p9 : (c : Chip) (m : ℕ) → GivenStart c (with_ttc 2 5 0 1024 true m) → Starts c 1 0x10 0x00
  -- expected 00:02:74, good sector: then 00:03:00
  pub p10 : (c : Chip) (ring s : List ℕ) → Given10 c ring s
      → (number (sector_told c ring s) ≡ 0) × ((sector_told c ring s).reply.result ≡ 0)
      × ((afterwards (sector_told c ring s)).expected ≡ address 0 3 0)

-- The conditions are met

-- calls lead from a chip opened over a memory of its size to a state where P holds
pub record Reachable (P : State → Type 0) : Type 0 where
  pub blocks : ℕ
  pub least : 3 ≤ blocks
  pub most : blocks ≤ 255
  pub memory : List ℕ
  pub whole : length memory ≡ blocks * 2560
  pub calls : List Call
  pub met : P (after the_chip calls (over (opened blocks).chip memory))

pub record CasesMet : Type 0 where
  -- P4, P5 and P6
  pub reach4 : Reachable (λ s. Given4 s.chip)
  pub reach7 : Reachable (λ s. Given7 s.chip)
  pub reach8 : Reachable (λ s. Given8 s.chip)
  pub reach9 : Reachable (λ s. GivenStart s.chip (with_ttc 2 5 0 1024 true 0))
  pub reach10 : Reachable (λ s. (x : List ℕ) × Given10 s.chip s.ring x)
