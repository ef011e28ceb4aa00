-- A table beside the bench cases, with the numbers written out: what no other claim would notice if code and definition had it wrong alike (paper
-- 01, "Reply numbers", "The ring"; paper 02, ask 1). A sector with a wrong code, the facts that are kept, looks at an offset, lent rings of a wrong size,
-- a refused opening, and for each test of soundness a record just outside it and one just inside. A row with conditions holds of every chip that meets
-- them; PinsMet says that there are such, and that calls lead to them. Starts have a table of their own. Assumes nothing.
use Rattle.std.specs.Prelude.{ℕ, ◌+◌, ◌*◌, ◌<◌, ◌≤◌, ◌≡◌, true, false, List, [], ◌∷◌, ◌++◌, ◌⊎◌, length, take, drop, get_or, set}
use Rattle.calls.specs.declared.Call.{Call as Plain}
use Rattle.calls.specs.declared.Call.TheVariants.{Reset, Status}
use Rattle.laws.specs.Bytes.{Bytes}
use Rattle.scramble.specs.Scramble.{scrambled}
use Rattle.controller.specs.Fields.{◌▹◌, tcc≔, bufc≔, ttc≔, expected≔, buflim≔, acctl≔, judgement≔, mbc≔, window≔, transfer≔, received≔}
use Rattle.controller.specs.State.{initial}
use Rattle.controller.specs.declared.state.Controller.{Controller}
use Rattle.ring.specs.Place.{at}
use Rattle.ring.specs.declared.Place.{Place}
use Rattle.outcomes.specs.Machine.{Call, plain, sector, look, word, Answer, replied, handed, seen}
use Rattle.chip.specs.Chip.{opened}
use Rattle.chip.specs.Told.{refused, Refused}
use Rattle.chip.specs.Sound.{sound}
use Rattle.chip.specs.Calls.{called, lent, sector_lent, looked, word_told}
use Rattle.chip.specs.Machine.{the_chip}
use Rattle.chip.specs.declared.Chip.{Chip}
use Rattle.claims.specs.Cases.{number, address, Reachable}
use Rattle.claims.specs.Runs.{encoded, read, set_window, srst, disc, set_up, restart, transfer, ok, Gives, telling_why}

-- Looks

-- a look at a window of 1,024 words from byte 16 on, in whatever block T is
pub record GivenLook (c : Chip) (ring : List ℕ) : Type 0 where
  pub sound_record : sound c ≡ true
  pub whole : length ring ≡ c.place.n * 2560
  pub one : c.controller.counts.tcc ≡ 1
  pub offset : c.controller.window.offset ≡ 16
  pub words : c.controller.window.words ≡ 1024

-- Sectors whose code is wrong

-- the sector of mode 1 sealed at 00:02:f with byte k of it changed to v
abbrev pub damaged : List ℕ → ℕ → ℕ → ℕ → Call
damaged u f k v = sector (scrambled (set (encoded (address 0 2 f) u) k v))

-- a byte behind the header, up to the last of mode 1's code, and another value for it
pub record GivenCode (u : List ℕ) (k v : ℕ) : Type 0 where
  pub size : length u ≡ 2352
  pub bytes : Bytes u
  pub behind : 16 ≤ k
  pub before : k < 2068
  pub byte : v < 256
  pub other : v ≡ get_or (encoded (address 0 2 1) u) k 0 → ⊥

-- an answer of telling_why
abbrev pub kept : ℕ → Answer
kept n = replied 0 n

-- Rings of a wrong size

-- lent this ring, every call that touches it is answered 1, or by no bytes, and changes nothing
pub record Unlent (c : Chip) (ring : List ℕ) : Type 0 where
  pub sectors : (s : List ℕ) → sector_lent c ring s ≡ lent (refused c 1) ring
  pub words : word_told c ring ≡ record { chip = c; word = Refused 1 }
  pub looks : looked c ring ≡ []

-- Records

abbrev pub chip : Controller → Place → Chip
chip k p = record { controller = k; place = p }

-- a chip of five blocks that is as opened but for its controller
abbrev pub five : Controller → Chip
five k = chip k (at 5 0 0 0)

abbrev pub with_window : ℕ → ℕ → Chip
with_window o w = five (initial ▹ window≔ (record { offset = o; words = w }))

abbrev pub with_atlim : ℕ → Chip
with_atlim n = five (initial ▹ acctl≔ (record { atten = false; acmen = false; tcincen = false; atlim = n }))

-- a transfer that runs with so many blocks left at such a position, TCC 2, a window of 4 words
abbrev pub running : ℕ → ℕ → Chip
running left position =
    five (initial ▹ tcc≔ 2 ▹ bufc≔ 2 ▹ window≔ (record { offset = 16; words = 4 }) ▹ transfer≔ (record { running = true; left = left; position = position }))

-- one of 32 blocks of 1,024 words, in a ring of 40 blocks
abbrev pub long_running : Chip
long_running =
    chip
    (initial ▹ tcc≔ 32 ▹ bufc≔ 32 ▹ window≔ (record { offset = 16; words = 1024 }) ▹ transfer≔ (record { running = true; left = 32; position = 0 }))
    (at 40 0 32 31)

-- one that does not run
abbrev pub resting : ℕ → ℕ → Chip
resting left position = five (initial ▹ transfer≔ (record { running = false; left = left; position = position }))

-- an unsound record: every call is answered 1, whatever its arguments, and changes nothing
pub record Outside (c : Chip) : Type 0 where
  pub unsound : sound c ≡ false
  pub calls : (call : Plain) → called c call ≡ refused c 1
  pub lends : (ring : List ℕ) → Unlent c ring

-- a sound one: a read of the host's status is done
pub record Inside (c : Chip) : Type 0 where
  pub sound_record : sound c ≡ true
  pub status : number (called c Status) ≡ 0

-- The table

pub record Pins : Type 0 where
  -- one changed byte, 16 to 2,067: STAERR alone is the result, 80h reads it, TCC is as before, BUFC one more, and the next sector is answered 8
  pub wrong_code : (u : List ℕ) (k v : ℕ) → GivenCode u k v
      → Gives the_chip 3
      (set_up ++ disc u 0 ∷ damaged u 1 k v ∷ read 0x80 ∷ read 0x9D ∷ read 0x9B ∷ disc u 1 ∷ [])
      (ok ∷ ok ∷ ok ∷ ok ∷ replied 0 0x40 ∷ replied 0 0x40 ∷ replied 0 1 ∷ replied 0 2 ∷ replied 8 0 ∷ [])
  -- what is kept after each call: 1 of a sector of another place, through a refused sector, a read, SRST and DECEN low and high; 0 of a good one; 2 of
  -- one with a changed byte, 16 to 2,067; 0 after a chip reset
  pub why_kept : (u : List ℕ) (k v : ℕ) → GivenCode u k v
      → Gives (telling_why the_chip) 3
      (set_up ++ disc u 5 ∷ disc u 0 ∷ read 0x80 ∷ srst ∷ restart ++ disc u 0 ∷ damaged u 1 k v ∷ disc u 1 ∷ plain Reset ∷ [])
      (kept 0 ∷ kept 0 ∷ kept 0 ∷ kept 1 ∷ kept 1 ∷ kept 1 ∷ kept 1 ∷ kept 1 ∷ kept 1 ∷ kept 0 ∷ kept 2 ∷ kept 2 ∷ kept 0 ∷ [])
  -- a look at four bytes from byte 12 on, at two from byte 13 on, and at the same of the next sector when the first was taken
  pub look_headers : (u : List ℕ) → length u ≡ 2352
      → Gives the_chip 3
      (set_up ++ disc u 0 ∷ disc u 1 ∷ set_window 12 2 ∷ look ∷ set_window 13 1 ∷ look ∷ transfer 14 1 ++ word ∷ look ∷ [])
      (ok ∷ ok ∷ ok ∷ ok ∷ ok ∷ ok ∷ seen (0x00 ∷ 0x02 ∷ 0x00 ∷ 0x01 ∷ []) ∷ ok ∷ seen (0x02 ∷ 0x00 ∷ []) ∷ ok ∷ ok ∷ ok ∷ ok
      ∷ handed 0x0100 ∷ seen (0x01 ∷ 0x01 ∷ []) ∷ [])
  -- 2,048 bytes from byte 16 of block T on
  pub look_block : (c : Chip) (ring : List ℕ) → GivenLook c ring → looked c ring ≡ take 2048 (drop (c.place.t * 2560 + 16) ring)
  -- three blocks are 7,680 bytes, 255 are 652,800: one less or more is refused
  pub lent_3 : (c : Chip) (ring : List ℕ) → c.place.n ≡ 3 → (length ring ≡ 7679) ⊎ (length ring ≡ 7681) → Unlent c ring
  pub lent_255 : (c : Chip) (ring : List ℕ) → c.place.n ≡ 255 → (length ring ≡ 652799) ⊎ (length ring ≡ 652801) → Unlent c ring
  -- a refused opening gives a record with N = 0, which is unsound
  pub opened_2 : ((opened 2).chip.place.n ≡ 0) × Outside (opened 2).chip
  pub opened_256 : ((opened 256).chip.place.n ≡ 0) × Outside (opened 256).chip
  -- N is 3..255
  pub n_2 : Outside (chip initial (at 2 0 0 0))
  pub n_3 : Inside (chip initial (at 3 0 0 0))
  pub n_255 : Inside (chip initial (at 255 0 0 0))
  pub n_256 : Outside (chip initial (at 256 0 0 0))
  -- T, B and the last decoded block below N
  pub t_4 : Inside (chip initial (at 5 4 0 0))
  pub t_5 : Outside (chip initial (at 5 5 0 0))
  pub b_4 : Inside (chip initial (at 5 0 4 0))
  pub b_5 : Outside (chip initial (at 5 0 5 0))
  pub last_4 : Inside (chip initial (at 5 0 0 4))
  pub last_5 : Outside (chip initial (at 5 0 0 5))
  -- TCC and BUFC below N
  pub tcc_4 : Inside (five (initial ▹ tcc≔ 4))
  pub tcc_5 : Outside (five (initial ▹ tcc≔ 5))
  pub bufc_4 : Inside (five (initial ▹ bufc≔ 4))
  pub bufc_5 : Outside (five (initial ▹ bufc≔ 5))
  -- a window of 1..1,176 words that ends at 2,352; 0 words is none, whatever the offset
  pub words_1176 : Inside (with_window 0 1176)
  pub words_1177 : Outside (with_window 0 1177)
  pub end_2352 : Inside (with_window 2350 1)
  pub end_2353 : Outside (with_window 2351 1)
  pub no_window : Inside (with_window 2353 0)
  -- the expected address: minute 0..99, second 0..59, frame 0..74
  pub minute_99 : Inside (five (initial ▹ expected≔ (address 99 2 0)))
  pub minute_100 : Outside (five (initial ▹ expected≔ (address 100 2 0)))
  pub second_59 : Inside (five (initial ▹ expected≔ (address 0 59 0)))
  pub second_60 : Outside (five (initial ▹ expected≔ (address 0 60 0)))
  pub frame_74 : Inside (five (initial ▹ expected≔ (address 0 2 74)))
  pub frame_75 : Outside (five (initial ▹ expected≔ (address 0 2 75)))
  -- a running transfer has a block left, not more than TCC, and a position inside its window; one that does not run is not tested
  pub left_0 : Outside (running 0 0)
  pub left_1 : Inside (running 1 0)
  pub left_2 : Inside (running 2 0)
  pub left_3 : Outside (running 3 0)
  -- blocks left are not held to the bound of a start: 32 of 1,024 words are 65,536 bytes
  pub left_32 : Inside long_running
  pub position_3 : Inside (running 1 3)
  pub position_4 : Outside (running 1 4)
  pub no_transfer : Inside (resting 3 4)
  -- BUFLIM 0..N-2, TTC 0..255, MBC and ATLIM 0..31, packet words 0..5
  pub buflim_3 : Inside (five (initial ▹ buflim≔ 3))
  pub buflim_4 : Outside (five (initial ▹ buflim≔ 4))
  pub ttc_255 : Inside (five (initial ▹ ttc≔ 255))
  pub ttc_256 : Outside (five (initial ▹ ttc≔ 256))
  pub mbc_31 : Inside (five (initial ▹ mbc≔ 31))
  pub mbc_32 : Outside (five (initial ▹ mbc≔ 32))
  pub atlim_31 : Inside (with_atlim 31)
  pub atlim_32 : Outside (with_atlim 32)
  pub packet_5 : Inside (five (initial ▹ received≔ 5))
  pub packet_6 : Outside (five (initial ▹ received≔ 6))
  -- facts have no range
  pub facts_15 : Inside (five (initial ▹ judgement≔ (record { sync = true; mode = true; edc = true; address = true })))

-- The conditions are met

pub record PinsMet : Type 0 where
  pub reach_code : (u : List ℕ) × (k : ℕ) × (v : ℕ) × GivenCode u k v
  pub reach_look : Reachable (λ s. GivenLook s.chip s.ring)
