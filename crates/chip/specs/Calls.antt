-- What each call answers, and the ring it leaves, on every input (paper 01, "Registers", "The ring", "Host and transfers"). Assumes nothing.
use Rattle.std.specs.Prelude.{ℕ, ◌+◌, ◌*◌, ◌&&◌, not, List, eqb, length, take, drop, if◌then◌else◌}
use Rattle.laws.specs.Bytes.{word_at}
use Rattle.calls.specs.declared.Call.{Call}
use Rattle.sector.specs.Receive.{Received, received}
use Rattle.controller.specs.Calls.{stepped}
use Rattle.controller.specs.Decoder.{admission, counted}
use Rattle.controller.specs.Host.{host_word}
use Rattle.controller.specs.Transfer.{concluded}
use Rattle.ring.specs.Memory.{base, stored}
use Rattle.ring.specs.Place.{full, ring_facts}
use Rattle.chip.specs.Chip.{ring_fits, finished}
use Rattle.chip.specs.Told.{refused, Told, Word, Handed, Refused, WordTold}
use Rattle.chip.specs.Sound.{sound}
use Rattle.chip.specs.declared.Chip.{Chip}
use Rattle.chip.specs.declared.Part.{Part}

-- a call that touches no memory: 1 for an unsound record, else the controller's step, concluded
unfoldable pub called : Chip → Call → Told
called c call =
    if sound c then finished c.place (concluded (stepped c.controller call (ring_facts c.place)))
    else refused c 1

-- a sector: 1 for an unsound record or a wrong length of the lent ring or the sector, then 7, 8, 9 before any byte is moved
unfoldable pub sector_number : Chip → List ℕ → List ℕ → ℕ
sector_number c ring s =
    if not (sound c && ring_fits c ring && eqb (length s) 2352) then 1
    else admission c.controller (full c.place)

-- what the chip receives of a sector, judged against the expected address
abbrev pub received_by : Chip → List ℕ → Received
received_by c s = received c.controller.expected s

-- accepted, it is counted by its judgement
unfoldable pub sector_told : Chip → List ℕ → List ℕ → Told
sector_told c ring s =
    if eqb (sector_number c ring s) 0 then finished c.place (concluded (counted c.controller (received_by c s).judgement))
    else refused c (sector_number c ring s)

-- and stored in block B
unfoldable pub sector_ring : Chip → List ℕ → List ℕ → List ℕ
sector_ring c ring s =
    if eqb (sector_number c ring s) 0 then stored ring c.place.b (received_by c s).bytes
    else ring

-- the answer to a sector call and the ring after it
pub record Lent : Type 0 where
  pub told : Told
  pub ring : List ℕ

abbrev pub lent : Told → List ℕ → Lent
lent t ring = record { told = t; ring = ring }

abbrev pub sector_lent : Chip → List ℕ → List ℕ → Lent
sector_lent c ring s = lent (sector_told c ring s) (sector_ring c ring s)

-- where a look lies in the ring: the window of block T, or a part of no bytes
unfoldable pub look_part : Chip → List ℕ → Part
look_part c ring =
    if sound c && ring_fits c ring && not (eqb c.controller.counts.tcc 0) && not (eqb c.controller.window.words 0)
    then record { start = base c.place.t + c.controller.window.offset; size = 2 * c.controller.window.words }
    else record { start = 0; size = 0 }

-- a look at the oldest block: the bytes of that part
unfoldable pub looked : Chip → List ℕ → List ℕ
looked c ring = take (look_part c ring).size (drop (look_part c ring).start ring)

-- the first byte of the word that the host would read next: of block T, at the window's offset and the transfer's position
abbrev pub next_place : Chip → ℕ
next_place c = base c.place.t + c.controller.window.offset + 2 * c.controller.transfer.position

abbrev pub next_word : Chip → List ℕ → ℕ
next_word c ring = word_at ring (next_place c)

-- a word is handed over where the controller's step is done, else its refusal
abbrev pub word_by : ℕ → ℕ → Word
word_by number w = if eqb number 0 then Handed w else Refused number

-- host word: 1 for an unsound record or a wrong length of the lent ring
unfoldable pub word_told : Chip → List ℕ → WordTold
word_told c ring =
    if sound c && ring_fits c ring
    then record {
      chip = (finished c.place (concluded (host_word c.controller))).chip;
      word = word_by (host_word c.controller).reply.number (next_word c ring);
    }
    else record { chip = c; word = Refused 1 }

-- paper 01's reply number and value of each case
abbrev pub word_number : Word → ℕ
word_number (Handed w) = 0
word_number (Refused k) = k

abbrev pub word_value : Word → ℕ
word_value (Handed w) = w
word_value (Refused k) = 0
