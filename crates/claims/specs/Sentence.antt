-- The regulator's sentence: no block shall count that was not read and checked since the ring was started (paper 01, "The ring", "Sectors",
-- "Demand 3 in full"). It is stated of the chip with its memory, whatever lay there, after any list of calls, so that it holds before and after every
-- call. Started is the opening or the last chip reset; checked is what a sector of its own kind is judged by (paper 02, ask 4): sync, mode, EDC and the
-- address expected of the sector when it came. Of a form 2 sector without a code nothing more than sync, mode, the two copies of its subheader and the
-- address was checked, and it counts: its user bytes were read and not checked. What it does not say: that a sector counts only once and in the order of
-- the calls, which is Accounted and NeverAgain (Letter.antt); anything of parity, which is not judged; and that a sector with a right EDC has no wrong
-- byte, nor that its kind is the one it was sealed as (FoundClaim and TwoKindsClaim of the sectors). Assumes nothing.
use Rattle.std.specs.Prelude.{ℕ, ◌+◌, ◌*◌, ◌%◌, ◌<◌, ◌≤◌, ◌≡◌, true, List, [], ◌∷◌, ◌++◌, ◌⊎◌, eqb, length, take, drop, get_or, replicate, if◌then◌else◌}
use Rattle.laws.specs.Bytes.{word_at}
use Rattle.calls.specs.Choice.{if_reset}
use Rattle.sector.specs.Judge.{sync_holds, code_right, address_holds}
use Rattle.sector.specs.Layout.{kind_read, layout_read}
use Rattle.sector.specs.Receive.{received}
use Rattle.sector.specs.declared.Address.{Address}
use Rattle.ring.specs.Memory.{block}
use Rattle.outcomes.specs.Book.{Book, first_book, feed}
use Rattle.outcomes.specs.Machine.{Call, plain, sector, look, word, handed, seen, number, Machine, after}
use Rattle.chip.specs.Machine.{State, chip_answer, the_chip}
use Rattle.claims.specs.Counted.{book_after}

-- Read: the sectors that came

-- a sector as the call was lent it, and the address that was expected of it: the book's, which is the chip's own (Counted, `shows`)
pub record Arrival : Type 0 where
  pub expected : Address
  pub lent : List ℕ

-- every accepted sector call brings one, good or bad; at a chip reset none has come
abbrev pub brought : Call → Book → List Arrival → List Arrival
brought (sector s) b came = came ++ record { expected = b.expected; lent = s } ∷ []
brought (plain c) b came = if_reset c [] came
brought look b came = came
brought word b came = came

abbrev pub bring : Call → ℕ → Book → List Arrival → List Arrival
bring c n b came = if eqb n 0 then brought c b came else came

-- those that came since the opening or the last chip reset, after a list of calls
abbrev pub arrivals : (M : Machine) → List Call → M.State → Book → List Arrival → List Arrival
arrivals M [] s b came = came
arrivals M (c ∷ cs) s b came =
    arrivals M cs (M.step c s) (feed c (number (M.answer c s)) b) (bring c (number (M.answer c s)) b came)

-- Checked: what was found of a descrambled sector x that was expected at a, by the kind that was read from it

-- a sector of form 2 without a code
abbrev pub WithoutCode : List ℕ → Type 0
WithoutCode x = (kind_read x ≡ 3) × (take 4 (drop 2348 x) ≡ replicate 4 0)

pub record Checked (a : Address) (x : List ℕ) : Type 0 where
  pub sync : sync_holds x ≡ true
  -- byte 15 is 1; or it is 2, and the two copies of the subheader are equal
  pub mode : (get_or x 15 0 ≡ 1) ⊎ ((get_or x 15 0 ≡ 2) × (take 4 (drop 16 x) ≡ take 4 (drop 20 x)))
  -- the code is right for the bytes that it covers in that kind; or there is none
  pub edc : (code_right (layout_read x) x ≡ true) ⊎ WithoutCode x
  pub address : address_holds a x ≡ true

abbrev pub Among : Arrival → List Arrival → Type 0
Among v [] = ⊥
Among v (w ∷ ws) = (v ≡ w) ⊎ Among v ws

-- x is a whole sector that came, descrambled, and was checked
pub record ReadAndChecked (came : List Arrival) (x : List ℕ) : Type 0 where
  pub arrival : Arrival
  pub among : Among arrival came
  pub whole : length arrival.lent ≡ 2352
  pub bytes : x ≡ (received arrival.expected arrival.lent).bytes
  pub checked : Checked arrival.expected x

-- every sector of the book's row, over any list of calls
abbrev pub RowChecked : Machine → Type 0
RowChecked M =
    (n : ℕ) → 3 ≤ n → n ≤ 255 → (x : List ℕ) → length x ≡ n * 2560 → (cs : List Call) (i : ℕ)
    → i < length (book_after M cs (M.opened n x) first_book).row
    → ReadAndChecked (arrivals M cs (M.opened n x) first_book []) (get_or (book_after M cs (M.opened n x) first_book).row i [])

-- The sentence

abbrev pub tcc : State → ℕ
tcc s = s.chip.controller.counts.tcc

-- block T+i of the ring
abbrev pub block_at : State → ℕ → List ℕ
block_at s i = block s.ring ((s.chip.place.t + i) % s.chip.place.n)

pub record Upheld (s : State) (came : List Arrival) : Type 0 where
  -- each block that counts was read and checked since the ring was started
  pub counts : (i : ℕ) → i < tcc s → ReadAndChecked came (block_at s i)
  -- a word that is handed over is two bytes of the oldest block, and that block counts
  pub words : (w : ℕ) → chip_answer word s ≡ handed w
      → (0 < tcc s) × ((p : ℕ) × (p + 1 < 2352) × (w ≡ word_at (block_at s 0) p))
  -- bytes that a look shows are a part of the oldest block, and that block counts; or there are none
  pub looks : (shown : List ℕ) → chip_answer look s ≡ seen shown
      → (shown ≡ []) ⊎ ((0 < tcc s) × ((o m : ℕ) × (o + m ≤ 2352) × (shown ≡ take m (drop o (block_at s 0)))))

-- from an opening over any memory, after any list of calls
abbrev pub Sentence : Type 0
Sentence =
    (n : ℕ) → 3 ≤ n → n ≤ 255 → (x : List ℕ) → length x ≡ n * 2560 → (cs : List Call)
    → Upheld (after the_chip cs (the_chip.opened n x)) (arrivals the_chip cs (the_chip.opened n x) first_book [])
