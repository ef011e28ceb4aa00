-- Which bytes of a sector are a parity word (ECMA-130, Annex A; paper 02, ask 2). Bytes 12 to 2,351 are symbols of two planes: symbol n is byte
-- 12 + 2 n in one and 13 + 2 n in the other. Assumes nothing.
use Rattle.std.specs.Prelude.{Bool, ◌&&◌, List, ℕ, ◌+◌, ◌*◌, ◌-◌, ◌/◌, ◌%◌, leb, ltb, get_or, if◌then◌else◌}

-- a code: its words in each plane, how many data symbols stand before a word's two parity symbols, and which of the plane's symbols is at
-- position m of word w
pub record Code : Type 0 where
  pub words : ℕ
  pub data_size : ℕ
  pub symbol : ℕ → ℕ → ℕ

-- P: 43 words (26,24), the columns of 26 rows of 43 symbols
unfoldable pub p : Code
p = record { words = 43; data_size = 24; symbol = λ w m. 43 * m + w }

-- Q: 26 words (45,43), the diagonals of these rows; their parity stands behind the rows
unfoldable pub q : Code
q =
    record {
      words = 26;
      data_size = 43;
      symbol = λ w m. if ltb m 43 then (44 * m + 43 * w) % 1118 else 1118 + 26 * (m - 43) + w;
    }

-- the words of both planes are counted together, as they stand in the sector: v is word v / 2 of plane v % 2
abbrev pub place : Code → ℕ → ℕ → ℕ
place c v m = 12 + 2 * c.symbol (v / 2) m + v % 2

-- the value of byte k of a sector as a symbol: the header's four bytes count as 0 where they are masked
abbrev pub value_at : Bool → List ℕ → ℕ → ℕ
value_at masked s k = if masked && (leb 12 k && ltb k 16) then 0 else get_or s k 0

-- word v of a sector
abbrev pub word : Code → Bool → List ℕ → ℕ → ℕ → ℕ
word c masked s v m = value_at masked s (place c v m)
