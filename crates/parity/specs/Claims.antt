-- What is claimed of the field, of words, of the layout and of the parity; proofs/Claims.antt proves it. Assumes nothing.
use Rattle.std.specs.Prelude.{◌≡◌, Bool, true, false, ◌&&◌, List, ◌⊎◌, ℕ, suc, ◌+◌, ◌*◌, ◌<◌, ◌≤◌, leb, ltb, length, take, get_or, set}
use Rattle.std.specs.Int.Bits.{bit_xor}
use Rattle.laws.specs.Bytes.{Bytes}
use Rattle.parity.specs.Field.{product, power}
use Rattle.parity.specs.Word.{holds, first_parity, second_parity}
use Rattle.parity.specs.Layout.{Code, p, q, place}
use Rattle.parity.specs.Parity.{with_parity, parity_holds}

-- The field

-- a as a power of the element
pub record Exponent (a : ℕ) : Type 0 where
  pub of : ℕ
  pub below : of < 255
  pub is : power of ≡ a

pub record FieldClaim : Type 0 where
  pub closed : (a b : ℕ) → a < 256 → product a b < 256
  pub commutes : (a b : ℕ) → a < 256 → b < 256 → product a b ≡ product b a
  pub associates : (a b c : ℕ) → a < 256 → b < 256 → c < 256 → product (product a b) c ≡ product a (product b c)
  pub distributes : (a b c : ℕ) → product a (bit_xor b c) ≡ bit_xor (product a b) (product a c)
  pub one : (a : ℕ) → a < 256 → product 1 a ≡ a
  pub no_divisors : (a b : ℕ) → a < 256 → b < 256 → product a b ≡ 0 → (a ≡ 0) ⊎ (b ≡ 0)
  -- the polynomial: x^8 is x^4 + x^3 + x^2 + 1
  pub polynomial : power 8 ≡ 0x1D
  -- exponents add; the element's order is 255; each element but 0 is one of its powers
  pub adds : (m n : ℕ) → product (power m) (power n) ≡ power (m + n)
  pub power_255 : power 255 ≡ 1
  pub not_earlier : (n : ℕ) → 0 < n → n < 255 → power n ≡ 1 → ⊥
  pub each : (a : ℕ) → 0 < a → a < 256 → Exponent a

-- A word of n symbols and two more, of any length

-- g and h differ at position j, and at no other of the first n
pub record DifferAt (n : ℕ) (g h : ℕ → ℕ) (j : ℕ) : Type 0 where
  pub inside : j < n
  pub differs : g j ≡ h j → ⊥
  pub else_same : (i : ℕ) → i < n → (i ≡ j → ⊥) → g i ≡ h i

pub record Encoded (n : ℕ) (g : ℕ → ℕ) : Type 0 where
  pub first_byte : first_parity n g < 256
  pub second_byte : second_parity n g < 256
  -- the two parity symbols make it hold, and no others do
  pub enough : g n ≡ first_parity n g → g (suc n) ≡ second_parity n g → holds (suc (suc n)) g ≡ true
  pub needed : holds (suc (suc n)) g ≡ true → (g n ≡ first_parity n g) × (g (suc n) ≡ second_parity n g)

pub record WordClaim : Type 0 where
  pub encoded : (n : ℕ) (g : ℕ → ℕ) → ((i : ℕ) → g i < 256) → Encoded n g
  -- one wrong symbol is always told
  pub detected : (n : ℕ) (g h : ℕ → ℕ) (j : ℕ) → DifferAt n g h j → holds n h ≡ true → holds n g ≡ false

-- The layout

-- byte k is at one position of one word of the code
pub record Once (c : Code) (k : ℕ) : Type 0 where
  pub of_word : ℕ
  pub at : ℕ
  pub word_below : of_word < 2 * c.words
  pub at_below : at < c.data_size + 2
  pub there : place c of_word at ≡ k
  pub only : (v m : ℕ) → v < 2 * c.words → place c v m ≡ k → (v ≡ of_word) × (m ≡ at)

pub record LayoutClaim : Type 0 where
  -- each byte from the header to the end of P is in one P word, each one to the end of the sector in one Q word
  pub in_p : (k : ℕ) → 12 ≤ k → k < 2248 → Once p k
  pub in_q : (k : ℕ) → 12 ≤ k → k < 2352 → Once q k
  -- P's data ends with byte 2,075 and its parity with 2,247, where Q's data ends
  pub p_data : (v m : ℕ) → v < 86 → m < 24 → (12 ≤ place p v m) × (place p v m < 2076)
  pub p_parity : (v m : ℕ) → v < 86 → 24 ≤ m → m < 26 → (2076 ≤ place p v m) × (place p v m < 2248)
  pub q_data : (v m : ℕ) → v < 52 → m < 43 → (12 ≤ place q v m) × (place q v m < 2248)
  pub q_parity : (v m : ℕ) → v < 52 → 43 ≤ m → m < 45 → (2248 ≤ place q v m) × (place q v m < 2352)

-- Written and checked

pub record Written (masked : Bool) (d : List ℕ) : Type 0 where
  pub count : length (with_parity masked d) ≡ 2352
  pub front : take 2076 (with_parity masked d) ≡ d
  pub bytes : Bytes (with_parity masked d)
  -- every word holds, and of all sectors with this front it is the only one
  pub valid : parity_holds masked (with_parity masked d) ≡ true
  pub only : (s : List ℕ) → length s ≡ 2352 → Bytes s → take 2076 s ≡ d → parity_holds masked s ≡ true → s ≡ with_parity masked d

pub record ParityClaim : Type 0 where
  pub written : (masked : Bool) (d : List ℕ) → length d ≡ 2076 → Bytes d → Written masked d
  -- of a sector whose words all hold, a byte that counts is changed: then one does not
  pub detected : (masked : Bool) (s : List ℕ) (k v : ℕ) → length s ≡ 2352 → parity_holds masked s ≡ true → 12 ≤ k → k < 2352
      → (masked && (leb 12 k && ltb k 16)) ≡ false → (v ≡ get_or s k 0 → ⊥) → parity_holds masked (set s k v) ≡ false
  -- the sync bytes never count, nor the header's where they are taken as 0
  pub sync_free : (masked : Bool) (s : List ℕ) (k v : ℕ) → k < 12 → parity_holds masked (set s k v) ≡ parity_holds masked s
  pub header_free : (s : List ℕ) (k v : ℕ) → 12 ≤ k → k < 16 → parity_holds true (set s k v) ≡ parity_holds true s
