-- What the code's steps over rows of words give; nothing of it is in the promises. Assumes nothing.
use Rattle.std.specs.Prelude.{◌≡◌, Bool, ◌&&◌, List, ◌⊎◌, ℕ, zero, suc, ◌+◌, ◌*◌, ◌-◌, ◌/◌, ◌%◌, ◌<◌, ◌≤◌, min, eqb, ltb, length, get_or, if◌then◌else◌}
use Rattle.std.specs.Int.Bits.{bit_xor}
use Rattle.laws.specs.Listed.{listed, all_below}
use Rattle.parity.specs.Field.{times_x, product, power}
use Rattle.parity.specs.Word.{sum}
use Rattle.parity.specs.Layout.{Code, value_at, word}

-- Tables

-- c times 0 to 15
abbrev pub multiples : ℕ → List ℕ
multiples c = listed 16 (λ k. product c k)

-- Rows of words

-- the weighted sum of n symbols, symbol by symbol: what was there times x, and the next one
unfoldable pub horner : ℕ → (ℕ → ℕ) → ℕ
horner zero g = 0
horner (suc n) g = bit_xor (times_x (horner n g)) (g n)

-- the first row, bytes 12 to 97, as the words see it
abbrev pub first_row : Bool → List ℕ → List ℕ
first_row z s = listed 86 (λ k. value_at z s (12 + k))

-- byte k of a sector whose first row, bytes 12 to 97, is another one
abbrev pub view : List ℕ → List ℕ → ℕ → ℕ
view first s k = if ltb k 98 then get_or first (k - 12) 0 else get_or s k 0

-- one more symbol, x u, for each of the n words from place k on, whose sums stand in a and b; all others stay
pub record Taken (x : ℕ → ℕ) (k n : ℕ) (a b a' b' : List ℕ) : Type 0 where
  pub size_a : length a' ≡ length a
  pub size_b : length b' ≡ length b
  pub plain : (u : ℕ) → u < n → get_or a' (k + u) 0 ≡ bit_xor (get_or a (k + u) 0) (x u)
  pub weights : (u : ℕ) → u < n → get_or b' (k + u) 0 ≡ bit_xor (times_x (get_or b (k + u) 0)) (x u)
  pub others_a : (u : ℕ) → (u < k) ⊎ (k + n ≤ u) → get_or a' u 0 ≡ get_or a u 0
  pub others_b : (u : ℕ) → (u < k) ⊎ (k + n ≤ u) → get_or b' u 0 ≡ get_or b u 0

-- a and b are the two sums of n words: of the one at place u, which is g u, the first `met u` symbols are in them
pub record AreSums (g : ℕ → ℕ → ℕ) (met : ℕ → ℕ) (n : ℕ) (a b : List ℕ) : Type 0 where
  pub size_a : length a ≡ n
  pub size_b : length b ≡ n
  pub plain : (u : ℕ) → u < n → get_or a u 0 ≡ sum (met u) (g u)
  pub weights : (u : ℕ) → u < n → get_or b u 0 ≡ horner (met u) (g u)

-- the P word at place v, of the bytes t
abbrev pub p_lane : (ℕ → ℕ) → ℕ → ℕ → ℕ
p_lane t v m = t (12 + 86 * m + v)

-- the Q word at place u, the last word first: word 25 - u / 2 of plane u % 2, by rows and columns
abbrev pub q_lane : (ℕ → ℕ) → ℕ → ℕ → ℕ
q_lane t u m = t (12 + 86 * ((25 - u / 2 + m) % 26) + 2 * m + u % 2)

-- how many of its 43 data symbols it has met before step r: word n begins with step n
abbrev pub met : ℕ → ℕ → ℕ
met r u = min (r - (25 - u / 2)) 43

-- the words in their own order
abbrev pub in_word_order : List ℕ → List ℕ
in_word_order a = listed 52 (λ v. get_or a (50 - 2 * (v / 2) + v % 2) 0)

-- a and b are the two sums of the data of each word of a code
pub record Summed (c : Code) (z : Bool) (s a b : List ℕ) : Type 0 where
  pub size_a : length a ≡ 2 * c.words
  pub size_b : length b ≡ 2 * c.words
  pub plain : (v : ℕ) → v < 2 * c.words → get_or a v 0 ≡ sum c.data_size (word c z s v)
  pub weights : (v : ℕ) → v < 2 * c.words → get_or b v 0 ≡ horner c.data_size (word c z s v)

-- The two symbols that follow

-- from the sums of the data, plain and weighted
abbrev pub first_of_sums : ℕ → ℕ → ℕ
first_of_sums a b = product (power 230) (bit_xor (times_x (times_x b)) a)

abbrev pub firsts : List ℕ → List ℕ → List ℕ
firsts a b = listed (length a) (λ v. first_of_sums (get_or a v 0) (get_or b v 0))

abbrev pub seconds : List ℕ → List ℕ → List ℕ
seconds a b = listed (length a) (λ v. bit_xor (first_of_sums (get_or a v 0) (get_or b v 0)) (get_or a v 0))

-- whether x and y after data of the sums a and b make both sums 0
abbrev pub fits : ℕ → ℕ → ℕ → ℕ → Bool
fits a b x y = eqb (bit_xor (bit_xor a x) y) 0 && eqb (bit_xor (times_x (bit_xor (times_x b) x)) y) 0

abbrev pub all_fit : List ℕ → List ℕ → List ℕ → List ℕ → Bool
all_fit a b x y = all_below (length a) (λ v. fits (get_or a v 0) (get_or b v 0) (get_or x v 0) (get_or y v 0))
