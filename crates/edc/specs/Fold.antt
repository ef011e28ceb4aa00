-- Words of the private functions' contracts: the register moved on with no data, and fed with words of 64 bits.
-- No public contract cites them. Assumes nothing.
use Rattle.std.specs.Prelude.{◌≡◌, Bool, true, ◌&&◌, List, ℕ, zero, suc, ◌+◌, ◌*◌, ◌/◌, ◌%◌, ◌^◌, ◌<◌, ◌≤◌, eqb, get_or, if◌then◌else◌}
use Rattle.std.specs.Int.Bits.{bit_xor}
use Rattle.edc.specs.Edc.{feedback}

-- the register after one bit with no data, and after n
unfoldable pub shift : ℕ → ℕ
shift x = bit_xor (x / 2) (x % 2 * feedback)

unfoldable pub shifts : ℕ → ℕ → ℕ
shifts zero x = x
shifts (suc n) x = shifts n (shift x)

-- a unit of s bits may be moved on by 16, 28 and 31 units: x^(31s) + x^(15s) + x^(3s) + 1 is a multiple of the generator
abbrev pub Folds : ℕ → Type 0
Folds s = (x : ℕ) → x < 2 ^ 32 → shifts (31 * s) x ≡ bit_xor (bit_xor (shifts (15 * s) x) (shifts (3 * s) x)) x

-- that holds of 2, and of the double of each s that it holds of: the test, for n doubles
unfoldable pub scale : ℕ → ℕ → Bool
scale zero s = eqb s 2
scale (suc n) s = if eqb s 2 then true else (eqb (s % 2) 0 && scale n (s / 2))

-- an empty register fed with n words, the first of them g 0
unfoldable pub code : (ℕ → ℕ) → ℕ → ℕ
code g zero = 0
code g (suc n) = shifts 64 (bit_xor (code g n) (g n))

-- the words of a list from i on, and those of the ring
abbrev pub along : List ℕ → ℕ → ℕ → ℕ
along l i k = get_or l (i + k) 0

abbrev pub round : List ℕ → ℕ → ℕ → ℕ
round x i k = get_or x ((i + k) % 32) 0

-- the register that the quotient's last 31 words stand for
abbrev pub left : (ℕ → ℕ) → ℕ
left g = bit_xor (bit_xor (code g 31) (code g 15)) (code g 3)

-- the register that the ring x stands for, where the next word goes to place i
abbrev pub held : List ℕ → ℕ → ℕ
held x i = left (round x (i + 1))

-- d places on from any place between start and end is d - a on in the ring
abbrev pub Reach : ℕ → ℕ → ℕ → ℕ → Type 0
Reach start end d a = (a % 32 ≡ 0) × (a ≤ start + d) × (end + d ≤ a + 32)

-- the high half of a word after its low half is folded into it
abbrev pub halved : ℕ → ℕ
halved a = bit_xor (bit_xor (bit_xor (a / 2 ^ 32) (a % 2 ^ 32)) (a % 2 ^ 32 % 2 ^ 8 * 2 ^ 24)) (a % 2 ^ 32 % 2 ^ 2 * 2 ^ 30)

-- a word of 64 bits k places up, and with itself k places up
unfoldable pub up : ℕ → ℕ → ℕ
up k x = x * 2 ^ k % 2 ^ 64

unfoldable pub on : ℕ → ℕ → ℕ
on k x = bit_xor x (x * 2 ^ k % 2 ^ 64)
