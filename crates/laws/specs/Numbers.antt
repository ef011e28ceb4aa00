-- Numbers made of switches. Assumes nothing.
use Rattle.std.specs.Prelude.{Bool, List, [], ◌∷◌, ℕ, ◌+◌, ◌*◌, if◌then◌else◌}

-- a switch as the bit of weight w
abbrev pub weight : Bool → ℕ → ℕ
weight b w = if b then w else 0

-- switches as the bits of a number, the first in bit 0
abbrev pub switches : List Bool → ℕ
switches [] = 0
switches (b ∷ bs) = weight b 1 + 2 * switches bs
