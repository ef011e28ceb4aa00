-- A line of the listing, the largest number of a call, and the length of the longest line, as the definitions give them; there is room for
-- the longest. Assumes nothing.
use mathlib.Core.Path.{◌≡◌, refl}
use mathlib.Core.Bool.{false}
use mathlib.Core.List.{[], ◌∷◌}
use Prim.Native.Nat.{◌≤◌}
use native.Mathlib.Omega.{arith}
use Rattle.syntax.specs.Print.{printed, longest, room, decimal, decimal_upto}

-- "n=5 answer=0 out=0 tcc=1 bufc=1 why=0 irq=0" and the line end
line_5 : printed (record { lines = 5; number = 0; out = 0; tcc = 1; bufc = 1; why = 0; irq = false })
    ≡ 110 ∷ 61 ∷ 53 ∷ 32 ∷ 97 ∷ 110 ∷ 115 ∷ 119 ∷ 101 ∷ 114 ∷ 61 ∷ 48 ∷ 32 ∷ 111 ∷ 117 ∷ 116 ∷ 61 ∷ 48 ∷ 32 ∷ 116 ∷ 99 ∷ 99 ∷ 61 ∷ 49
    ∷ 32 ∷ 98 ∷ 117 ∷ 102 ∷ 99 ∷ 61 ∷ 49 ∷ 32 ∷ 119 ∷ 104 ∷ 121 ∷ 61 ∷ 48 ∷ 32 ∷ 105 ∷ 114 ∷ 113 ∷ 61 ∷ 48 ∷ 10 ∷ []
unfolding printed decimal decimal_upto
line_5 = refl

-- "65535"
largest : decimal 65535 ≡ 54 ∷ 53 ∷ 53 ∷ 51 ∷ 53 ∷ []
unfolding decimal decimal_upto
largest = refl

-- 36 bytes of keys, 59 digits and the line's end
longest_is : longest ≡ 96
longest_is = refl

longest_room : longest ≤ room
longest_room = omega arith
