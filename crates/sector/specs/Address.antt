-- The address of a sector (ECMA-130, clause 14; paper 01, "Sectors"). Assumes nothing.
use Rattle.std.specs.Prelude.{Bool, ◌&&◌, List, [], ◌∷◌, ℕ, ◌+◌, ◌*◌, ◌/◌, ◌%◌, leb, ltb, get_or, if◌then◌else◌}
use Rattle.sector.specs.declared.Address.{Address}

-- minute 0 to 99, second 0 to 59, frame 0 to 74
abbrev pub valid : Address → Bool
valid a = leb a.minute 99 && (leb a.second 59 && leb a.frame 74)

-- the address that follows; 00:00:00 follows 99:59:74 (paper 01, "The ring")
unfoldable pub next : Address → Address
next a =
    if ltb a.frame 74 then record { minute = a.minute; second = a.second; frame = a.frame + 1 }
    else if ltb a.second 59 then record { minute = a.minute; second = a.second + 1; frame = 0 }
    else if ltb a.minute 99 then record { minute = a.minute + 1; second = 0; frame = 0 }
    else record { minute = 0; second = 0; frame = 0 }

-- two decimal digits in a byte, and back
abbrev pub bcd : ℕ → ℕ
bcd n = n / 10 * 16 + n % 10

abbrev pub from_bcd : ℕ → ℕ
from_bcd b = b / 16 * 10 + b % 16

-- bytes 12 to 14 of a sector at the address
abbrev pub address_bytes : Address → List ℕ
address_bytes a = bcd a.minute ∷ bcd a.second ∷ bcd a.frame ∷ []

-- the address that bytes 12 to 14 of a sector give
unfoldable pub address_of : List ℕ → Address
address_of s = record { minute = from_bcd (get_or s 12 0); second = from_bcd (get_or s 13 0); frame = from_bcd (get_or s 14 0) }
