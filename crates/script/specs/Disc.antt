-- What sector lines carry, and how the next one arrives (paper 02, asks 1 and 4; docs/DECISIONS.md, "Bench"): the kind and the subheader that were said
-- last, and a run of bytes that are inverted, sync bytes too. They are the disc's and not the chip's. Assumes nothing.
use Rattle.std.specs.Prelude.{ℕ, ◌+◌, ◌%◌, Bool, ◌&&◌, List, ◌++◌, take, drop, replicate, ◌==◌, nat_le, if◌then◌else◌, Option, Some, None}
use Rattle.laws.specs.Bytes.{inverted}
use Rattle.sector.specs.Calls.{seal_sector, no_subheader}
use Rattle.sector.specs.declared.Address.{Address}
use Rattle.sector.specs.declared.Subheader.{Subheader}
use Rattle.syntax.specs.declared.line.Line.{Line}
use Rattle.syntax.specs.declared.line.Line.TheVariants.{Open, Plain, Look, Take, Disc, Scratch, SetKind, SetSubheader}
use Rattle.script.specs.declared.disc.Damage.{Damage}
use Rattle.script.specs.declared.disc.Carried.{Carried}

-- no byte is inverted
abbrev pub undamaged : Damage
undamaged = record { from = 0; count = 0 }

-- the end of the inverted bytes is not above 2,352
abbrev pub inside : ℕ → ℕ → Bool
inside from count = nat_le (from + count) 2352

-- the sector with those bytes inverted; damage that is not inside, as no line makes it, is none
unfoldable pub scratched : Damage → List ℕ → List ℕ
scratched d s =
    if inside d.from d.count
    then take d.from s ++ (inverted (take d.count (drop d.from s)) ++ drop (d.from + d.count) s)
    else s

-- a kind is 1, 2 or 3
abbrev pub known : ℕ → Bool
known k = nat_le 1 k && nat_le k 3

-- four numbers of a byte each
abbrev pub four_bytes : ℕ → ℕ → ℕ → ℕ → Bool
four_bytes f h m i = nat_le f 255 && (nat_le h 255 && (nat_le m 255 && nat_le i 255))

-- the subheader of four numbers, which are bytes where the line is accepted
abbrev pub subheader_of : ℕ → ℕ → ℕ → ℕ → Subheader
subheader_of f h m i = record { file = f % 256; channel = h % 256; submode = m % 256; coding = i % 256 }

-- at first: kind 1, a subheader of zeros, no damage
abbrev pub at_first : Carried
at_first = record { kind = 1; subheader = no_subheader; damage = undamaged }

-- what an accepted line makes of it: kind, subheader and scratch lines set their own; a sector line uses up the damage; an opening puts all back
abbrev pub carried_by : Carried → Line → Carried
carried_by d (Scratch from count) = record { kind = d.kind; subheader = d.subheader; damage = record { from = from; count = count } }
carried_by d (SetKind k) = record { kind = k; subheader = d.subheader; damage = d.damage }
carried_by d (SetSubheader f h m i) = record { kind = d.kind; subheader = subheader_of f h m i; damage = d.damage }
carried_by d (Disc a byte) = record { kind = d.kind; subheader = d.subheader; damage = undamaged }
carried_by d (Open n) = at_first
carried_by d (Plain call) = d
carried_by d Look = d
carried_by d Take = d

-- a line that the grammar has not says nothing
abbrev pub carried_on : Carried → Option Line → Carried
carried_on d None = d
carried_on d (Some line) = carried_by d line

-- a refused one leaves it
unfoldable pub carried_after : Carried → Option Line → ℕ → Carried
carried_after d line n = if n == 0 then carried_on d line else d

-- a bench sector before it is sealed: every byte is the fill; sealing writes all but the kind's user bytes
abbrev pub unsealed : ℕ → List ℕ
unsealed byte = replicate 2352 byte

-- the sector of a sector line, as it arrives
unfoldable pub arriving : Carried → Address → ℕ → List ℕ
arriving d a byte = scratched d.damage (seal_sector (unsealed byte) a d.kind d.subheader)
