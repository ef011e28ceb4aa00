-- What a line of input means (paper 01, "Bench cases"; docs/DECISIONS.md, "Bench"): a line is bytes without their end; it is read by
-- its form and the values of its runs of decimal digits. Assumes nothing.
use Rattle.std.specs.Prelude.{ℕ, ◌+◌, ◌*◌, ◌-◌, Bool, true, false, ◌&&◌, not, List, [], ◌∷◌, ltb, leb, length, if◌then◌else◌, Option, Some, None}
use Rattle.laws.specs.Same.{same}
use Rattle.syntax.specs.Forms.{open_form, read_form, block_form, packet_form, command_form, send_form, write_form, window_form, address_form, sector_form, scratch_form, kind_form, subheader_form, reset_form, look_form, word_form, status_form, srst_form}
use Rattle.syntax.specs.declared.values.Numbers.{Numbers}
use Rattle.syntax.specs.declared.line.Line.{Line}
use Rattle.syntax.specs.declared.line.Line.TheVariants.{Open, Plain, Look, Take, Disc, Scratch, SetKind, SetSubheader}
use Rattle.calls.specs.declared.Call.TheVariants.{Read, Write, SetBlock, SetWindow, SetExpected, PacketByte, Reset, Command, PacketWord, Status, Srst}

-- `0` to `9`
abbrev pub digit : ℕ → Bool
digit b = leb 48 b && leb b 57

-- what a byte is written as in the form
unfoldable pub mark : ℕ → ℕ
mark b = if digit b then 48 else b

-- the form of a line: its bytes, each run of digits written as one `0`; the Bool says whether the byte before was a digit
unfoldable pub form : Bool → List ℕ → List ℕ
form inside [] = []
form inside (b ∷ bs) = if inside && digit b then form true bs else mark b ∷ form (digit b) bs

-- a digit that follows a digit: ten times the value, and the digit; none above 65,535
abbrev pub longer : Numbers → ℕ → Option Numbers
longer n byte =
    if ltb 65535 (n.d * 10 + (byte - 48)) then None
    else Some (record { a = n.a; b = n.b; c = n.c; d = n.d * 10 + (byte - 48); inside = true })

-- one byte more: the last four runs, d the latest
unfoldable pub next : Numbers → ℕ → Option Numbers
next n byte =
    if not (digit byte) then Some (record { a = n.a; b = n.b; c = n.c; d = n.d; inside = false })
    else if n.inside then longer n byte
    else Some (record { a = n.b; b = n.c; c = n.d; d = byte - 48; inside = true })

-- the same where the numbers so far fit
abbrev pub go_on : Option Numbers → ℕ → Option Numbers
go_on None byte = None
go_on (Some n) byte = next n byte

-- the bytes one after the other
unfoldable pub onward : Option Numbers → List ℕ → Option Numbers
onward o [] = o
onward o (b ∷ bs) = onward (go_on o b) bs

-- before any byte
abbrev pub none : Numbers
none = record { a = 0; b = 0; c = 0; d = 0; inside = false }

-- the numbers of a line; none where one is above 65,535
abbrev pub numbers : List ℕ → Option Numbers
numbers line = onward (Some none) line

-- the calls with no number
unfoldable pub bare : List ℕ → Option Line
bare f =
    if same f reset_form then Some (Plain Reset)
    else if same f look_form then Some Look
    else if same f word_form then Some Take
    else if same f status_form then Some (Plain Status)
    else if same f srst_form then Some (Plain Srst)
    else None

-- the disc's: a sector, what it arrives with, and what sectors carry
unfoldable pub disc : List ℕ → Numbers → Option Line
disc f n =
    if same f sector_form then Some (Disc (record { minute = n.a; second = n.b; frame = n.c }) n.d)
    else if same f scratch_form then Some (Scratch n.c n.d)
    else if same f kind_form then Some (SetKind n.d)
    else if same f subheader_form then Some (SetSubheader n.a n.b n.c n.d)
    else bare f

-- the chip's calls with several numbers
unfoldable pub several : List ℕ → Numbers → Option Line
several f n =
    if same f write_form then Some (Plain (Write n.c n.d))
    else if same f window_form then Some (Plain (SetWindow n.c n.d))
    else if same f address_form then Some (Plain (SetExpected (record { minute = n.b; second = n.c; frame = n.d })))
    else disc f n

-- the calls with one number
unfoldable pub named : List ℕ → Numbers → Option Line
named f n =
    if same f open_form then Some (Open n.d)
    else if same f read_form then Some (Plain (Read n.d))
    else if same f block_form then Some (Plain (SetBlock n.d))
    else if same f packet_form then Some (Plain (PacketByte n.d))
    else if same f command_form then Some (Plain (Command n.d))
    else if same f send_form then Some (Plain (PacketWord n.d))
    else several f n

-- where all numbers fit
abbrev pub read : List ℕ → Option Numbers → Option Line
read f None = None
read f (Some n) = named f n

-- malformed: longer than 80 bytes, a run above 65,535, or none of the forms
unfoldable pub parse : List ℕ → Option Line
parse line =
    if ltb 80 (length line) then None
    else read (form false line) (numbers line)
