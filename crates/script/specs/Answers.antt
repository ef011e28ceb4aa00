-- What the bench answers to a call (paper 01, "Bench cases"; docs/DECISIONS.md, "Bench"), by the chip's own definitions. Assumes nothing.
use Rattle.std.specs.Prelude.{ℕ, ◌*◌, Bool, true, false, not, List, ◌++◌, length, take, drop, ◌==◌, nat_lt, if◌then◌else◌, Option, Some, None, Result, Ok, Err}
use Rattle.reply.specs.Reply.{Reply, number}
use Rattle.reply.specs.declared.Refusal.{Refusal}
use Rattle.sector.specs.Address.{valid}
use Rattle.sector.specs.Judge.{why}
use Rattle.sector.specs.Layout.{agrees}
use Rattle.sector.specs.declared.Address.{Address}
use Rattle.chip.specs.Chip.{opened}
use Rattle.chip.specs.Calls as calls
use Rattle.chip.specs.declared.Chip.{Chip}
use Rattle.chip.specs.Told.{Told}
use Rattle.chip.specs.declared.Accepted.{Accepted}
use Rattle.syntax.specs.declared.line.Line.{Line}
use Rattle.syntax.specs.declared.line.Line.TheVariants.{Open, Plain, Look, Take, Disc, Scratch, SetKind, SetSubheader}
use Rattle.script.specs.Disc.{inside, known, four_bytes, arriving}
use Rattle.script.specs.declared.disc.Carried.{Carried}
use Rattle.syntax.specs.declared.print.Shown.{Shown}

-- what is answered to a line: the chip that is open after it, or, where none is, the record whose counters are shown; the reply number and the result
-- that is printed
pub record Answer : Type 0 where
  pub chip : Result Chip Chip
  pub number : ℕ
  pub out : ℕ

-- a refusal: its number, out 0, and the chip there was
abbrev pub refused : Result Chip Chip → ℕ → Answer
refused o number = record { chip = o; number = number; out = 0 }

-- a call that is done
abbrev pub done : Chip → ℕ → Answer
done c out = record { chip = Ok c; number = 0; out = out }

-- the answer that a call's result stands for, where this chip was open before it, or none was
abbrev pub answer_of : Result Chip Chip → Result Accepted Refusal → Answer
answer_of o (Ok a) = done a.chip a.value
answer_of o (Err r) = refused o (number r)

-- and of a reply, where this is open after it, or none is
abbrev pub answer_by : Result Chip Chip → Reply → Answer
answer_by o r = record { chip = o; number = r.number; out = r.result }

-- the chip's own answer
abbrev pub of_told : Told → Answer
of_told t = record { chip = Ok t.chip; number = t.reply.number; out = t.reply.result }

-- a ring above 25 blocks, or one that the chip refuses, is 1 and keeps the chip there was
unfoldable pub opening : Result Chip Chip → ℕ → Answer
opening o n =
    if nat_lt 25 n then refused o 1
    else if (opened n).reply.number == 0 then of_told (opened n)
    else refused o 1

-- the host word: the chip after it, its number and its value
unfoldable pub word : Chip → List ℕ → Answer
word c ring =
    record {
      chip = Ok (calls.word_told c ring).chip;
      number = calls.word_number (calls.word_told c ring).word;
      out = calls.word_value (calls.word_told c ring).word;
    }

-- the length in bytes of what a look shows
abbrev pub look : Chip → List ℕ → Answer
look c ring = done c (length (calls.looked c ring))

-- what a call leaves: its answer, the memory that it was lent, and the sector buffer
pub record Answered : Type 0 where
  pub answer : Answer
  pub memory : List ℕ
  pub sector : List ℕ

-- an answer that changes no byte
abbrev pub unchanged : List ℕ → List ℕ → Answer → Answered
unchanged m s a = record { answer = a; memory = m; sector = s }

-- the reply number of a sector line, before a byte is written: 1 for a buffer of another size, 3 for the fill, the address, or a subheader of the other
-- form, then the chip's own, which looks at no more of the buffer than its length
unfoldable pub disc_number : Chip → Carried → List ℕ → List ℕ → Address → ℕ → ℕ
disc_number c d ring s a byte =
    if not (length s == 2352) then 1
    else if nat_lt 255 byte then 3
    else if not (valid a) then 3
    else if not (agrees d.kind d.subheader) then 3
    else calls.sector_number c ring s

-- a sector that is given to the chip, and stays in the buffer
abbrev pub brought : Chip → List ℕ → List ℕ → Answered
brought c ring s = record { answer = of_told (calls.sector_told c ring s); memory = calls.sector_ring c ring s; sector = s }

-- a sector line: the sector is sealed in the buffer, damaged on its way and brought, and a refusal leaves memory and buffer as they were
unfoldable pub disc : Chip → Carried → List ℕ → List ℕ → Address → ℕ → Answered
disc c d ring s a byte =
    if disc_number c d ring s a byte == 0 then brought c ring (arriving d a byte)
    else unchanged ring s (refused (Ok c) (disc_number c d ring s a byte))

-- a line that says something of the next sectors: 3 where its numbers are out of range
unfoldable pub said : Chip → Bool → Answer
said c in_range = record { chip = Ok c; number = if in_range then 0 else 3; out = 0 }

-- the calls of an open chip: only an accepted sector changes the ring and the buffer
unfoldable pub called : Chip → Carried → List ℕ → List ℕ → Line → Answered
called c d ring s (Open n) = unchanged ring s (opening (Ok c) n)
called c d ring s (Plain call) = unchanged ring s (of_told (calls.called c call))
called c d ring s Look = unchanged ring s (look c ring)
called c d ring s Take = unchanged ring s (word c ring)
called c d ring s (Disc a byte) = disc c d ring s a byte
called c d ring s (Scratch from count) = unchanged ring s (said c (inside from count))
called c d ring s (SetKind k) = unchanged ring s (said c (known k))
called c d ring s (SetSubheader f h m i) = unchanged ring s (said c (four_bytes f h m i))

-- before an accepted opening every other call is 5
unfoldable pub closed : Chip → Line → Answer
closed c (Open n) = opening (Err c) n
closed c (Plain call) = refused (Err c) 5
closed c Look = refused (Err c) 5
closed c Take = refused (Err c) 5
closed c (Disc a byte) = refused (Err c) 5
closed c (Scratch from count) = refused (Err c) 5
closed c (SetKind k) = refused (Err c) 5
closed c (SetSubheader f h m i) = refused (Err c) 5

-- the ring of the open chip is the start of the lent memory, as long as its N blocks
abbrev pub size : Chip → ℕ
size c = c.place.n * 2560

-- and no byte behind it is changed
abbrev pub with_rest : Answered → List ℕ → Answered
with_rest a rest = record { answer = a.answer; memory = a.memory ++ rest; sector = a.sector }

-- a line that the grammar has not is 2; one that it has, with no chip open, and with one
unfoldable pub answered : Result Chip Chip → Carried → List ℕ → List ℕ → Option Line → Answered
answered o d m s None = unchanged m s (refused o 2)
answered (Err c) d m s (Some line) = unchanged m s (closed c line)
answered (Ok c) d m s (Some line) = with_rest (called c d (take (size c) m) s line) (drop (size c) m)

-- whether a chip is open
abbrev pub is_open : Result Chip Chip → Bool
is_open (Ok c) = true
is_open (Err c) = false

-- the chip whose counters are printed
abbrev pub the_chip : Result Chip Chip → Chip
the_chip (Ok c) = c
the_chip (Err c) = c

-- what the printed line shows: the answer, and after the call the counters, what failed of the last stored sector, and the interrupt
abbrev pub shown : Answer → ℕ → Shown
shown a n =
    record {
      lines = n;
      number = a.number;
      out = a.out;
      tcc = (the_chip a.chip).controller.counts.tcc;
      bufc = (the_chip a.chip).controller.counts.bufc;
      why = why (the_chip a.chip).controller.judgement;
      irq = (the_chip a.chip).controller.hirq;
    }
