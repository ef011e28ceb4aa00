-- The bench: what a line does and prints (paper 01, "Bench cases"; docs/DECISIONS.md, "Bench"). Assumes nothing.
use Rattle.std.specs.Prelude.{ℕ, ◌+◌, ◌%◌, ◌^◌, List, length, nat_lt, if◌then◌else◌, Err}
use Rattle.chip.specs.Chip.{closed}
use Rattle.syntax.specs.Grammar.{parse}
use Rattle.script.specs.Answers.{Answer, Answered, answered, shown}
use Rattle.syntax.specs.Print.{printed, room, over}
use Rattle.script.specs.Disc.{at_first, carried_after}
use Rattle.script.specs.declared.disc.Carried.{Carried}
use Rattle.script.specs.declared.Bench.{Bench}
use Rattle.script.specs.declared.Ran.{Ran}

-- before any line: no chip is open, a record of no blocks is shown, and sectors carry what they do at first
abbrev pub started : Bench
started = record { chip = Err closed; carried = at_first; lines = 0 }

-- what a call of the bench leaves: its result, the memory, the sector buffer, and the buffer that is printed into
pub record Left (A : Type 0) : Type 0 where
  pub result : A
  pub memory : List ℕ
  pub sector : List ℕ
  pub out : List ℕ

-- the answer to a line
abbrev pub reply : Bench → List ℕ → List ℕ → List ℕ → Answered
reply b m s line = answered b.chip b.carried m s (parse line)

-- and what sectors carry after it, by its reply number
abbrev pub carried_left : Bench → List ℕ → ℕ → Carried
carried_left b line number = carried_after b.carried (parse line) number

-- lines are counted from 1; the count is a number of 64 bits
abbrev pub count : Bench → ℕ
count b = (b.lines + 1) % 2 ^ 64

-- the bench after an answer
abbrev pub after : Answer → Carried → ℕ → Bench
after a d n = record { chip = a.chip; carried = d; lines = n }

-- the line printed
abbrev pub text : Answer → ℕ → List ℕ
text a n = printed (shown a n)

-- a line that is run: its answer is printed at the front of the buffer
abbrev pub told : Answered → Carried → ℕ → List ℕ → Left Ran
told a d n out =
    record {
      result = record { bench = after a.answer d n; size = length (text a.answer n) };
      memory = a.memory;
      sector = a.sector;
      out = over (text a.answer n) out;
    }

-- a line given with less room to print than `room` is not run
unfoldable pub ran : Bench → List ℕ → List ℕ → List ℕ → List ℕ → Left Ran
ran b m s line out =
    if nat_lt (length out) room then record { result = record { bench = b; size = 0 }; memory = m; sector = s; out = out }
    else told (reply b m s line) (carried_left b line (reply b m s line).answer.number) (count b) out
