-- The lines of a text, run one after the other (paper 01, "Bench cases"). Assumes nothing.
use Rattle.std.specs.Prelude.{ℕ, suc, ◌+◌, not, List, [], ◌∷◌, ◌++◌, length, ◌==◌, nat_lt, if◌then◌else◌}
use Rattle.syntax.specs.Print.{room, over}
use Rattle.script.specs.Answers.{Answered}
use Rattle.script.specs.Bench.{Left, reply, carried_left, count, text, after}
use Rattle.script.specs.declared.Bench.{Bench}
use Rattle.script.specs.declared.disc.Carried.{Carried}
use Rattle.script.specs.declared.lines.Fed.{Fed}

-- what lines leave: the bench, the ring's memory, the sector buffer, all that was printed, and how many bytes of the text they took
pub record Progress : Type 0 where
  pub bench : Bench
  pub memory : List ℕ
  pub sector : List ℕ
  pub printed : List ℕ
  pub taken : ℕ

-- how many bytes stand before a text's first line end, or are in it where it has none
unfoldable pub line_end : List ℕ → ℕ
line_end [] = 0
line_end (b ∷ bs) = if b == 10 then 0 else suc (line_end bs)

-- before the first line
abbrev pub begun : Bench → List ℕ → List ℕ → Progress
begun b m s = record { bench = b; memory = m; sector = s; printed = []; taken = 0 }

-- one line more: its answer, and the bytes that it took with its end
abbrev pub with_answer : Progress → Answered → Carried → ℕ → Progress
with_answer d a carried size =
    record {
      bench = after a.answer carried (count d.bench);
      memory = a.memory;
      sector = a.sector;
      printed = d.printed ++ text a.answer (count d.bench);
      taken = d.taken + size;
    }

abbrev pub with_line : Progress → List ℕ → Progress
with_line d line =
    let a = reply d.bench d.memory d.sector line in
    with_answer d a (carried_left d.bench line a.answer.number) (length line + 1)

-- every line that has an end, in order, while there is room for its answer in so many bytes; `line` is what has come of the present one
unfoldable pub fed : ℕ → Progress → List ℕ → List ℕ → Progress
fed bytes d line [] = d
fed bytes d line (b ∷ bs) =
    if not (b == 10) then fed bytes d (line ++ (b ∷ [])) bs
    else if nat_lt bytes (length d.printed + room) then d
    else fed bytes (with_line d line) [] bs

-- what a call leaves that made such progress: the answers at the front of the buffer, and their length
abbrev pub fed_left : Progress → List ℕ → Left Fed
fed_left d out =
    record {
      result = record { bench = d.bench; taken = d.taken; size = length d.printed };
      memory = d.memory;
      sector = d.sector;
      out = over d.printed out;
    }

-- a whole text
abbrev pub fed_text : Bench → List ℕ → List ℕ → List ℕ → List ℕ → Left Fed
fed_text b m s text out = fed_left (fed (length out) (begun b m s) [] text) out
