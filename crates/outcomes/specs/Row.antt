-- The row machine: a controller, a number of blocks and a row of good sectors, oldest first. It answers and steps by the controller's own
-- definitions, and has no block numbers and no memory: of what a ring of N blocks is, it knows N alone. Assumes nothing.
use Rattle.std.specs.Prelude.{ℕ, ◌+◌, ◌*◌, ◌<◌, ◌≤◌, ◌≡◌, ◌&&◌, not, List, [], ◌∷◌, ◌++◌, eqb, length, take, drop, get_or, if◌then◌else◌}
use Rattle.laws.specs.Bytes.{word_at}
use Rattle.calls.specs.declared.Call.{Call as Plain}
use Rattle.sector.specs.Judge.{good}
use Rattle.sector.specs.Receive.{received}
use Rattle.controller.specs.Step.{Step}
use Rattle.controller.specs.Calls.{stepped}
use Rattle.controller.specs.Decoder.{admission, counted}
use Rattle.controller.specs.Host.{host_word}
use Rattle.controller.specs.State.{initial}
use Rattle.controller.specs.Transfer.{concluded}
use Rattle.controller.specs.declared.state.Controller.{Controller}
use Rattle.controller.specs.declared.step.RingFacts.{RingFacts}
use Rattle.outcomes.specs.Book.{Book, book_of, facts_of}
use Rattle.outcomes.specs.Invariant.{Invariant, moved}
use Rattle.outcomes.specs.Machine.{Call, plain, sector, look, word, Answer, replied, handed, refused, seen, Machine}

pub record Row : Type 0 where
  pub controller : Controller
  pub blocks : ℕ
  pub row : List (List ℕ)

-- the book that it shows
abbrev pub shown : Row → Book
shown s = book_of s.controller s.row

-- it tells a call N, and 0 for the block numbers that it does not have
abbrev pub row_facts : Row → RingFacts
row_facts s = record { n = s.blocks; t = 0; last = 0 }

-- the step of a call that touches no memory, and of the host's word
abbrev pub plain_step : Plain → Row → Step
plain_step c s = concluded (stepped s.controller c (row_facts s))

abbrev pub word_step : Row → Step
word_step s = concluded (host_word s.controller)

-- a sector: 1 for a wrong length, then 7, 8, 9; a ring of N blocks is full when N-1 are filled
abbrev pub sector_number : List ℕ → Row → ℕ
sector_number x s =
    if not (eqb (length x) 2352) then 1
    else admission s.controller (eqb (s.controller.counts.bufc + 1) s.blocks)

abbrev pub sector_step : List ℕ → Row → Step
sector_step x s = concluded (counted s.controller (received s.controller.expected x).judgement)

-- the row after a sector that was stored: a good one joins its end
abbrev pub grown : Controller → List ℕ → List (List ℕ) → List (List ℕ)
grown c x row = if good (received c.expected x).judgement then row ++ (received c.expected x).bytes ∷ [] else row

-- the row after another step
abbrev pub left_by : Step → Row → Row
left_by r s = record { controller = r.controller; blocks = s.blocks; row = moved r.event s.row }

abbrev pub answered : Step → Answer
answered r = replied r.reply.number r.reply.result

-- a word of the first sector, at the window's offset and the transfer's position
abbrev pub word_answered : Step → Row → Answer
word_answered r s =
    if eqb r.reply.number 0
    then handed (word_at (get_or s.row 0 []) (s.controller.window.offset + 2 * s.controller.transfer.position))
    else refused r.reply.number

-- the window's bytes of the first sector
abbrev pub looked : Row → List ℕ
looked s =
    if not (eqb s.controller.counts.tcc 0) && not (eqb s.controller.window.words 0)
    then take (2 * s.controller.window.words) (drop s.controller.window.offset (get_or s.row 0 []))
    else []

unfoldable pub row_answer : Call → Row → Answer
row_answer (plain c) s = answered (plain_step c s)
row_answer (sector x) s = if eqb (sector_number x s) 0 then answered (sector_step x s) else replied (sector_number x s) 0
row_answer look s = seen (looked s)
row_answer word s = word_answered (word_step s) s

unfoldable pub row_step : Call → Row → Row
row_step (plain c) s = left_by (plain_step c s) s
row_step (sector x) s =
    if eqb (sector_number x s) 0 then record { controller = (sector_step x s).controller; blocks = s.blocks; row = grown s.controller x s.row }
    else s
row_step look s = s
row_step word s = left_by (word_step s) s

-- what holds of every row that is reached from an opening
pub record Valid (r : Row) : Type 0 where
  pub invariant : Invariant r.controller
  -- BUFLIM fits the ring, and one block stays free
  pub buflim : r.controller.buffering.buflim + 2 ≤ r.blocks
  pub room : r.controller.counts.bufc < r.blocks
  pub least : 3 ≤ r.blocks
  -- TCC is the number of sectors
  pub good : length r.row ≡ r.controller.counts.tcc

abbrev pub the_row : Machine
the_row =
    record {
      State = Row;
      opened = λ n x. record { controller = initial; blocks = n; row = [] };
      answer = row_answer;
      step = row_step;
      facts = λ s. facts_of s.controller;
    }
