-- The book of a chip (paper 01, "Demand 3 in full"; paper 02, ask 1): fed only the chip's calls, with their arguments and reply numbers.
-- Assumes nothing.
use Rattle.std.specs.Prelude.{ℕ, ◌+◌, Bool, false, ◌&&◌, List, [], ◌∷◌, ◌++◌, eqb, take, drop, if◌then◌else◌}
use Rattle.calls.specs.Choice.{if_write, if_reset}
use Rattle.calls.specs.declared.Call.{Call as Plain}
use Rattle.calls.specs.declared.Call.TheVariants.{Write, Read, SetBlock, SetWindow, SetExpected, PacketByte, Reset, Command, PacketWord, Status, Srst}
use Rattle.sector.specs.Address.{next}
use Rattle.sector.specs.Judge.{good}
use Rattle.sector.specs.Receive.{received}
use Rattle.sector.specs.declared.Address.{Address}
use Rattle.controller.specs.Bits.{bit}
use Rattle.controller.specs.Fields.{◌▹◌}
use Rattle.controller.specs.declared.state.Controller.{Controller}
use Rattle.outcomes.specs.Machine.{Call, plain, sector, look, word, Facts, none_kept}

-- a row of sectors, an address, a window, ACMEN and k; and the facts of the last sector
pub record Book : Type 0 where
  pub row : List (List ℕ)
  pub expected : Address
  pub offset : ℕ
  pub words : ℕ
  pub acmen : Bool
  pub k : ℕ
  pub facts : Facts

-- setters, as the controller's fields have
abbrev pub row≔ : List (List ℕ) → Book → Book
row≔ v b = record { row = v; expected = b.expected; offset = b.offset; words = b.words; acmen = b.acmen; k = b.k; facts = b.facts }

abbrev pub expected≔ : Address → Book → Book
expected≔ v b = record { row = b.row; expected = v; offset = b.offset; words = b.words; acmen = b.acmen; k = b.k; facts = b.facts }

abbrev pub window≔ : ℕ → ℕ → Book → Book
window≔ o w b = record { row = b.row; expected = b.expected; offset = o; words = w; acmen = b.acmen; k = b.k; facts = b.facts }

abbrev pub acmen≔ : Bool → Book → Book
acmen≔ v b = record { row = b.row; expected = b.expected; offset = b.offset; words = b.words; acmen = v; k = b.k; facts = b.facts }

abbrev pub k≔ : ℕ → Book → Book
k≔ v b = record { row = b.row; expected = b.expected; offset = b.offset; words = b.words; acmen = b.acmen; k = v; facts = b.facts }

abbrev pub facts≔ : Facts → Book → Book
facts≔ v b = record { row = b.row; expected = b.expected; offset = b.offset; words = b.words; acmen = b.acmen; k = b.k; facts = v }

-- at opening or chip reset the row is empty, the address is 00:02:00, there is no window, ACMEN and k are 0, and no fact is set
abbrev pub first_book : Book
first_book = record { row = []; expected = record { minute = 0; second = 2; frame = 0 }; offset = 0; words = 0; acmen = false; k = 0; facts = none_kept }

-- descrambled and judged against the book's address, nothing fails
unfoldable pub takes : Book → List ℕ → Bool
takes b s = good (received b.expected s).judgement

-- what fails is noted
abbrev pub judged : List ℕ → Book → Book
judged s b = b ▹ facts≔ (record { judgement = (received b.expected s).judgement })

-- a good one joins the row's end, and the address goes up by 1
abbrev pub joined : List ℕ → Book → Book
joined s b = b ▹ row≔ (b.row ++ (received b.expected s).bytes ∷ []) ▹ expected≔ (next b.expected)

-- 9Ch sets ACMEN; 9Dh n: all but the first n leave; 9Eh n with ACMEN high: the first n leave
abbrev pub fed_write : ℕ → ℕ → Book → Book
fed_write reg v b =
    if eqb reg 0x9C then b ▹ acmen≔ (bit v 6)
    else if eqb reg 0x9D then b ▹ row≔ (take v b.row)
    else if eqb reg 0x9E && b.acmen then b ▹ row≔ (drop v b.row)
    else b

-- what an accepted call makes of the book; calls of which it takes no note leave it
abbrev pub fed_plain : Plain → Book → Book
fed_plain (Write reg v) b = fed_write reg v b
fed_plain (SetWindow o w) b = b ▹ window≔ o w
fed_plain (SetExpected a) b = b ▹ expected≔ a
fed_plain Reset b = first_book
fed_plain Srst b = b ▹ k≔ 0
fed_plain (Read reg) b = b
fed_plain (SetBlock t) b = b
fed_plain (PacketByte i) b = b
fed_plain (Command v) b = b
fed_plain (PacketWord w) b = b
fed_plain Status b = b

-- a word: k goes up by 1; at the window's words the first sector leaves, taken, and k is 0
abbrev pub fed : Call → Book → Book
fed (plain c) b = fed_plain c b
fed (sector s) b = if takes b s then judged s b ▹ joined s else judged s b
fed look b = b
fed word b = if eqb (b.k + 1) b.words then b ▹ row≔ (drop 1 b.row) ▹ k≔ 0 else b ▹ k≔ (b.k + 1)

-- refused calls change nothing; its type shows that only the call, its arguments and its reply number reach the book
unfoldable pub feed : Call → ℕ → Book → Book
feed c n b = if eqb n 0 then fed c b else b

-- the facts that a controller keeps
abbrev pub facts_of : Controller → Facts
facts_of c = record { judgement = c.judgement }

-- the book that a controller shows beside a row of sectors
abbrev pub book_of : Controller → List (List ℕ) → Book
book_of c row =
    record {
      row = row;
      expected = c.expected;
      offset = c.window.offset;
      words = c.window.words;
      acmen = c.acctl.acmen;
      k = c.transfer.position;
      facts = facts_of c;
    }

-- BLIMS, as the calls answered with 0 leave it
abbrev pub limited : Call → ℕ → Bool → Bool
limited (plain c) n l =
    if_write c (λ reg v. if eqb reg 0x9A && eqb n 0 then bit v 4 else l)
    (if_reset c (if eqb n 0 then false else l) l)
limited (sector s) n l = l
limited look n l = l
limited word n l = l
