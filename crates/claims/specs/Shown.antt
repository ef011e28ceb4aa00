-- What the calls' answers show of the book (paper 01, "What the contracts must pin": TCC and BUFC follow from the history of calls), stated of any
-- machine with the chip's calls: a look shows the window of the oldest sector that waits, 9Dh the number of sectors that wait, 9Bh one more
-- while a bad one is held; a sector that is stored is answered by its two bits, and 80h shows those of the last one. The history is the calls, their
-- reply numbers and, for held, their results. Assumes nothing.
use Rattle.std.specs.Prelude.{ℕ, ◌+◌, ◌*◌, ◌≤◌, ◌≡◌, Bool, true, false, ◌&&◌, ◌||◌, List, [], ◌∷◌, eqb, length, take, drop, get_or, if◌then◌else◌}
use Rattle.laws.specs.Numbers.{weight}
use Rattle.calls.specs.Choice.{if_write, if_reset}
use Rattle.calls.specs.declared.Call.TheVariants.{Read}
use Rattle.sector.specs.Judge.{tarsta_byte}
use Rattle.sector.specs.Receive.{received}
use Rattle.outcomes.specs.Book.{Book, feed, first_book}
use Rattle.outcomes.specs.Machine.{Call, plain, sector, look, word, Answer, replied, handed, refused, seen, number, Machine}

-- the window's bytes of the row's first sector; none if the row is empty or no window is set
abbrev pub window_of : Book → List ℕ
window_of b =
    if eqb (length b.row) 0 || eqb b.words 0 then []
    else take (2 * b.words) (drop b.offset (get_or b.row 0 []))

-- the result, 0 where there is none
abbrev pub result : Answer → ℕ
result (replied n v) = v
result (handed w) = 0
result (refused n) = 0
result (seen bytes) = 0

-- what an accepted call makes of held: a sector whose result is not 0 sets it, taking DECEN low (0Ah = 00h) and chip reset clear it
abbrev pub holding : Call → ℕ → Bool → Bool
holding (sector s) v h = if eqb v 0 then h else true
holding (plain c) v h = if_write c (λ reg x. if eqb reg 0x0A && eqb x 0x00 then false else h) (if_reset c false h)
holding look v h = h
holding word v h = h

abbrev pub held_after : Call → Answer → Bool → Bool
held_after c a h = if eqb (number a) 0 then holding c (result a) h else h

-- the answer a to the call c, by the book b and held
pub record Shows (c : Call) (a : Answer) (b : Book) (held : Bool) : Type 0 where
  pub looked : c ≡ look → a ≡ seen (window_of b)
  pub tcc : c ≡ plain (Read 0x9D) → a ≡ replied 0 (length b.row)
  pub bufc : c ≡ plain (Read 0x9B) → a ≡ replied 0 (length b.row + weight held 1)
  pub stored : (s : List ℕ) → c ≡ sector s → number a ≡ 0 → a ≡ replied 0 (tarsta_byte (received b.expected s).judgement)
  pub tarsta : c ≡ plain (Read 0x80) → a ≡ replied 0 (tarsta_byte b.facts.judgement)

-- over a whole list
abbrev pub ShowsRun : (M : Machine) → List Call → M.State → Book → Bool → Type 0
ShowsRun M [] s b held = Unit {0}
ShowsRun M (c ∷ cs) s b held =
    Shows c (M.answer c s) b held
    × ShowsRun M cs (M.step c s) (feed c (number (M.answer c s)) b) (held_after c (M.answer c s) held)

-- from an opening, when nothing is held
abbrev pub Shown : Machine → Type 0
Shown M =
    (n : ℕ) → 3 ≤ n → n ≤ 255 → (x : List ℕ) → length x ≡ n * 2560 → (cs : List Call) → ShowsRun M cs (M.opened n x) first_book false
