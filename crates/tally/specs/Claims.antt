-- What is claimed of the tally (paper 02, ask 6): since an opening or the last accepted chip reset, the sectors counted in are as many as TCC, those taken whole,
-- those skipped and those withdrawn together: a sum, so that no difference that stops at 0 hides a block. The sum does not tell the three ways to leave
-- apart; the numbers of Runs.antt do. Assumes nothing.
use Rattle.std.specs.Prelude.{ℕ, ◌+◌, ◌*◌, ◌≤◌, ◌≡◌, true, List, [], ◌∷◌, ◌++◌, map, length}
use Rattle.laws.specs.Numbers.{weight}
use Rattle.calls.specs.declared.Call.TheVariants.{Write, Read, Reset}
use Rattle.outcomes.specs.Book.{Book, feed, first_book}
use Rattle.outcomes.specs.Machine.{Call, plain, Answer, replied, number, Machine, after, answers}
use Rattle.chip.specs.Chip.{opened}
use Rattle.chip.specs.Machine.{over, chip_answer, chip_step, the_chip}
use Rattle.chip.specs.declared.Chip.{Chip}
use Rattle.claims.specs.Demand3.{Faithful}
use Rattle.claims.specs.Shown.{Shown}
use Rattle.tally.specs.Tally.{Entry, entries, tally, held, balance, AddsUp}

-- Any machine, by what it answers

abbrev pub call_history : (M : Machine) → List Call → M.State → List Entry
call_history M cs s = entries cs (answers M cs s)

-- over any list of calls from an opening: an accepted read of 9Dh answers the balance, and one of 9Bh one more while held. A machine that accepts no such
-- read is tallied too; that the reads are accepted is Shown, and of the chip `tcc_read` and `bufc_read` below.
pub record Tallied (M : Machine) : Type 0 where
  pub tcc : (n : ℕ) → 3 ≤ n → n ≤ 255 → (x : List ℕ) → length x ≡ n * 2560 → (cs : List Call) (v : ℕ)
      → M.answer (plain (Read 0x9D)) (after M cs (M.opened n x)) ≡ replied 0 v
      → AddsUp v (tally (call_history M cs (M.opened n x)))
  pub bufc : (n : ℕ) → 3 ≤ n → n ≤ 255 → (x : List ℕ) → length x ≡ n * 2560 → (cs : List Call) (u : ℕ)
      → M.answer (plain (Read 0x9B)) (after M cs (M.opened n x)) ≡ replied 0 u
      → (v : ℕ) × AddsUp v (tally (call_history M cs (M.opened n x))) × (u ≡ v + weight (held (call_history M cs (M.opened n x))) 1)

-- the words and facts are the book's, over any list of calls
abbrev pub ByBook : Machine → Type 0
ByBook M = (n : ℕ) → 3 ≤ n → n ≤ 255 → (x : List ℕ) → length x ≡ n * 2560 → (cs : List Call) → Faithful M cs (M.opened n x) first_book

-- no skip is accepted of more sectors than the book's row has
abbrev pub SkipsWithinRowRun : (M : Machine) → List Call → M.State → Book → Type 0
SkipsWithinRowRun M [] s b = Unit {0}
SkipsWithinRowRun M (c ∷ cs) s b =
    ((v : ℕ) → c ≡ plain (Write 0x9E v) → number (M.answer c s) ≡ 0 → b.acmen ≡ true → v ≤ length b.row)
    × SkipsWithinRowRun M cs (M.step c s) (feed c (number (M.answer c s)) b)

abbrev pub SkipsWithinRow : Machine → Type 0
SkipsWithinRow M =
    (n : ℕ) → 3 ≤ n → n ≤ 255 → (x : List ℕ) → length x ≡ n * 2560 → (cs : List Call) → SkipsWithinRowRun M cs (M.opened n x) first_book

-- every machine that the book and its answers describe, and whose skips they bound, is tallied; the chip is such a machine
pub record MachinesClaim : Type 1 where
  pub any : (M : Machine) → ByBook M → Shown M → SkipsWithinRow M → Tallied M
  pub book : ByBook the_chip
  pub shown : Shown the_chip
  pub skips : SkipsWithinRow the_chip
  pub chip : Tallied the_chip

-- The chip, by its record

-- a call, and the memory that is lent to it: any bytes, of any length
pub record LentCall : Type 0 where
  pub call : Call
  pub memory : List ℕ

-- each call is given the chip as the last one left it
abbrev pub lent_answers : List LentCall → Chip → List Answer
lent_answers [] c = []
lent_answers (l ∷ ls) c = chip_answer l.call (over c l.memory) ∷ lent_answers ls (chip_step l.call (over c l.memory)).chip

abbrev pub lent_after : List LentCall → Chip → Chip
lent_after [] c = c
lent_after (l ∷ ls) c = lent_after ls (chip_step l.call (over c l.memory)).chip

abbrev pub lent_history : List LentCall → Chip → List Entry
lent_history ls c = entries (map (λ (l : LentCall). l.call) ls) (lent_answers ls c)

pub record CountersMatch (c : Chip) (h : List Entry) : Type 0 where
  -- TCC is what was counted in less what has left: stated as a sum, so that no difference stops at 0; and it is the balance
  pub tcc : AddsUp c.controller.counts.tcc (tally h)
  pub balanced : balance (tally h) ≡ c.controller.counts.tcc
  -- BUFC is TCC, and one more while held
  pub bufc : c.controller.counts.bufc ≡ c.controller.counts.tcc + weight (held h) 1
  -- 9Dh and 9Bh answer them
  pub tcc_read : (x : List ℕ) → chip_answer (plain (Read 0x9D)) (over c x) ≡ replied 0 c.controller.counts.tcc
  pub bufc_read : (x : List ℕ) → chip_answer (plain (Read 0x9B)) (over c x) ≡ replied 0 c.controller.counts.bufc

-- over any list of calls from an opening, whatever memory is lent to each of them
abbrev pub TallyClaim : Type 0
TallyClaim = (n : ℕ) → 3 ≤ n → n ≤ 255 → (ls : List LentCall) → CountersMatch (lent_after ls (opened n).chip) (lent_history ls (opened n).chip)

-- an accepted chip reset begins anew: what came before it does not show
pub record AnewClaim : Type 0 where
  pub tally : (h g : List Entry) → tally (h ++ record { call = plain Reset; answer = replied 0 0 } ∷ g) ≡ tally g
  pub held : (h g : List Entry) → held (h ++ record { call = plain Reset; answer = replied 0 0 } ∷ g) ≡ held g
