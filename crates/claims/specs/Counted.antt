-- What counts (paper 01, "What the contracts must pin": TCC and BUFC follow from the history of calls). Over any list of calls from an
-- opening, the chip's good blocks are the book's row: each was read, opened, checked against its address and found good since the ring was
-- started, and none that was skipped, withdrawn or taken is among them. Assumes nothing.
use Rattle.std.specs.Prelude.{ℕ, ◌+◌, ◌*◌, ◌≤◌, ◌≡◌, List, [], ◌∷◌, length}
use Rattle.laws.specs.Numbers.{weight}
use Rattle.outcomes.specs.Book.{Book, feed, first_book, book_of}
use Rattle.outcomes.specs.Machine.{Call, number, Machine, after}
use Rattle.chip.specs.Machine.{State, the_chip}
use Rattle.claims.specs.Refinement.{Refines}

-- the book after a list of calls, fed by the calls and their reply numbers
abbrev pub book_after : (M : Machine) → List Call → M.State → Book → Book
book_after M [] s b = b
book_after M (c ∷ cs) s b = book_after M cs (M.step c s) (feed c (number (M.answer c s)) b)

pub record Counted (s : State) (b : Book) : Type 0 where
  -- the chip's ring holds the book's row
  pub refines : Refines s (record { controller = s.chip.controller; blocks = s.chip.place.n; row = b.row })
  -- the address, the window, ACMEN, the position and the facts that the chip keeps are the book's, which knows the calls and their reply numbers alone
  pub shows : book_of s.chip.controller b.row ≡ b
  -- TCC is the number of sectors in the row, and BUFC one more while a bad sector is held
  pub tcc : s.chip.controller.counts.tcc ≡ length b.row
  pub bufc : s.chip.controller.counts.bufc ≡ length b.row + weight s.chip.controller.counts.held 1

abbrev pub CountedClaim : Type 0
CountedClaim =
    (n : ℕ) → 3 ≤ n → n ≤ 255 → (x : List ℕ) → length x ≡ n * 2560 → (cs : List Call)
    → Counted (after the_chip cs (the_chip.opened n x)) (book_after the_chip cs (the_chip.opened n x) first_book)
