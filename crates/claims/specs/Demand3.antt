-- Demand 3 (paper 01, "Demand 3 in full"; paper 02, ask 1), stated of any machine with the chip's calls. Assumes nothing.
use Rattle.std.specs.Prelude.{ℕ, ◌+◌, ◌*◌, ◌≤◌, ◌≡◌, Bool, true, false, ◌&&◌, ◌||◌, not, List, [], ◌∷◌, eqb, length, get_or, if◌then◌else◌}
use Rattle.laws.specs.Bytes.{word_at}
use Rattle.calls.specs.Choice.{if_write, if_read, if_set_block}
use Rattle.outcomes.specs.Book.{Book, feed, first_book, limited}
use Rattle.outcomes.specs.Machine.{Call, plain, sector, look, word, Answer, replied, handed, refused, seen, number, Machine}

-- Two sizes of ring

-- only the results of reading 24h and 3Ah may differ
abbrev pub hidden : Call → Bool
hidden (plain c) = if_read c (λ reg. eqb reg 0x24 || eqb reg 0x3A) false
hidden (sector s) = false
hidden look = false
hidden word = false

abbrev pub without_result : Answer → Answer
without_result (replied n v) = replied n 0
without_result (handed w) = handed w
without_result (refused n) = refused n
without_result (seen bytes) = seen bytes

abbrev pub masked : Call → Answer → Answer
masked c a = if hidden c then without_result a else a

-- the smaller chip lacks room (9 with BLIMS low), or finds a number out of range (3 to set T or to a 9Bh write)
abbrev pub stops : Call → ℕ → Bool → Bool
stops (plain c) n l = if_write c (λ reg v. eqb reg 0x9B && eqb n 3) (if_set_block c (eqb n 3) false)
stops (sector s) n l = eqb n 9 && not l
stops look n l = false
stops word n l = false

abbrev pub unless : Bool → Type 0 → Type 0
unless true A = Unit {0}
unless false A = A

-- from two states the answers, and the facts shown after them, are the same, up to the first one's stop and not including it
abbrev pub Agree : (M : Machine) → List Call → M.State → M.State → Bool → Type 0
Agree M [] s t l = Unit {0}
Agree M (c ∷ cs) s t l =
    unless (stops c (number (M.answer c s)) l)
    ((masked c (M.answer c s) ≡ masked c (M.answer c t))
    × (M.facts (M.step c s) ≡ M.facts (M.step c t))
    × Agree M cs (M.step c s) (M.step c t) (limited c (number (M.answer c s)) l))

-- The book

-- the host word is answered by a word or by a refusal. A word that is handed over: the row is not empty, and the word is bytes o+2k and
-- o+2k+1 of its first sector
abbrev pub Served : Answer → Book → Type 0
Served (handed w) b = (b.row ≡ [] → ⊥) × (w ≡ word_at (get_or b.row 0 []) (b.offset + 2 * b.k))
Served (refused n) b = n ≡ 0 → ⊥
Served (replied n v) b = ⊥
Served (seen bytes) b = ⊥

-- no other call hands a word over
abbrev pub Wordless : Answer → Type 0
Wordless (handed w) = ⊥
Wordless (refused n) = Unit {0}
Wordless (replied n v) = Unit {0}
Wordless (seen bytes) = Unit {0}

abbrev pub Right : Call → Answer → Book → Type 0
Right word a b = Served a b
Right (plain c) a b = Wordless a
Right (sector s) a b = Wordless a
Right look a b = Wordless a

-- over a whole list, past any stop; and before each call and after the last the facts are the book's
abbrev pub Faithful : (M : Machine) → List Call → M.State → Book → Type 0
Faithful M [] s b = M.facts s ≡ b.facts
Faithful M (c ∷ cs) s b =
    Right c (M.answer c s) b × (M.facts s ≡ b.facts) × Faithful M cs (M.step c s) (feed c (number (M.answer c s)) b)

-- The claim, over all lists of calls, all sizes and all bytes in either memory
pub record Demand3 (M : Machine) : Type 0 where
  -- two rings
  pub sizes : (n m : ℕ) → 3 ≤ n → n ≤ m → m ≤ 255 → (x y : List ℕ) → length x ≡ n * 2560 → length y ≡ m * 2560 → (cs : List Call)
      → Agree M cs (M.opened n x) (M.opened m y) false
  -- the book: words and facts
  pub words : (n : ℕ) → 3 ≤ n → n ≤ 255 → (x : List ℕ) → length x ≡ n * 2560 → (cs : List Call) → Faithful M cs (M.opened n x) first_book
