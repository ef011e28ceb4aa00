-- Three claims in plain words beside demand 3 (paper 01, "Demand 3 in full"), stated of any machine with the chip's calls. MemoryFree: no answer
-- depends on what lay in the memory; of the answers of one size it says more than demand 3, which masks two registers and ends at a stop. Accounted and
-- NeverAgain follow from demand 3's book alone: each word is of an accepted good sector, and no sector that left comes back. Assumes nothing.
use Rattle.std.specs.Prelude.{ℕ, ◌+◌, ◌*◌, ◌<◌, ◌≤◌, ◌≡◌, ◌&&◌, List, [], ◌∷◌, ◌++◌, map, ◌⊎◌, eqb, length, take, drop, get_or, if◌then◌else◌}
use Rattle.laws.specs.Bytes.{word_at}
use Rattle.calls.specs.Choice.{if_write, if_reset}
use Rattle.sector.specs.Receive.{received}
use Rattle.outcomes.specs.Book.{Book, first_book, takes, feed}
use Rattle.outcomes.specs.Machine.{Call, plain, sector, look, word, Answer, replied, handed, refused, seen, number, Machine, answers}

-- 1. The answers do not depend on what lay in the memory

-- opened over any two memories of its size, the machine gives the same answers to every list of calls; none is masked, none is left out
abbrev pub MemoryFree : Machine → Type 0
MemoryFree M =
    (n : ℕ) → 3 ≤ n → n ≤ 255 → (x y : List ℕ) → length x ≡ n * 2560 → length y ≡ n * 2560 → (cs : List Call)
    → answers M cs (M.opened n x) ≡ answers M cs (M.opened n y)

-- 2. Each word served is accounted for by a sector call

-- the first list is the second with some places left out, in the same order
pub data Sub {A : Type 0} : List A → List A → Type 0 where
  empty : {ys : List A} → Sub [] ys
  keep : {x : A} {xs ys : List A} → Sub xs ys → Sub (x ∷ xs) (x ∷ ys)
  skip : {y : A} {xs ys : List A} → Sub xs ys → Sub xs (y ∷ ys)

-- what an accepted call adds to the history: a sector that the book finds good, opened; a chip reset begins a new one
abbrev pub noted : Call → Book → List (List ℕ) → List (List ℕ)
noted (sector s) b h = if takes b s then h ++ (received b.expected s).bytes ∷ [] else h
noted (plain c) b h = if_reset c [] h
noted look b h = h
noted word b h = h

-- the history: the good sectors of the accepted sector calls since the opening or the last accepted chip reset, in the order of the calls
abbrev pub history : Call → ℕ → Book → List (List ℕ) → List (List ℕ)
history c n b h = if eqb n 0 then noted c b h else h

-- a word that is handed over is bytes o+2k and o+2k+1 of a sector of the history
abbrev pub Traced : Answer → Book → List (List ℕ) → Type 0
Traced (handed w) b h = (i : ℕ) × (i < length h) × (w ≡ word_at (get_or h i []) (b.offset + 2 * b.k))
Traced (replied n v) b h = Unit {0}
Traced (refused n) b h = Unit {0}
Traced (seen bytes) b h = Unit {0}

-- before each call of the list and after the last, the sectors that wait are some of the history, in its order; and each word is traced
abbrev pub AccountedRun : (M : Machine) → List Call → M.State → Book → List (List ℕ) → Type 0
AccountedRun M [] s b h = Sub b.row h
AccountedRun M (c ∷ cs) s b h =
    Sub b.row h
    × Traced (M.answer c s) b h
    × AccountedRun M cs (M.step c s) (feed c (number (M.answer c s)) b) (history c (number (M.answer c s)) b h)

abbrev pub Accounted : Machine → Type 0
Accounted M =
    (n : ℕ) → 3 ≤ n → n ≤ 255 → (x : List ℕ) → length x ≡ n * 2560 → (cs : List Call) → AccountedRun M cs (M.opened n x) first_book []

-- 3. What was taken, skipped or withdrawn is not served again

-- all good sectors accepted since the opening, in the order of the calls, so that a sector's number is its place among them; and the numbers of
-- those that wait
pub record Ledger : Type 0 where
  pub log : List (List ℕ)
  pub row : List ℕ

abbrev pub first_ledger : Ledger
first_ledger = record { log = []; row = [] }

abbrev pub waiting : List ℕ → Ledger → Ledger
waiting row g = record { log = g.log; row = row }

-- a good sector has the next number
abbrev pub entry : List ℕ → Ledger → Ledger
entry s g = record { log = g.log ++ s ∷ []; row = g.row ++ length g.log ∷ [] }

-- an accepted call moves the numbers as the book moves the sectors; a chip reset leaves none, and no number is given twice
abbrev pub entered : Call → Book → Ledger → Ledger
entered (plain c) b g =
    if_write c
    (λ reg v.
    if eqb reg 0x9D then waiting (take v g.row) g
    else if eqb reg 0x9E && b.acmen then waiting (drop v g.row) g
    else g)
    (if_reset c (waiting [] g) g)
entered (sector s) b g = if takes b s then entry (received b.expected s).bytes g else g
entered look b g = g
entered word b g = if eqb (b.k + 1) b.words then waiting (drop 1 g.row) g else g

abbrev pub enter : Call → ℕ → Book → Ledger → Ledger
enter c n b g = if eqb n 0 then entered c b g else g

-- strictly increasing numbers from low on and below high
abbrev pub Rising : ℕ → List ℕ → ℕ → Type 0
Rising low [] high = Unit {0}
Rising low (i ∷ rest) high = (low ≤ i) × (i < high) × Rising (i + 1) rest high

-- number i is in a list
abbrev pub Waits : ℕ → List ℕ → Type 0
Waits i [] = ⊥
Waits i (j ∷ rest) = (i ≡ j) ⊎ Waits i rest

-- the ledger's row is the book's, with numbers for sectors; the numbers increase, so that the row keeps the order of the calls
pub record Numbered (b : Book) (g : Ledger) : Type 0 where
  pub sectors : map (λ (i : ℕ). get_or g.log i []) g.row ≡ b.row
  pub rising : Rising 0 g.row (length g.log)

-- a word that is handed over is of the sector with the first number that waits
abbrev pub Served : Answer → Book → Ledger → Type 0
Served (handed w) b g = Waits (get_or g.row 0 0) g.row × (w ≡ word_at (get_or g.log (get_or g.row 0 0) []) (b.offset + 2 * b.k))
Served (replied n v) b g = Unit {0}
Served (refused n) b g = Unit {0}
Served (seen bytes) b g = Unit {0}

-- number i does not wait, before each call of the list and after the last
abbrev pub Gone : ℕ → (M : Machine) → List Call → M.State → Book → Ledger → Type 0
Gone i M [] s b g = Waits i g.row → ⊥
Gone i M (c ∷ cs) s b g =
    (Waits i g.row → ⊥) × Gone i M cs (M.step c s) (feed c (number (M.answer c s)) b) (enter c (number (M.answer c s)) b g)

-- the number of the sector of each word that is handed over, in the order of the words
abbrev pub noted_number : Answer → Ledger → List ℕ → List ℕ
noted_number (handed w) g rest = get_or g.row 0 0 ∷ rest
noted_number (replied n v) g rest = rest
noted_number (refused n) g rest = rest
noted_number (seen bytes) g rest = rest

abbrev pub served : (M : Machine) → List Call → M.State → Book → Ledger → List ℕ
served M [] s b g = []
served M (c ∷ cs) s b g =
    noted_number (M.answer c s) g (served M cs (M.step c s) (feed c (number (M.answer c s)) b) (enter c (number (M.answer c s)) b g))

-- at each point of the list: the ledger is the book's; a word is of the first number that waits; and a number that was given and does not wait,
-- for its sector was taken, skipped, withdrawn or cleared by a reset, does not wait again, and no word of it is handed over again
abbrev pub LedgerRun : (M : Machine) → List Call → M.State → Book → Ledger → Type 0
LedgerRun M [] s b g = Numbered b g
LedgerRun M (c ∷ cs) s b g =
    Numbered b g
    × Served (M.answer c s) b g
    × ((i : ℕ) → i < length g.log → (Waits i g.row → ⊥) → Gone i M (c ∷ cs) s b g × (Waits i (served M (c ∷ cs) s b g) → ⊥))
    × LedgerRun M cs (M.step c s) (feed c (number (M.answer c s)) b) (enter c (number (M.answer c s)) b g)

-- no number is below one before it
abbrev pub Climbing : ℕ → List ℕ → Type 0
Climbing low [] = Unit {0}
Climbing low (i ∷ rest) = (low ≤ i) × Climbing i rest

pub record NeverAgain (M : Machine) : Type 0 where
  pub ledger : (n : ℕ) → 3 ≤ n → n ≤ 255 → (x : List ℕ) → length x ≡ n * 2560 → (cs : List Call)
      → LedgerRun M cs (M.opened n x) first_book first_ledger
  -- over the whole list the host never goes back to an earlier sector
  pub forward : (n : ℕ) → 3 ≤ n → n ≤ 255 → (x : List ℕ) → length x ≡ n * 2560 → (cs : List Call)
      → Climbing 0 (served M cs (M.opened n x) first_book first_ledger)
