-- The line that the bench answers (paper 01, "Bench cases", the listing of the program "bench"; paper 02, ask 1), as bytes. Assumes nothing.
use Rattle.std.specs.Prelude.{Bool, ◌≡◌, List, [], ◌∷◌, ◌++◌, ℕ, zero, suc, ◌+◌, ◌/◌, ◌%◌, ltb, length, drop, if◌then◌else◌}
use Rattle.std.proofs.lemmas.List.Edits.{sets}
use Rattle.syntax.specs.declared.print.Shown.{Shown}
use Rattle.syntax.specs.declared.decimal.Writer.{Writer}

-- a number in decimal: its digits in ASCII, the highest first, with no zero in front; of more than k digits the last k
unfoldable pub decimal_upto : ℕ → ℕ → List ℕ
decimal_upto zero n = []
decimal_upto (suc k) n = if ltb n 10 then (48 + n) ∷ [] else decimal_upto k (n / 10) ++ ((48 + n % 10) ∷ [])

-- all its digits: they are never more than n + 1
unfoldable pub decimal : ℕ → List ℕ
decimal n = decimal_upto (suc n) n

-- a key and its number
abbrev pub field : List ℕ → ℕ → List ℕ
field key n = key ++ decimal n

-- a bit as it is printed
abbrev pub flag : Bool → ℕ
flag b = if b then 1 else 0

-- a row of the line: a key, the number behind it, and the most digits that the number's type allows
pub record Row : Type 0 where
  pub key : List ℕ
  pub number : Shown → ℕ
  pub digits : ℕ

-- the line: the call's number among the lines and its reply, and the chip after it, as in `n=5 answer=0 out=0 tcc=1 bufc=1 why=0 irq=0`
abbrev pub rows : List Row
rows =
    record { key = 110 ∷ 61 ∷ []; number = λ s. s.lines; digits = 20 }  -- "n="
    ∷ record { key = 32 ∷ 97 ∷ 110 ∷ 115 ∷ 119 ∷ 101 ∷ 114 ∷ 61 ∷ []; number = λ s. s.number; digits = 3 }  -- " answer="
    ∷ record { key = 32 ∷ 111 ∷ 117 ∷ 116 ∷ 61 ∷ []; number = λ s. s.out; digits = 20 }  -- " out="
    ∷ record { key = 32 ∷ 116 ∷ 99 ∷ 99 ∷ 61 ∷ []; number = λ s. s.tcc; digits = 5 }  -- " tcc="
    ∷ record { key = 32 ∷ 98 ∷ 117 ∷ 102 ∷ 99 ∷ 61 ∷ []; number = λ s. s.bufc; digits = 5 }  -- " bufc="
    ∷ record { key = 32 ∷ 119 ∷ 104 ∷ 121 ∷ 61 ∷ []; number = λ s. s.why; digits = 5 }  -- " why="
    ∷ record { key = 32 ∷ 105 ∷ 114 ∷ 113 ∷ 61 ∷ []; number = λ s. flag s.irq; digits = 1 }  -- " irq="
    ∷ []

-- rows one after the other
abbrev pub texts : List Row → Shown → List ℕ
texts [] s = []
texts (r ∷ rs) s = field r.key (r.number s) ++ texts rs s

-- the whole line with its end
unfoldable pub printed : Shown → List ℕ
printed s = texts rows s ++ (10 ∷ [])

-- the most bytes that rows take
abbrev pub most : List Row → ℕ
most [] = 0
most (r ∷ rs) = length r.key + r.digits + most rs

-- no line is longer
abbrev pub longest : ℕ
longest = most rows + 1

-- the room that is lent for a line: more than the longest, so that a further row changes no caller
abbrev pub room : ℕ
room = 160

-- bytes put at the front of a buffer: they, and then what stood behind them
abbrev pub over : List ℕ → List ℕ → List ℕ
over bytes buffer = bytes ++ drop (length bytes) buffer

-- for private contracts: a buffer after text was written into it at a place, and the place after the text
pub record Written (before : List ℕ) (at : ℕ) (text after : List ℕ) (end : ℕ) : Type 0 where
  pub bytes : after ≡ sets before at text
  pub place : end ≡ at + length text

-- and a writer after it wrote text: into the same loan, which is as `Written` says
pub record Wrote (old : Writer) (text : List ℕ) (new : Writer) : Type 0 where
  pub same : new.out.ghost_name ≡ old.out.ghost_name
  pub written : Written old.out.now old.at text new.out.now new.at
