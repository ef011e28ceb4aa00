-- A machine whose words are constant is shut out: the words at bytes 12 and 14 of a sector are not the same. Assumes nothing.
use Prim.Native.Nat.{ℕ}
use mathlib.Core.Path.{◌≡◌, refl, ap, ap₂, ◌∙◌}
use mathlib.Core.List.{List, [], ◌∷◌}
use native.Mathlib.Omega.{arith}
use lib.Dec.{eqb}
use lib.ListN.{length, replicate, length-replicate}
use Rattle.std.specs.Prelude.{if◌then◌else◌}
use Rattle.outcomes.specs.Machine.{Call, plain, sector, look, word, Answer, handed, number, answers}
use Rattle.outcomes.specs.Row.{the_row}
use Rattle.chip.specs.Machine.{State, chip_answer, chip_step, the_chip}
use Rattle.claims.specs.Demand3.{Demand3}
use Rattle.claims.specs.Refinement.{Simulation}
use Rattle.claims.specs.Runs.{Gives}
use Rattle.claims.specs.Wrong.{ShutOut, constant_answer, constant_word}
use Rattle.claims.proofs.MetRuns.{row_met, met}
use Rattle.claims.proofs.OneBook.{if_word, shut_out}

module _ (k : ℕ) where
  -- the chip's answers with k for each word
  abbrev made : List Call → List Answer → List Answer
  made [] rs = []
  made (c ∷ cs) [] = []
  made (c ∷ cs) (r ∷ rs) = if_word c (if eqb (number r) 0 then handed k else r) r ∷ made cs rs

  constant : (c : Call) (s : State) → constant_answer k c s ≡ if_word c (if eqb (number (chip_answer c s)) 0 then handed k else chip_answer c s) (chip_answer c s)
  unfolding constant_answer
  constant (plain c) s = refl
  constant (sector x) s = refl
  constant look s = refl
  constant word s = refl

  constants : (cs : List Call) (s : State) → answers (constant_word k) cs s ≡ made cs (answers the_chip cs s)
  constants [] s = refl
  constants (c ∷ cs) s = ap₂ (λ (r : Answer) (rs : List Answer). r ∷ rs) (constant c s) (constants cs (chip_step c s))

  given : {n : ℕ} {cs : List Call} {rs : List Answer} → Gives the_chip n cs rs → Gives (constant_word k) n cs (made cs rs)
  given {n} {cs} g = record { given = λ x fits. constants cs (the_chip.opened n x) ∙ ap (made cs) (g.given x fits) }

  module _ (S : Simulation the_chip the_row) (D : Demand3 the_row) where
    by : (u : List ℕ) → length u ≡ 2352 → ShutOut (constant_word k)
    by u size =
        shut_out (constant_word k) the_row D (row_met u size).words_handed (given (met S u size).words_handed) refl (λ e. let z : ◌≡◌ {A = ℕ} 512 256 = cc in omega arith)

    pub constant_word_fails : ShutOut (constant_word k)
    constant_word_fails = by (replicate 2352 0) (length-replicate {A = ℕ} 2352 0)
