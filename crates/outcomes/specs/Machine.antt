-- Lists of calls, and what a machine answers to them and keeps (paper 01, "Demand 3 in full"; paper 02, ask 1). Assumes nothing.
use Rattle.std.specs.Prelude.{ℕ, List, [], ◌∷◌}
use Rattle.calls.specs.declared.Call.{Call as Plain}
use Rattle.sector.specs.Judge.{no_facts}
use Rattle.sector.specs.declared.Judgement.{Judgement}

-- the calls, with any arguments: those that touch no memory, a sector, a look, and the host's word
pub data Call : Type 0 where
  plain : Plain → Call
  sector : List ℕ → Call
  look : Call
  word : Call

-- the answers: a reply number and a result; a word handed over, or its refusal; looked_at bytes
pub data Answer : Type 0 where
  replied : ℕ → ℕ → Answer
  handed : ℕ → Answer
  refused : ℕ → Answer
  seen : List ℕ → Answer

-- the reply number; a look has none
abbrev pub number : Answer → ℕ
number (replied n v) = n
number (handed w) = 0
number (refused n) = n
number (seen bytes) = 0

-- what a machine shows beside its answers of what it keeps: what failed of the last sector that was stored (paper 02, ask 1)
pub record Facts : Type 0 where
  pub judgement : Judgement

-- as opened
abbrev pub none_kept : Facts
none_kept = record { judgement = no_facts }

-- A machine: what it is when newly opened with a number of blocks over a memory, what it answers to a call and becomes by it, and the facts
-- that it shows.
pub record Machine : Type 1 where
  pub State : Type 0
  pub opened : ℕ → List ℕ → State
  pub answer : Call → State → Answer
  pub step : Call → State → State
  pub facts : State → Facts

-- the state after a list of calls, and all answers to it
abbrev pub after : (M : Machine) → List Call → M.State → M.State
after M [] s = s
after M (c ∷ cs) s = after M cs (M.step c s)

abbrev pub answers : (M : Machine) → List Call → M.State → List Answer
answers M [] s = []
answers M (c ∷ cs) s = M.answer c s ∷ answers M cs (M.step c s)
