-- How the chip stands to the row machine: a chip and its ring represent a row, its controller being the row's; and what one machine must show
-- to another so that demand 3 goes over from the second to the first. Assumes nothing.
use Rattle.std.specs.Prelude.{ℕ, ◌*◌, ◌≤◌, ◌≡◌, List, length}
use Rattle.ring.specs.Represents.{Represents}
use Rattle.outcomes.specs.Machine.{Call, Machine}
use Rattle.outcomes.specs.Row.{Row, Valid}
use Rattle.chip.specs.Machine.{State}
use Rattle.claims.specs.Demand3.{masked}

-- a chip with its ring refines a row. Soundness in the sense of reply 1 is not closed under the sector call (docs/DECISIONS.md); this is.
pub record Refines (s : State) (r : Row) : Type 0 where
  pub valid : Valid r
  pub controller : s.chip.controller ≡ r.controller
  pub blocks : s.chip.place.n ≡ r.blocks
  pub represents : Represents s.chip.place r.controller.counts.tcc r.controller.counts.bufc s.ring r.row

-- a simulation of R by M: related states give the same answers, but for the results of 24h and 3Ah, show the same facts, and stay related
pub record Simulation (M R : Machine) : Type 1 where
  pub Related : M.State → R.State → Type 0
  pub opened : (n : ℕ) → 3 ≤ n → n ≤ 255 → (x : List ℕ) → length x ≡ n * 2560 → Related (M.opened n x) (R.opened n x)
  pub answer : (c : Call) (s : M.State) (r : R.State) → Related s r → masked c (M.answer c s) ≡ masked c (R.answer c r)
  pub facts : (s : M.State) (r : R.State) → Related s r → M.facts s ≡ R.facts r
  pub step : (c : Call) (s : M.State) (r : R.State) → Related s r → Related (M.step c s) (R.step c r)
