-- Demand 3: of the row machine, and of the chip, which simulates it. Assumes nothing.
use mathlib.Core.Path.{refl}
use native.Mathlib.Omega.{arith}
use Rattle.outcomes.specs.Row.{the_row}
use Rattle.outcomes.proofs.Rows.{valid_opened}
use Rattle.chip.specs.Machine.{the_chip}
use Rattle.claims.specs.Demand3.{Demand3}
use Rattle.claims.proofs.Refines.{chip_simulates}
use Rattle.claims.proofs.RowSizes.{agree}
use Rattle.claims.proofs.RowWords.{faithful}
use Rattle.claims.proofs.Simulated.{simulated}

pub row_demand3 : Demand3 the_row
row_demand3 = record {
  sizes = λ n m low le high x y _ _ cs.
      agree cs _ _ _ (record {
        small = valid_opened n low;
        large = valid_opened m (omega arith);
        controller = refl;
        row = refl;
        size = le;
        blims = refl;
      });
  words = λ n low high x _ cs. faithful cs _ (valid_opened n low) _ refl;
}

pub demand3 : Demand3 the_chip
demand3 = simulated the_chip the_row chip_simulates row_demand3
