-- `edc::division::Ring::turn` meets its contract: four stretches, once round. Assumes nothing.
use mathlib.Core.Path.{sym, ◌∙◌}
use native.Mathlib.Omega.{arith}
use Rattle.edc.specs.Fold.{held}
use Rattle.edc.proofs.Laws.{edc_end}
use Rattle.edc.proofs.Ring.{held_round}
use Rattle.edc.proofs.division.Ring.turn.Goals as goal

pub returns : goal.returns
returns c =
    let x = c.stretch-4.new.self.words in
    sym (held_round x) ∙ sym (edc_end c.args.run.now (held x 32) 256 (omega arith)) ∙ c.stretch-4.ensures ∙ c.stretch-3.ensures ∙ c.stretch-2.ensures ∙ c.stretch.ensures
