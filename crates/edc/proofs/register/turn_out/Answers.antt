-- `edc::register::turn_out` meets its contract: the formula is tested with the numbers of places that the code has. Assumes nothing.
use mathlib.Core.Path.{refl, ap, ◌∙◌}
use native.Mathlib.Omega.{arith}
use Rattle.edc.specs.Fold.{shifts}
use Rattle.edc.proofs.Folds.{steps}
use Rattle.edc.proofs.Quotient.{right, out_is}
use Rattle.edc.proofs.register.turn_out.Goals as goal

pub returns : goal.returns
unfolding right steps
returns c = out_is _ _ _ _ _ _ _ _ _ _ c.from-q.result _ _ _ _ _ _ _ _ _ _ _
    c.on-a.ensures
    c.on-b.ensures
    c.on-c.ensures
    c.on.ensures
    c.up.ensures
    c.up-2.ensures
    (c.from-e.ensures ∙ c.low.ensures)
    c.on-2.ensures
    c.up-3.ensures
    c.up-4.ensures
    c.on-3.ensures
    (omega arith) refl ∙ ap (shifts 32) c.from-q.ensures
