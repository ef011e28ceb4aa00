-- `parity::field::power` meets its contract. Assumes nothing.
use mathlib.Core.Path.{◌≡◌, sym, ap, ◌∙◌}
use Prim.Native.Nat.{suc, ◌-◌}
use native.Mathlib.Omega.{arith}
use Rattle.parity.specs.Field.{times_x}
use Rattle.parity.proofs.FieldLaws.{product_two}
use Rattle.parity.specs.Field as field
use Rattle.parity.proofs.field.+power.Goals as goal

pub returns : goal.returns
unfolding field.power
returns t c =
    let n = c.args.n in
    let e : suc (n - 1) ≡ n = omega arith in
    c.times_x.ensures ∙ ap times_x c.power.ensures ∙ sym (product_two (field.power (n - 1))) ∙ ap field.power e

pub returns-then-n-eq0 : goal.returns-then-n-eq0
unfolding field.power
returns-then-n-eq0 t c = sym (ap field.power c.if-n-eq0.true)
