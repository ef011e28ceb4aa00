-- `parity::write` meets its contract. Assumes nothing.
use mathlib.Core.List.{List}
use mathlib.Core.Path.{subst}
use Prim.Native.Nat.{ℕ}
use Rattle.parity.specs.Layout.{p, q}
use Rattle.parity.specs.Rows.{Summed}
use Rattle.parity.proofs.Written.{written}
use Rattle.parity.proofs.write.Goals as goal

pub returns : goal.returns
returns c =
    let z = c.args.masked in
    written z c.args.sector.now _ _ _ _ _ _ c.told-sector c.fits-sector
    (subst (λ (l : List ℕ). Summed p z l c.p_sums.result.plain c.p_sums.result.weighted) c.new.ensures.sector (c.p_sums.ensures z c.new.ensures.first))
    c.solve.ensures
    (subst (λ (l : List ℕ). Summed q z l c.q_sums.result.plain c.q_sums.result.weighted) c.new-2.ensures.sector (c.q_sums.ensures z c.new-2.ensures.first))
    c.solve-2.ensures
