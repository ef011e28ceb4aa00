-- `parity::check` meets its contract. Assumes nothing.
use mathlib.Core.Bool.{Bool, ◌&&◌}
use mathlib.Core.List.{List}
use mathlib.Core.Path.{ap₂, ◌∙◌, subst}
use Prim.Native.Nat.{ℕ}
use Rattle.parity.specs.Rows.{Summed}
use Rattle.parity.proofs.Coded.{all_fit_is, p_first, p_second, q_first, q_second}
use Rattle.parity.specs.Layout.{p, q}
use Rattle.parity.specs.Parity.{parity_holds}
use Rattle.parity.proofs.check.Goals as goal

pub returns : goal.returns
unfolding parity_holds p q
returns c =
    let s = c.args.sector.now in
    let z = c.args.masked in
    let e = c.new-rows.ensures.sector in
    ap₂ (λ (x y : Bool). x && y)
    (c.fit-p.ensures ∙ all_fit_is p z s _ _ c.fits-sector
    (subst (λ (l : List ℕ). Summed p z l c.p_sums.result.plain c.p_sums.result.weighted) e (c.p_sums.ensures z c.new-rows.ensures.first)) _ _
    (p_first z s) (p_second z s))
    (c.fit-q.ensures ∙ all_fit_is q z s _ _ c.fits-sector
    (subst (λ (l : List ℕ). Summed q z l c.q_sums.result.plain c.q_sums.result.weighted) e (c.q_sums.ensures z c.new-rows.ensures.first)) _ _
    (q_first z s) (q_second z s))
