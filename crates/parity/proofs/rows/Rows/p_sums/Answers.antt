-- `parity::rows::Rows::p_sums` meets its contract. Assumes nothing.
use mathlib.Core.Path.{refl, subst}
use Prim.Native.Nat.{ℕ}
use native.Mathlib.Omega.{arith}
use Rattle.parity.proofs.Coded.{p_summed}
use Rattle.parity.proofs.Lanes.{sums_none}
use Rattle.parity.proofs.RowLaws.{p_row}
use Rattle.parity.specs.Rows.{view, AreSums, p_lane}
use Rattle.parity.proofs.rows.Rows.p_sums.Goals as goal

pub loop-i-init : goal.loop-i-init
loop-i-init c =
    p_row (view c.args.self.now.first c.args.self.now.sector.now) 0 _ c.none-sums.result.plain c.none-sums.result.weighted _ _ c.row.ensures
    (sums_none _ _ 86 _ _ c.none-sums.ensures.0 c.none-sums.ensures.1 (λ u h. refl)) c.take_in.ensures

pub loop-i-preserved : goal.loop-i-preserved
loop-i-preserved c =
    let l = c.loop-i in
    p_row (view c.args.self.now.first c.args.self.now.sector.now) l.i _ l.sums.plain l.sums.weighted _ _ c.row-in-loop-i.ensures l.invariant c.take_in-in-loop-i.ensures

pub returns : goal.returns
returns c =
    let l = c.loop-i in
    λ z e.
    p_summed z c.args.self.now.sector.now _ _ _ e
    (subst (λ (k : ℕ). AreSums (p_lane (view c.args.self.now.first c.args.self.now.sector.now)) (λ u. k) 86 l.sums.plain l.sums.weighted) (omega arith) l.invariant)
