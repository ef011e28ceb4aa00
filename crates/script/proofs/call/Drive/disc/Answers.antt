-- `script::call::Drive::disc` meets its contract. Assumes nothing.
use Rattle.std.proofs.Common.{◌∙◌, sym}
use Rattle.script.proofs.Answering.{admitted, never_unsealed, disc_run}
use Rattle.script.proofs.call.Drive.disc.Goals as goal

pub returns-in_err-seal : goal.returns-in_err-seal
returns-in_err-seal c =
    let a = c.args in
    absurd (never_unsealed a.self.chip a.self.carried a.ring.now a.sector.now a.address a.fill c.in_ok-byte.ensures.number
    _ _ (c.fill.ensures.after (λ y e. e)) c.in_ok-byte.ensures.fill _ c.in_err-seal.ensures.0)

pub unreachable-requires : goal.unreachable-requires
unreachable-requires c =
    let a = c.args in
    c.in_default.ensures.cases
    (c.seal.auto.sector ∙ c.fill.auto.self ∙ (admitted a.self.chip a.self.carried a.ring.now a.sector.now a.address a.fill (sym c.in_ok-byte.ensures.number)).0)

pub returns : goal.returns
returns c =
    let a = c.args in
    disc_run a.self.chip a.self.carried a.ring.now a.sector.now a.address a.fill c.in_ok-byte.ensures.number
    _ _ (c.fill.ensures.after (λ y e. e)) c.in_ok-byte.ensures.fill
    _ _ _ _ (c.in-Some.ensures.cases.same ∙ c.in_ok-seal.ensures.1) c.scratch.ensures c.sector.ensures
