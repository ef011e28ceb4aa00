-- `sector::frame::Frame::put` meets its contract. Assumes nothing.
use Rattle.std.proofs.Common.{ap, ◌∙◌, take}
use Rattle.parity.specs.Parity.{with_parity}
use Rattle.sector.proofs.Frames.{with_words, without_words}
use Rattle.sector.proofs.frame.Frame.put.Goals as goal

pub returns-then-layout : goal.returns-then-layout
returns-then-layout c =
    let a = c.args in
    let l = c.layout-layout.result in
    let v = c.layout-layout.ensures.value in
    rw (← v)
    (c.write.ensures ∙ ap (λ x. with_parity l.masked (take 2076 x)) (rw (← v) at c.put_frame.ensures)
    ∙ with_words l a.self.address a.self.subheader a.sector.now c.told-sector c.layout-layout.ensures.fits c.if-layout.true)

pub returns-else-layout : goal.returns-else-layout
returns-else-layout c =
    let a = c.args in
    let l = c.layout-layout.result in
    let v = c.layout-layout.ensures.value in
    rw (← v)
    ((rw (← v) at c.put_frame.ensures) ∙ without_words l a.self.address a.self.subheader a.sector.now c.told-sector c.layout-layout.ensures.fits c.if-layout.false)
