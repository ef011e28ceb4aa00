-- `sector::frame::Frame::put_frame` meets its contract. Assumes nothing.
use Rattle.std.proofs.Common.{sym}
use Rattle.sector.proofs.Frames.{made}
use Rattle.sector.proofs.frame.Frame.put_frame.Goals as goal

pub returns : goal.returns
returns c =
    let a = c.args in
    let l = c.layout-layout.result in
    let v = c.layout-layout.ensures.value in
    rw (← v)
    (made l a.self.address a.self.subheader a.sector.now c.put_head.new.sector _ 2352 c.layout-layout.ensures.fits (sym c.put_head.array_long) (rw (← v) at c.put_head.ensures) (rw c.edc-code.ensures at c.put_tail.ensures))
