-- Reading a register (paper 01, "Registers"). T (24h) and the last decoded block (3Ah) are the ring's, which tells them. Assumes nothing.
use Rattle.std.specs.Prelude.{ℕ, ◌+◌, eqb, if◌then◌else◌}
use Rattle.laws.specs.Numbers.{weight}
use Rattle.sector.specs.Judge.{tarsta_byte}
use Rattle.controller.specs.Step.{Step, refused, replied}
use Rattle.controller.specs.declared.state.Controller.{Controller}
use Rattle.controller.specs.declared.step.RingFacts.{RingFacts}
use Rattle.controller.specs.declared.step.Event.TheVariants.{Stay}

-- ASCTRL (18h): bits 7 APKTEN, 6 ADCEN, 5 ASCEN, 4 AUTOEN, 3 STWCEN, 0 A0IEN
abbrev pub asctrl_byte : Controller → ℕ
asctrl_byte c =
    weight c.asctrl.apkten 0x80 + weight c.asctrl.adcen 0x40 + weight c.asctrl.ascen 0x20
    + weight c.asctrl.autoen 0x10 + weight c.asctrl.stwcen 0x08 + weight c.asctrl.a0ien 0x01

-- MISS2 (30h): bit 0 APKT, bit 1 FPKT
abbrev pub miss2_byte : Controller → ℕ
miss2_byte c = weight c.packet.fpkt 0x02 + weight c.packet.apkt 0x01

-- ATSTA (38h): bits 7 BSY, 6 DRDY, 4 DSC, 3 DRQ, 2 CORR, 0 CHECK
abbrev pub atsta_byte : Controller → ℕ
atsta_byte c =
    weight c.atsta.bsy 0x80 + weight c.atsta.drdy 0x40 + weight c.atsta.dsc 0x10
    + weight c.atsta.drq 0x08 + weight c.atsta.corr 0x04 + weight c.atsta.check 0x01

-- BICCTL (9Ah): bits 5 BLIMEN, 4 BLIMS
abbrev pub bicctl_byte : Controller → ℕ
bicctl_byte c = weight c.buffering.blimen 0x20 + weight c.buffering.blims 0x10

-- ACCTL (9Ch): bits 7 ATTEN, 6 ACMEN, 5 TCINCEN, 4..0 ATLIM
abbrev pub acctl_byte : Controller → ℕ
acctl_byte c =
    weight c.acctl.atten 0x80 + weight c.acctl.acmen 0x40 + weight c.acctl.tcincen 0x20 + c.acctl.atlim

abbrev pub value : Controller → ℕ → Step
value c v = replied c Stay v

-- the registers that are read; the high bytes of T (25h) and of the last decoded block (3Bh) are 0 (H: 001 has both orders)
unfoldable pub read : Controller → ℕ → RingFacts → Step
read c reg ring =
    if eqb reg 0x12 then value c c.mbc
    else if eqb reg 0x18 then value c (asctrl_byte c)
    else if eqb reg 0x24 then value c ring.t
    else if eqb reg 0x25 then value c 0
    else if eqb reg 0x30 then value c (miss2_byte c)
    else if eqb reg 0x31 then value c c.task.aterr
    else if eqb reg 0x32 then value c c.task.atint
    else if eqb reg 0x34 then value c c.task.atblo
    else if eqb reg 0x35 then value c c.task.atbhi
    else if eqb reg 0x37 then value c c.task.atcmd
    else if eqb reg 0x38 then value c (atsta_byte c)
    else if eqb reg 0x3A then value c ring.last
    else if eqb reg 0x3B then value c 0
    else if eqb reg 0x80 then value c (tarsta_byte c.judgement)
    else if eqb reg 0x9A then value c (bicctl_byte c)
    else if eqb reg 0x9B then value c c.counts.bufc
    else if eqb reg 0x9C then value c (acctl_byte c)
    else if eqb reg 0x9D then value c c.counts.tcc
    else if eqb reg 0x9F then value c c.counts.ttc
    else refused c 2
