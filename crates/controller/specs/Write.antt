-- Writing a register (paper 01, "Registers"): one definition for each, its tests in the order of the reply numbers. Assumes nothing.
use Rattle.std.specs.Prelude.{ℕ, ◌+◌, ◌-◌, ◌%◌, true, false, ◌&&◌, ◌||◌, not, [], ◌∷◌, ltb, eqb, if◌then◌else◌}
use Rattle.controller.specs.Bits.{bit, only, differs}
use Rattle.controller.specs.Fields.{◌▹◌, tcc≔, bufc≔, ttc≔, held≔, decen≔, blimen≔, blims≔, buflim≔, acctl≔, asctrl≔, drdy≔, dsc≔, drq≔, corr≔, check≔, ascsta≔, adsc≔, task≔, mbc≔, apkt≔}
use Rattle.controller.specs.Step.{Step, refused, replied, done, guarded}
use Rattle.controller.specs.Transfer.{engaged, start, completed, signed}
use Rattle.controller.specs.declared.state.Acctl.{Acctl}
use Rattle.controller.specs.declared.state.Asctrl.{Asctrl}
use Rattle.controller.specs.declared.state.Controller.{Controller}
use Rattle.controller.specs.declared.state.Task.{Task}
use Rattle.controller.specs.declared.step.Event.TheVariants.{Advance, Rewind}

-- TACK (07h), any value: clears APKT
unfoldable pub write_tack : Controller → ℕ → Step
write_tack c v =
    guarded c ((ltb 255 v, 3) ∷ [])
    (done (c ▹ apkt≔ false))

-- DECEN taken low: BUFC becomes TCC (001), B stands TCC blocks after T and held is no (H)
abbrev pub decoder_off : Controller → Step
decoder_off c = replied (c ▹ decen≔ false ▹ bufc≔ c.counts.tcc ▹ held≔ false) (Rewind c.counts.tcc) 0

-- CTRL0 (0Ah): 80h sets DECEN, needing BLIMEN and TCINCEN; 00h clears it
unfoldable pub write_ctrl0 : Controller → ℕ → Step
write_ctrl0 c v =
    if eqb v 0 then decoder_off c
    else if not (eqb v 0x80) then refused c 3
    else if not (c.buffering.blimen && c.acctl.tcincen) then refused c 5
    else done (c ▹ decen≔ true)

-- MBTC0 (12h): MBC 0..31, barred in a transfer
unfoldable pub write_mbtc0 : Controller → ℕ → Step
write_mbtc0 c v =
    guarded c ((ltb 31 v, 3) ∷ (c.transfer.running, 4) ∷ [])
    (done (c ▹ mbc≔ v))

-- ASTRG (17h): 01h status completion, 04h start transfer, 10h signature; barred in a transfer or packet reception
unfoldable pub write_astrg : Controller → ℕ → Step
write_astrg c v =
    guarded c ((not (eqb v 0x01 || eqb v 0x04 || eqb v 0x10), 3) ∷ (engaged c, 4) ∷ [])
    (if eqb v 0x01 then done (completed c)
    else if eqb v 0x04 then start c
    else done (signed c))

-- ASCTRL (18h): bits 7 APKTEN, 6 ADCEN, 5 ASCEN (needs bit 6), 4 AUTOEN, 3 STWCEN, 0 A0IEN; barred as 17h
abbrev pub asctrl_of : ℕ → Asctrl
asctrl_of v = record { apkten = bit v 7; adcen = bit v 6; ascen = bit v 5; autoen = bit v 4; stwcen = bit v 3; a0ien = bit v 0 }

unfoldable pub write_asctrl : Controller → ℕ → Step
write_asctrl c v =
    guarded c ((not (only (7 ∷ 6 ∷ 5 ∷ 4 ∷ 3 ∷ 0 ∷ []) v && (bit v 6 || not (bit v 5))), 3) ∷ (engaged c, 4) ∷ [])
    (done (c ▹ asctrl≔ (asctrl_of v)))

-- ATERR (31h), ATINT (32h), ATBLO (34h), ATBHI (35h): any value
abbrev pub with_task : Task → ℕ → ℕ → Task
with_task t reg v =
    if eqb reg 0x31 then record { aterr = v; atint = t.atint; atblo = t.atblo; atbhi = t.atbhi; atcmd = t.atcmd }
    else if eqb reg 0x32 then record { aterr = t.aterr; atint = v; atblo = t.atblo; atbhi = t.atbhi; atcmd = t.atcmd }
    else if eqb reg 0x34 then record { aterr = t.aterr; atint = t.atint; atblo = v; atbhi = t.atbhi; atcmd = t.atcmd }
    else record { aterr = t.aterr; atint = t.atint; atblo = t.atblo; atbhi = v; atcmd = t.atcmd }

unfoldable pub write_task : Controller → ℕ → ℕ → Step
write_task c reg v =
    guarded c ((ltb 255 v, 3) ∷ [])
    (done (c ▹ task≔ (with_task c.task reg v)))

-- ATSTA (37h): status bits 6, 4, 2, 0; bit 7 ignored, DRQ cleared, barred as 17h
unfoldable pub write_atsta : Controller → ℕ → Step
write_atsta c v =
    guarded c ((not (only (7 ∷ 6 ∷ 4 ∷ 2 ∷ 0 ∷ []) v), 3) ∷ (engaged c, 4) ∷ [])
    (done (c ▹ drdy≔ (bit v 6) ▹ dsc≔ (bit v 4) ▹ corr≔ (bit v 2) ▹ check≔ (bit v 0) ▹ drq≔ false))

-- APKSTA (3Dh): bit 4 ADSC
unfoldable pub write_apksta : Controller → ℕ → Step
write_apksta c v =
    guarded c ((not (only (4 ∷ []) v), 3) ∷ [])
    (done (c ▹ adsc≔ (bit v 4)))

-- ASCSTA (3Eh): bits 6, 2, 0
unfoldable pub write_ascsta : Controller → ℕ → Step
write_ascsta c v =
    guarded c ((not (only (6 ∷ 2 ∷ 0 ∷ []) v), 3) ∷ [])
    (done (c ▹ ascsta≔ (record { drdy = bit v 6; corr = bit v 2; check = bit v 0 })))

-- BICCTL (9Ah): bits 5 BLIMEN, 4 BLIMS; DECEN must be low
unfoldable pub write_bicctl : Controller → ℕ → Step
write_bicctl c v =
    guarded c ((not (only (5 ∷ 4 ∷ []) v), 3) ∷ (c.buffering.decen, 5) ∷ [])
    (done (c ▹ blimen≔ (bit v 5) ▹ blims≔ (bit v 4)))

-- BUFLIM (9Bh): 0..N-2; DECEN must be low
unfoldable pub write_buflim : Controller → ℕ → ℕ → Step
write_buflim c v n =
    guarded c ((ltb n (v + 2), 3) ∷ (c.buffering.decen, 5) ∷ [])
    (done (c ▹ buflim≔ v))

-- ACCTL (9Ch): 7 ATTEN, 6 ACMEN, 5 TCINCEN, 4..0 ATLIM; barred in a transfer; changing bit 5 needs DECEN low; ACMEN low sets TTC to 0
abbrev pub acctl_of : ℕ → Acctl
acctl_of v = record { atten = bit v 7; acmen = bit v 6; tcincen = bit v 5; atlim = v % 32 }

unfoldable pub write_acctl : Controller → ℕ → Step
write_acctl c v =
    guarded c ((ltb 255 v, 3) ∷ (c.transfer.running, 4) ∷ (c.buffering.decen && differs (bit v 5) c.acctl.tcincen, 5) ∷ [])
    (if bit v 6 then done (c ▹ acctl≔ (acctl_of v))
    else done (c ▹ acctl≔ (acctl_of v) ▹ ttc≔ 0))

-- TCC (9Dh): a write may lower TCC, never raise it; barred in a transfer; DECEN low; BUFC and B follow
unfoldable pub write_tcc : Controller → ℕ → Step
write_tcc c v =
    guarded c ((ltb 255 v, 3) ∷ (c.transfer.running, 4) ∷ (c.buffering.decen, 5) ∷ (ltb c.counts.tcc v, 6) ∷ [])
    (replied (c ▹ tcc≔ v ▹ bufc≔ v) (Rewind v) 0)

-- SKIPC (9Eh): TCC and BUFC less v (BUFC not below 0), T plus v; barred in a transfer; with ACMEN low done and nothing changes
unfoldable pub write_skipc : Controller → ℕ → Step
write_skipc c v =
    guarded c ((ltb 255 v, 3) ∷ (c.transfer.running, 4) ∷ [])
    (if not c.acctl.acmen then done c
    else if ltb c.counts.tcc v then refused c 6
    else replied (c ▹ tcc≔ (c.counts.tcc - v) ▹ bufc≔ (c.counts.bufc - v)) (Advance v) 0)

-- TTC (9Fh): barred in a transfer; with ACMEN low done and nothing changes
unfoldable pub write_ttc : Controller → ℕ → Step
write_ttc c v =
    guarded c ((ltb 255 v, 3) ∷ (c.transfer.running, 4) ∷ [])
    (if not c.acctl.acmen then done c
    else done (c ▹ ttc≔ v))

-- the registers that are written; 9Bh is told N
unfoldable pub write : Controller → ℕ → ℕ → ℕ → Step
write c reg v n =
    if eqb reg 0x07 then write_tack c v
    else if eqb reg 0x0A then write_ctrl0 c v
    else if eqb reg 0x12 then write_mbtc0 c v
    else if eqb reg 0x17 then write_astrg c v
    else if eqb reg 0x18 then write_asctrl c v
    else if eqb reg 0x31 then write_task c reg v
    else if eqb reg 0x32 then write_task c reg v
    else if eqb reg 0x34 then write_task c reg v
    else if eqb reg 0x35 then write_task c reg v
    else if eqb reg 0x37 then write_atsta c v
    else if eqb reg 0x3D then write_apksta c v
    else if eqb reg 0x3E then write_ascsta c v
    else if eqb reg 0x9A then write_bicctl c v
    else if eqb reg 0x9B then write_buflim c v n
    else if eqb reg 0x9C then write_acctl c v
    else if eqb reg 0x9D then write_tcc c v
    else if eqb reg 0x9E then write_skipc c v
    else if eqb reg 0x9F then write_ttc c v
    else refused c 2
