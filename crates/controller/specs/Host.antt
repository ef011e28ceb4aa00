-- The host's side (paper 01, "Host and transfers"; 001, ASCTRL (18h), ATSTA (37h), APKSTA (3Dh)). Assumes nothing.
use Rattle.std.specs.Prelude.{ℕ, ◌+◌, ◌-◌, ◌*◌, ◌/◌, ◌%◌, true, false, ◌&&◌, ◌||◌, not, [], ◌∷◌, ltb, eqb, replicate, set, if◌then◌else◌}
use Rattle.controller.specs.Fields.{◌▹◌, tcc≔, bufc≔, ttc≔, apkten≔, bsy≔, drdy≔, dsc≔, drq≔, corr≔, check≔, aterr≔, atint≔, atcmd≔, running≔, left≔, position≔, apkt≔, fpkt≔, receiving≔, received≔, bytes≔, hirq≔}
use Rattle.controller.specs.Read.{atsta_byte}
use Rattle.controller.specs.Step.{Step, replied, done, guarded}
use Rattle.controller.specs.Transfer.{engaged, completed, signed}
use Rattle.controller.specs.declared.state.Controller.{Controller}
use Rattle.controller.specs.declared.step.Event.TheVariants.{Stay, Advance}

-- end steps: with ADCEN DRQ=0, BSY=1; with ASCEN completion
unfoldable pub data_ended : Controller → Controller
data_ended c = if c.asctrl.adcen then c ▹ drq≔ false ▹ bsy≔ true else c

unfoldable pub ended : Controller → Controller
ended c = if c.asctrl.ascen then completed (data_ended c) else data_ended c

-- a block's last word was read: TCC, BUFC and TTC go down by 1 (BUFC and TTC stay at 0), the next block begins
abbrev pub block_taken : Controller → Controller
block_taken c =
    c ▹ tcc≔ (c.counts.tcc - 1) ▹ bufc≔ (c.counts.bufc - 1) ▹ ttc≔ (c.counts.ttc - 1)
    ▹ left≔ (c.transfer.left - 1) ▹ position≔ 0

-- host word: without a transfer 5; after a block's last word T goes up; after the last block the end steps follow
unfoldable pub host_word : Controller → Step
host_word c =
    guarded c ((not c.transfer.running, 5) ∷ [])
    (if ltb (c.transfer.position + 1) c.window.words then done (c ▹ position≔ (c.transfer.position + 1))
    else if ltb 1 c.transfer.left then replied (block_taken c) (Advance 1) 0
    else replied (ended (block_taken c ▹ running≔ false)) (Advance 1) 0)

-- A0h with APKTEN, after HIRQ=0: a packet is to be received; DSC is ADSC (H: the entry of 3Dh decides)
abbrev pub packet_begun : Controller → Controller
packet_begun c =
    c ▹ apkt≔ true ▹ fpkt≔ false ▹ bytes≔ (replicate 12 0) ▹ received≔ 0 ▹ receiving≔ true ▹ aterr≔ 0 ▹ atint≔ 1
    ▹ check≔ false ▹ corr≔ false ▹ drq≔ true ▹ dsc≔ c.adsc ▹ drdy≔ true ▹ hirq≔ c.asctrl.a0ien ▹ apkten≔ false ▹ bsy≔ false

-- host command: barred by BSY, a transfer or reception; HIRQ=0, opcode kept; A0h with APKTEN as above, any other sets BSY
unfoldable pub host_command : Controller → ℕ → Step
host_command c v =
    guarded c ((ltb 255 v, 3) ∷ (c.atsta.bsy || engaged c, 4) ∷ [])
    (if eqb v 0xA0 && c.asctrl.apkten then done (packet_begun (c ▹ hirq≔ false ▹ atcmd≔ v))
    else done (c ▹ hirq≔ false ▹ atcmd≔ v ▹ bsy≔ true))

-- the packet with a word more, its first byte low
abbrev pub packet_more : Controller → ℕ → Controller
packet_more c w =
    c ▹ bytes≔ (set (set c.packet.bytes (2 * c.packet.received) (w % 256)) (2 * c.packet.received + 1) (w / 256))
    ▹ received≔ (c.packet.received + 1)

-- packet word: without a reception 5; the sixth sets FPKT and does the end steps
unfoldable pub packet_word : Controller → ℕ → Step
packet_word c w =
    guarded c ((not c.packet.receiving, 5) ∷ [])
    (if ltb c.packet.received 5 then done (packet_more c w)
    else done (ended (packet_more c w ▹ received≔ 0 ▹ receiving≔ false ▹ fpkt≔ true)))

-- host status read: the byte, and HIRQ=0
abbrev pub host_status : Controller → Step
host_status c = replied (c ▹ hirq≔ false) Stay (atsta_byte c)

-- SRST: ends a transfer or reception; TTC, BSY, HIRQ, APKT, FPKT are 0 (H); DSC stays, other status bits 0, 34h and 35h as 17h = 10h has them
abbrev pub host_srst : Controller → Step
host_srst c =
    done (signed (c ▹ running≔ false ▹ left≔ 0 ▹ position≔ 0 ▹ receiving≔ false ▹ received≔ 0 ▹ ttc≔ 0 ▹ bsy≔ false ▹ hirq≔ false ▹ apkt≔ false ▹ fpkt≔ false))
