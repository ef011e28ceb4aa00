-- Transfers (paper 01, "Host and transfers"; paper 02, ask 3; 001, ASTRG (17h), ACCTL (9Ch), TTC (9Fh); SFF-8020 for the interrupt reasons). Assumes nothing.
use Rattle.std.specs.Prelude.{ℕ, ◌+◌, ◌-◌, ◌*◌, ◌/◌, ◌%◌, min, Bool, true, false, ◌&&◌, ◌||◌, not, [], ◌∷◌, ltb, eqb, if◌then◌else◌}
use Rattle.controller.specs.Fields.{◌▹◌, mbc≔, atint≔, atblo≔, atbhi≔, bsy≔, drdy≔, drq≔, corr≔, check≔, hirq≔, running≔, left≔, position≔, apkten≔, ascen≔}
use Rattle.controller.specs.Step.{Step, done, guarded}
use Rattle.controller.specs.declared.state.Controller.{Controller}

-- a transfer runs, or a packet is being received: what bars 17h, 18h, 37h and a second start
abbrev pub engaged : Controller → Bool
engaged c = c.transfer.running || c.packet.receiving

-- a start needs ACMEN, ADCEN, a window and BSY
abbrev pub start_switches : Controller → Bool
start_switches c = c.acctl.acmen && c.asctrl.adcen && not (eqb c.window.words 0) && c.atsta.bsy

-- ATLIM, with 0 read as 32
abbrev pub limit : Controller → ℕ
limit c = if eqb c.acctl.atlim 0 then 32 else c.acctl.atlim

-- the most blocks of so many words whose bytes do not pass 65,534 (paper 02, ask 3)
abbrev pub most_blocks : ℕ → ℕ
most_blocks words = 65534 / (words * 2)

-- the blocks that are asked for: MBC+1, or if TTC is not 0 the least of ATLIM, TCC and TTC
abbrev pub blocks_asked : Controller → ℕ
blocks_asked c = if eqb c.counts.ttc 0 then c.mbc + 1 else min (limit c) (min c.counts.tcc c.counts.ttc)

-- the blocks of a start: those, but not above the bound
abbrev pub start_blocks : Controller → ℕ
start_blocks c = min (blocks_asked c) (most_blocks c.window.words)

-- TCC is 0, which leaves a start no block, or is below the blocks of the start
abbrev pub blocks_lacking : Controller → Bool
blocks_lacking c = eqb (start_blocks c) 0 || ltb c.counts.tcc (start_blocks c)

-- with STWCEN 35h/34h take (MBC+1) times words times 2
unfoldable pub byte_count : Controller → Controller
byte_count c =
    if not c.asctrl.stwcen then c
    else c ▹ atblo≔ ((c.mbc + 1) * c.window.words * 2 % 256) ▹ atbhi≔ ((c.mbc + 1) * c.window.words * 2 / 256)

-- MBC+1 blocks begin to be transferred: 32h=02h, DRQ=1, BSY=0, HIRQ=1
abbrev pub begun : Controller → Controller
begun c = c ▹ atint≔ 2 ▹ drq≔ true ▹ bsy≔ false ▹ hirq≔ true ▹ running≔ true ▹ left≔ (c.mbc + 1) ▹ position≔ 0

-- a start whose needs hold: MBC becomes its blocks less 1
abbrev pub started : Controller → Controller
started c = begun (byte_count (c ▹ mbc≔ (start_blocks c - 1)))

-- the start by 17h, where it is not barred
unfoldable pub start : Controller → Step
start c =
    guarded c ((not (start_switches c), 5) ∷ (blocks_lacking c, 6) ∷ [])
    (done (started c))

-- after an accepted call the same start happens by itself with ATTEN and TTC set and nothing running; one that is refused, as with TCC 0,
-- changes nothing
unfoldable pub settled : Controller → Controller
settled c = if c.acctl.atten && not (eqb c.counts.ttc 0) && not (engaged c) then (start c).controller else c

-- the end of every call: an accepted one lets a start follow
unfoldable pub concluded : Step → Step
concluded s =
    if eqb s.reply.number 0 then record { controller = settled s.controller; event = s.event; reply = s.reply }
    else s

-- status completion: CHECK, CORR, DRDY from 3Eh; DRQ=0; 32h=03h; BSY=0; HIRQ=1; APKTEN=1 if AUTOEN; ASCEN=0
abbrev pub completed : Controller → Controller
completed c =
    c ▹ check≔ c.ascsta.check ▹ corr≔ c.ascsta.corr ▹ drdy≔ c.ascsta.drdy ▹ drq≔ false
    ▹ atint≔ 3 ▹ bsy≔ false ▹ hirq≔ true ▹ apkten≔ (c.asctrl.apkten || c.asctrl.autoen) ▹ ascen≔ false

-- the ATAPI signature: 34h=14h, 35h=EBh; status keeps BSY and DSC, the rest 0
abbrev pub signed : Controller → Controller
signed c = c ▹ atblo≔ 0x14 ▹ atbhi≔ 0xEB ▹ drdy≔ false ▹ drq≔ false ▹ corr≔ false ▹ check≔ false
