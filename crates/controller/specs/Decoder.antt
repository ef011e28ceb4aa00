-- A sector from the disc (paper 01, "The ring"; 001, BICCTL (9Ah), BUFC (9Bh), TCC (9Dh), TARSTA (80h); paper 02, ask 1). Assumes nothing.
use Rattle.std.specs.Prelude.{ℕ, ◌+◌, Bool, true, not, leb, if◌then◌else◌}
use Rattle.sector.specs.Address.{next}
use Rattle.sector.specs.Judge.{good, tarsta_byte}
use Rattle.sector.specs.declared.Judgement.{Judgement}
use Rattle.controller.specs.Fields.{◌▹◌, tcc≔, bufc≔, held≔, expected≔, judgement≔}
use Rattle.controller.specs.Step.{Step, replied}
use Rattle.controller.specs.declared.state.Controller.{Controller}
use Rattle.controller.specs.declared.step.Event.TheVariants.{Store}

-- the stop: BLIMS low, when the ring is full, (B+1) mod N = T; BLIMS high, when BUFC has reached BUFLIM or is above it (H: no overshoot)
abbrev pub at_stop : Controller → Bool → Bool
at_stop c full = if c.buffering.blims then leb c.buffering.buflim c.counts.bufc else full

-- the reply number of a sector before a byte of it is moved: 7 with DECEN low, 8 while held, 9 at the stop
unfoldable pub admission : Controller → Bool → ℕ
admission c full =
    if not c.buffering.decen then 7
    else if c.counts.held then 8
    else if at_stop c full then 9
    else 0

-- a sector was stored and judged: BUFC goes up by 1, its facts are kept, and 80h, made of them, is the result; a good one lets TCC and the expected
-- address go up by 1, after a bad one the chip is held (H)
unfoldable pub counted : Controller → Judgement → Step
counted c j =
    if good j
    then replied (c ▹ bufc≔ (c.counts.bufc + 1) ▹ judgement≔ j ▹ tcc≔ (c.counts.tcc + 1) ▹ expected≔ (next c.expected)) Store (tarsta_byte j)
    else replied (c ▹ bufc≔ (c.counts.bufc + 1) ▹ judgement≔ j ▹ held≔ true) Store (tarsta_byte j)
