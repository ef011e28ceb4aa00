-- Named calls (paper 01, "Registers", last paragraph), their tests in the order of the reply numbers. Assumes nothing.
use Rattle.std.specs.Prelude.{ℕ, ◌+◌, ◌*◌, Bool, ◌&&◌, ◌||◌, not, [], ◌∷◌, ltb, leb, eqb, get_or}
use Rattle.sector.specs.Address.{valid}
use Rattle.sector.specs.declared.Address.{Address}
use Rattle.controller.specs.Fields.{◌▹◌, window≔, expected≔}
use Rattle.controller.specs.State.{initial}
use Rattle.controller.specs.Step.{Step, replied, done, guarded}
use Rattle.controller.specs.declared.state.Controller.{Controller}
use Rattle.controller.specs.declared.step.Event.TheVariants.{Stay, Move, Clear}

-- set T, below N; barred in a transfer; needs DECEN low and TCC 0; B follows
unfoldable pub set_block : Controller → ℕ → ℕ → Step
set_block c t n =
    guarded c ((leb n t, 3) ∷ (c.transfer.running, 4) ∷ (c.buffering.decen || not (eqb c.counts.tcc 0), 5) ∷ [])
    (replied c (Move t) 0)

-- a window of 1..1,176 words whose end is not above 2,352
abbrev pub window_fits : ℕ → ℕ → Bool
window_fits offset words = ltb 0 words && leb words 1176 && leb (offset + 2 * words) 2352

-- window; barred in a transfer
unfoldable pub set_window : Controller → ℕ → ℕ → Step
set_window c offset words =
    guarded c ((not (window_fits offset words), 3) ∷ (c.transfer.running, 4) ∷ [])
    (done (c ▹ window≔ (record { offset = offset; words = words })))

-- expected address; DECEN low
unfoldable pub set_expected : Controller → Address → Step
set_expected c a =
    guarded c ((not (valid a), 3) ∷ (c.buffering.decen, 5) ∷ [])
    (done (c ▹ expected≔ a))

-- packet byte 0..11; 6 if FPKT is 0
unfoldable pub packet_byte : Controller → ℕ → Step
packet_byte c index =
    guarded c ((ltb 11 index, 3) ∷ (not c.packet.fpkt, 6) ∷ [])
    (replied c Stay (get_or c.packet.bytes index 0))

-- chip reset: all as opened
abbrev pub reset : Controller → Step
reset c = replied initial Clear 0
