-- When a chip record is sound (paper 01, "Reply numbers"), test by test in the paper's order. Assumes nothing.
use Rattle.std.specs.Prelude.{◌+◌, Bool, ◌&&◌, ◌||◌, not, List, [], ◌∷◌, ltb, leb, eqb}
use Rattle.laws.specs.All.{all}
use Rattle.sector.specs.Address.{valid}
use Rattle.controller.specs.Named.{window_fits}
use Rattle.controller.specs.declared.state.Controller.{Controller}
use Rattle.controller.specs.declared.state.Window.{Window}
use Rattle.chip.specs.declared.Chip.{Chip}

-- a window in its range, or none, which has 0 words
abbrev pub window_sound : Window → Bool
window_sound w = eqb w.words 0 || window_fits w.offset w.words

-- a running transfer has blocks left, not more than TCC, and a position inside its window
abbrev pub transfer_sound : Controller → Bool
transfer_sound c =
    not c.transfer.running
    || (ltb 0 c.transfer.left && leb c.transfer.left c.counts.tcc && ltb c.transfer.position c.window.words)

-- N 3..255; T and B below N; TCC and BUFC below N; window; expected address; a running transfer; and the other kept numbers: the last decoded
-- block below N, BUFLIM 0..N-2, TTC 0..255, MBC and ATLIM 0..31, packet words 0..5
abbrev pub tests : Chip → List Bool
tests c =
    leb 3 c.place.n ∷ leb c.place.n 255
    ∷ ltb c.place.t c.place.n ∷ ltb c.place.b c.place.n
    ∷ ltb c.controller.counts.tcc c.place.n ∷ ltb c.controller.counts.bufc c.place.n
    ∷ window_sound c.controller.window ∷ valid c.controller.expected
    ∷ transfer_sound c.controller
    ∷ ltb c.place.last c.place.n ∷ leb (c.controller.buffering.buflim + 2) c.place.n
    ∷ leb c.controller.counts.ttc 255 ∷ leb c.controller.mbc 31 ∷ leb c.controller.acctl.atlim 31
    ∷ ltb c.controller.packet.received 6
    ∷ []

unfoldable pub sound : Chip → Bool
sound c = all (tests c)
