-- The chip record: the controller and the ring's place; its opening, and how a controller step becomes an answer (paper 01, "Reply numbers",
-- "The ring"). Assumes nothing.
use Rattle.std.specs.Prelude.{ℕ, ◌*◌, Bool, ◌&&◌, List, leb, eqb, length, Result, Ok, Err, if◌then◌else◌}
use Rattle.reply.specs.Reply.{answer, number}
use Rattle.reply.specs.declared.Refusal.{Refusal}
use Rattle.controller.specs.Step.{Step}
use Rattle.controller.specs.Fields.{◌▹◌, position≔}
use Rattle.controller.specs.State.{initial}
use Rattle.ring.specs.Place as ring
use Rattle.ring.specs.Place.{place_step}
use Rattle.ring.specs.declared.Place.{Place}
use Rattle.chip.specs.declared.Chip.{Chip}
use Rattle.chip.specs.Told.{Told, refused}

-- a record of no blocks, with all else as opened
abbrev pub closed : Chip
closed = record { controller = initial; place = ring.opened 0 }

-- opening: N outside 3..255 is 1, and gives a record with N = 0
unfoldable pub opened : ℕ → Told
opened n =
    if leb 3 n && leb n 255 then record { chip = record { controller = initial; place = ring.opened n }; reply = answer 0 }
    else refused closed 1

-- the answer of an opening
abbrev pub opened_of : Result Chip Refusal → Told
opened_of (Ok c) = record { chip = c; reply = answer 0 }
opened_of (Err r) = refused closed (number r)

-- the chip at another position in its transfer
abbrev pub at_position : Chip → ℕ → Chip
at_position c p = record { controller = c.controller ▹ position≔ p; place = c.place }

-- the lent ring has N blocks
abbrev pub ring_fits : Chip → List ℕ → Bool
ring_fits c ring = eqb (length ring) (c.place.n * 2560)

-- the answer of a chip whose controller has taken a step: its event moves the place
abbrev pub finished : Place → Step → Told
finished p s = record { chip = record { controller = s.controller; place = place_step p s.event }; reply = s.reply }
