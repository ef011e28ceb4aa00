-- Four machines that make a slip, each the chip but for one call: three that paper 01 names ("What the contracts must pin", "Slips seen on other
-- boards"), and one that keeps the facts of a refused sector (paper 02, ask 1). proofs/WrongRestart.antt, WrongAbort.antt, WrongWord.antt and
-- WrongFacts.antt show that demand 3 shuts them out. Assumes nothing.
use Rattle.std.specs.Prelude.{ℕ, ◌-◌, ◌&&◌, not, eqb, if◌then◌else◌}
use Rattle.sector.specs.Receive.{received}
use Rattle.controller.specs.Fields.{◌▹◌, tcc≔, bufc≔, judgement≔}
use Rattle.controller.specs.declared.step.Event.TheVariants.{Advance}
use Rattle.ring.specs.Place.{place_step}
use Rattle.calls.specs.Choice.{if_write, if_srst}
use Rattle.outcomes.specs.Machine.{Call, plain, sector, look, word, Answer, handed, number, Machine}
use Rattle.chip.specs.Machine.{State, over, chip_answer, chip_step, the_chip}
use Rattle.claims.specs.Demand3.{Demand3}

-- demand 3 fails
abbrev pub ShutOut : Machine → Type 0
ShutOut M = Demand3 M → ⊥

-- DECEN taken low does not take B back, so that a bad block is served next
unfoldable pub restart_step : Call → State → State
restart_step (plain c) s =
    if_write c
    (λ reg v.
    if eqb reg 0x0A && eqb v 0
    then over (record { controller = (chip_step (plain c) s).chip.controller; place = s.chip.place }) s.ring
    else chip_step (plain c) s)
    (chip_step (plain c) s)
restart_step (sector x) s = chip_step (sector x) s
restart_step look s = chip_step look s
restart_step word s = chip_step word s

abbrev pub bad_restart : Machine
bad_restart = record { State = State; opened = the_chip.opened; answer = chip_answer; step = restart_step; facts = the_chip.facts }

-- SRST counts a half-read block as taken
unfoldable pub abort_step : Call → State → State
abort_step (plain c) s =
    if_srst c
    (if s.chip.controller.transfer.running && not (eqb s.chip.controller.transfer.position 0)
    then
    over
    (record {
      controller =
          (chip_step (plain c) s).chip.controller ▹ tcc≔ (s.chip.controller.counts.tcc - 1) ▹ bufc≔ (s.chip.controller.counts.bufc - 1);
      place = place_step s.chip.place (Advance 1);
    })
    s.ring
    else chip_step (plain c) s)
    (chip_step (plain c) s)
abort_step (sector x) s = chip_step (sector x) s
abort_step look s = chip_step look s
abort_step word s = chip_step word s

abbrev pub taking_abort : Machine
taking_abort = record { State = State; opened = the_chip.opened; answer = chip_answer; step = abort_step; facts = the_chip.facts }

-- every word that is handed over is k
unfoldable pub constant_answer : ℕ → Call → State → Answer
constant_answer k (plain c) s = chip_answer (plain c) s
constant_answer k (sector x) s = chip_answer (sector x) s
constant_answer k look s = chip_answer look s
constant_answer k word s = if eqb (number (chip_answer word s)) 0 then handed k else chip_answer word s

abbrev pub constant_word : ℕ → Machine
constant_word k = record { State = State; opened = the_chip.opened; answer = constant_answer k; step = chip_step; facts = the_chip.facts }

-- a sector that is refused is judged all the same, and its facts are kept. Two rings of it would show the same facts, one wrong as the other: it is the
-- book that shuts it out.
unfoldable pub refused_step : Call → State → State
refused_step (plain c) s = chip_step (plain c) s
refused_step (sector x) s =
    if eqb (number (chip_answer (sector x) s)) 0 then chip_step (sector x) s
    else
    over
    (record { controller = s.chip.controller ▹ judgement≔ (received s.chip.controller.expected x).judgement; place = s.chip.place })
    s.ring
refused_step look s = chip_step look s
refused_step word s = chip_step word s

abbrev pub keeping_refused : Machine
keeping_refused = record { State = State; opened = the_chip.opened; answer = chip_answer; step = refused_step; facts = the_chip.facts }
