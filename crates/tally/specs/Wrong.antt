-- Machines whose counters are not the tally's (paper 02, ask 6; paper 01, "Slips seen on other boards"), each the chip but for one call: the one of `claims`
-- whose SRST counts a half-read block as taken, and one whose skip skips with ACMEN low. Assumes nothing.
use Rattle.std.specs.Prelude.{◌-◌, ◌&&◌, not, eqb, if◌then◌else◌}
use Rattle.controller.specs.Fields.{◌▹◌, tcc≔, bufc≔}
use Rattle.controller.specs.declared.step.Event.TheVariants.{Advance}
use Rattle.ring.specs.Place.{place_step}
use Rattle.calls.specs.Choice.{if_write}
use Rattle.outcomes.specs.Machine.{Call, plain, sector, look, word, number, Machine}
use Rattle.chip.specs.Machine.{State, over, chip_answer, chip_step, the_chip}
use Rattle.claims.specs.Wrong.{taking_abort}
use Rattle.tally.specs.Claims.{Tallied}

-- the counters are not the tally's
abbrev pub Untallied : Machine → Type 0
Untallied M = Tallied M → ⊥

-- a skip that is done with ACMEN low skips as one with ACMEN high
unfoldable pub skip_without_acmen_step : Call → State → State
skip_without_acmen_step (plain c) s =
    if_write c
    (λ reg v.
    if eqb reg 0x9E && not s.chip.controller.acctl.acmen && eqb (number (chip_answer (plain c) s)) 0
    then
    over
    (record {
      controller = s.chip.controller ▹ tcc≔ (s.chip.controller.counts.tcc - v) ▹ bufc≔ (s.chip.controller.counts.bufc - v);
      place = place_step s.chip.place (Advance v);
    })
    s.ring
    else chip_step (plain c) s)
    (chip_step (plain c) s)
skip_without_acmen_step (sector x) s = chip_step (sector x) s
skip_without_acmen_step look s = chip_step look s
skip_without_acmen_step word s = chip_step word s

abbrev pub skipping_without_acmen : Machine
skipping_without_acmen = record { State = State; opened = the_chip.opened; answer = chip_answer; step = skip_without_acmen_step; facts = the_chip.facts }

pub record RefutedClaim : Type 0 where
  pub half_read_taken : Untallied taking_abort
  pub skip_without_acmen : Untallied skipping_without_acmen
