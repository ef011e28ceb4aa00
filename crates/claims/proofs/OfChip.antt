-- The claims of the chip: what is proved of any machine with demand 3, or of one that simulates the row machine, said of the chip. Assumes nothing.
use Prim.Native.Nat.{ℕ}
use Rattle.chip.specs.Machine.{the_chip}
use Rattle.claims.specs.Cases.{CasesMet}
use Rattle.claims.specs.Pins.{Pins, PinsMet}
use Rattle.claims.specs.Letter.{Accounted, NeverAgain}
use Rattle.claims.specs.Runs.{MetClaim}
use Rattle.claims.specs.Starts.{StartsMet}
use Rattle.claims.specs.Wrong.{ShutOut, bad_restart, taking_abort, constant_word, keeping_refused}
use Rattle.claims.proofs.CasesMet as cases
use Rattle.claims.proofs.Demand3.{row_demand3, demand3}
use Rattle.claims.proofs.Letter.{accounted_by, never_again_by}
use Rattle.claims.proofs.MetRuns as runs
use Rattle.claims.proofs.Pins as table
use Rattle.claims.proofs.PinsMet as numbers
use Rattle.claims.proofs.Refines.{refined_sound, chip_simulates}
use Rattle.claims.proofs.StartsMet as starts
use Rattle.claims.proofs.WrongAbort as abort
use Rattle.claims.proofs.WrongFacts as facts
use Rattle.claims.proofs.WrongRestart as restart
use Rattle.claims.proofs.WrongWord as words

pub accounted : Accounted the_chip
accounted = accounted_by the_chip demand3

pub never_again : NeverAgain the_chip
never_again = never_again_by the_chip demand3

pub met : MetClaim
met = runs.met chip_simulates

pub cases_met : CasesMet
cases_met = cases.cases_met chip_simulates (λ s r h. h) refined_sound

pub pins : Pins
pins = table.pins chip_simulates

pub pins_met : PinsMet
pins_met = numbers.pins_met chip_simulates (λ s r h. h) refined_sound

pub starts_met : StartsMet
starts_met = starts.starts_met chip_simulates (λ s r h. h) refined_sound

pub bad_restart_fails : ShutOut bad_restart
bad_restart_fails = restart.bad_restart_fails row_demand3

pub taking_abort_fails : ShutOut taking_abort
taking_abort_fails = abort.taking_abort_fails row_demand3

pub constant_word_fails : (k : ℕ) → ShutOut (constant_word k)
constant_word_fails k = words.constant_word_fails k chip_simulates row_demand3

pub keeping_refused_fails : ShutOut keeping_refused
keeping_refused_fails = facts.keeping_refused_fails
