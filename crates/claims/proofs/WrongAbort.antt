-- A machine whose SRST counts a half-read block as taken is shut out: the next word is the younger sector's. Assumes nothing.
use Prim.Native.Nat.{ℕ, ◌*◌}
use mathlib.Core.Path.{◌≡◌, refl}
use mathlib.Core.Bool.{true}
use mathlib.Core.List.{List, [], ◌∷◌, ◌++◌}
use native.Mathlib.Omega.{arith}
use lib.ListN.{length, replicate, length-replicate}
use Rattle.sector.specs.Address.{next}
use Rattle.parity.specs.Parity.{with_parity}
use Rattle.sector.specs.Sector.{body, framed}
use Rattle.sector.specs.Sector as sectors
use Rattle.controller.specs.Calls.{stepped}
use Rattle.controller.specs.Decoder.{admission, counted}
use Rattle.controller.specs.Fields.{◌▹◌, tcc≔, bufc≔, window≔, adcen≔, bsy≔, position≔}
use Rattle.controller.specs.Host.{host_word, host_command, host_srst}
use Rattle.controller.specs.Named.{set_window}
use Rattle.controller.specs.Transfer.{byte_count, started, start, settled, concluded}
use Rattle.controller.specs.Write as registers
use Rattle.controller.specs.declared.state.Controller.{Controller}
use Rattle.outcomes.specs.Machine.{word, handed, answers}
use Rattle.outcomes.specs.Row.{the_row}
use Rattle.ring.specs.Memory.{stored}
use Rattle.ring.specs.Place.{at}
use Rattle.ring.specs.Represents.{Represents}
use Rattle.ring.proofs.Represents.{represents_word, represents_advance}
use Rattle.chip.specs.Chip.{opened}
use Rattle.chip.specs.Calls.{called}
use Rattle.chip.specs.Sound.{sound}
use Rattle.chip.specs.Machine.{over, chip_answer, chip_step}
use Rattle.claims.specs.Demand3.{Demand3}
use Rattle.claims.specs.Runs.{encoded, write, command, srst, disc, set_up, transfer, ok}
use Rattle.claims.specs.Wrong.{ShutOut, abort_step, taking_abort}
use Rattle.claims.proofs.MetRuns.{row_met}
use Rattle.claims.proofs.OneBook.{shut_out}
use Rattle.claims.proofs.Runs.{calls, ◌then◌, frame, decoding, own}
use Rattle.claims.proofs.Stages.{chip_with, on_disc, on_word, one_stored, two_stored}
use Rattle.claims.proofs.Mode1.{length_encoded}

-- the controller when the transfer has started, and after an abort that takes the half-read block
abbrev moving : Controller
moving = started (decoding 2 ▹ window≔ (record { offset = 14; words = 2 }) ▹ adcen≔ true ▹ bsy≔ true)

abbrev aborted : Controller
aborted = (host_srst (moving ▹ position≔ 1)).controller ▹ tcc≔ 1 ▹ bufc≔ 1

module _ (x u : List ℕ) (fits : length x ≡ 3 * 2560) (size : length u ≡ 2352) where
  abbrev old : List ℕ
  old = encoded (frame 0) u

  abbrev young : List ℕ
  young = encoded (frame 1) u

  abbrev ring1 : List ℕ
  ring1 = stored x 0 old

  abbrev ring2 : List ℕ
  ring2 = stored ring1 1 young

  one : Represents (at 3 0 1 0) 1 1 ring1 (old ∷ [])
  one = one_stored x old young fits (length_encoded (frame 0) u size) (length_encoded (frame 1) u size)

  two : Represents (at 3 0 2 1) 2 2 ring2 (old ∷ young ∷ [])
  two = two_stored x old young fits (length_encoded (frame 0) u size) (length_encoded (frame 1) u size)

  left_over : Represents (at 3 1 2 1) 1 1 ring2 (young ∷ [])
  left_over = represents_advance two 1 (omega arith)

  run :
      answers taking_abort (set_up ++ disc u 0 ∷ disc u 1 ∷ transfer 14 2 ++ word ∷ srst ∷ command 0 ∷ write 0x17 0x04 ∷ word ∷ [])
      (taking_abort.opened 3 x)
      ≡ ok ∷ ok ∷ ok ∷ ok ∷ ok ∷ ok ∷ ok ∷ ok ∷ ok ∷ handed 256 ∷ ok ∷ ok ∷ ok ∷ handed 257 ∷ []
  unfolding abort_step chip_answer chip_step opened called sound stepped concluded settled admission counted next byte_count start registers.write registers.write_bicctl registers.write_acctl registers.write_ctrl0 registers.write_asctrl registers.write_astrg set_window host_word host_command sectors.encoded with_parity framed body
  run =
      (calls set_up (taking_abort.opened 3 x)
      then on_disc abort_step (λ _ _. refl) (λ _. refl) (decoding 0) (at 3 0 0 0) x refl fits u size 0 _ refl (own u size 0)
      then on_disc abort_step (λ _ _. refl) (λ _. refl) (decoding 1) (at 3 0 1 0) ring1 refl one.whole u size 1 _ refl (own u size 1)
      then calls (transfer 14 2) (over (chip_with (decoding 2) (at 3 0 2 1)) ring2)
      then on_word abort_step (λ _ _. refl) (λ _. refl) moving (at 3 0 2 1) ring2 refl two.whole 256 refl (represents_word two 14 (omega arith) (omega arith))
      then calls (srst ∷ command 0 ∷ write 0x17 0x04 ∷ []) (over (chip_with (moving ▹ position≔ 1) (at 3 0 2 1)) ring2)
      then on_word abort_step (λ _ _. refl) (λ _. refl) (started (aborted ▹ bsy≔ true)) (at 3 1 2 1) ring2 refl left_over.whole 257 refl
      (represents_word left_over 14 (omega arith) (omega arith))).told

module _ (D : Demand3 the_row) where
  by : (u : List ℕ) → length u ≡ 2352 → ShutOut taking_abort
  by u size =
      shut_out taking_abort the_row D (row_met u size).aborted_in_block (record { given = λ x fits. run x u fits size }) refl
      (λ e. let z : ◌≡◌ {A = ℕ} 257 256 = cc in omega arith)

  pub taking_abort_fails : ShutOut taking_abort
  taking_abort_fails = by (replicate 2352 0) (length-replicate {A = ℕ} 2352 0)
